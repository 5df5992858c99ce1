-- The three cases of the sweep to the next candidate: no candidate, a candidate that is no finding, a finding. Each is a case of `sweep_by`. The looks do not overflow:
-- those so far are at most 2^62, a window takes at most 256, there are at most 2^32 windows, and one verification takes at most 65,536.
use Prim.Native.Nat.{ℕ, ◌+◌, ◌-◌, ◌*◌, ◌≤◌, ◌<◌}
use mathlib.Core.Path.{◌≡◌, refl, ap}
use mathlib.Core.List.{List}
use native.Mathlib.Omega.{arith}
use lib.ListN.{length}
use borrow.Author.Tests.{lt-ltb, le-ltb}
use Rattle.findings.specs.declared.searching.Finding.{Finding as FindingStruct}
use Rattle.occurrences.specs.declared.table.EdgeVectors.{EdgeVectors}
use Rattle.windows.specs.Windows.{Parts, whole_line}
use Rattle.tally.specs.Counts.{most_counts, TallyResult, IsFindingAt}
use Rattle.findings.specs.Limits.{most_places}
use Rattle.tally.specs.declared.counts.Least.{Least}
use Rattle.std.specs.Prelude.{None, Some}
use Rattle.answers.specs.declared.places.LinePlace.{LinePlace}
use Rattle.sweep.specs.declared.sweeping.Sweep.{Sweep}
use Rattle.sweep.specs.declared.sweeping.Swept.TheVariants.{Ended, NoFinding, Found}
use Rattle.sweep.specs.declared.sweeping.WindowsRead.{WindowsRead}
use Rattle.sweep.specs.Reads.{windows_by}
use Rattle.sweep.specs.Sweeps.{swept_after, sweep_by, most_looks, CanSweep, IsTalliedBy, IsSweptTo}
use Rattle.sweep.proofs.WindowTurns.{WindowsGo, windows_within}
use Rattle.sweep.proofs.TallyWays.{most_tally, tally_looks_lem}

module _ (ring : List ℕ) (table : EdgeVectors) (p : Parts) (k : ℕ) (at : Sweep) (can : CanSweep (length ring) (length (whole_line (length ring) p)) at.start.0 at.looks)
    (read : WindowsRead) (read_is : read ≡ windows_by ring table p k at.start.0) where
  abbrev n : ℕ
  n = length (whole_line (length ring) p)

  within : WindowsGo n 0 (n + 1 - at.start.0) read
  within = rw read_is (windows_within ring table p k at.start.0 can.can_read)

  -- The looks so far and those of the windows read are together at most 2^62 + 256·2^32.
  pub sweep_looks_le : at.looks + read.looks ≤ most_looks + most_counts * most_places
  sweep_looks_le = omega (arith, within.looks_le, can.looks_le, can.can_read.most_line)

  -- The start reached is at most 2^32.
  pub sweep_start_le : read.start.0 ≤ most_places
  sweep_start_le = omega (arith, within.start_le, can.can_read.most_line)

module _ (ring doubled : List ℕ) (table : EdgeVectors) (p : Parts) (k : ℕ) (at : Sweep) (old : List ℕ) where
  abbrev m : ℕ
  m = length ring

  module _ (read : WindowsRead) (read_is : read ≡ windows_by ring table p k at.start.0) where
    -- If there is no candidate, the answer is `Ended`, and the counts stay as they were.
    pub way_ended : read.next ≡ None
        → IsSweptTo ring doubled table p k at old old (Ended (record { start = read.start; last = at.last; looks = at.looks + read.looks }))
    unfolding sweep_by swept_after
    way_ended none = record { is = rw (← read_is, none) refl }

    module _ {after : LinePlace} (stopped : read.next ≡ Some after) (new : List ℕ) (z : Least) (tallied : IsTalliedBy ring doubled p read.start.0 at.last old new z) where
      -- With the looks of the candidate's verification added, the sum is at most 2^62 + 256·2^32 + 65,536.
      pub sweep_all_looks_le : CanSweep m (length (whole_line m p)) at.start.0 at.looks
          → at.looks + read.looks + z.looks ≤ most_looks + most_counts * most_places + most_tally
      sweep_all_looks_le can =
          omega (
            arith,
            sweep_looks_le ring table p k at can read read_is,
            ap (λ (t : TallyResult). t.looks) tallied.is,
            tally_looks_lem ring doubled p read.start.0 old at.last can.can_read.most,
          )

      abbrev next : Sweep
      next = record { start = after; last = Some read.start; looks = at.looks + read.looks + z.looks }

      -- If the candidate's least count is above k, the answer is `NoFinding`.
      pub way_none : k < z.least → IsSweptTo ring doubled table p k at old new (NoFinding next)
      unfolding sweep_by swept_after
      way_none far = record { is = rw (← read_is, stopped, ← tallied.is, lt-ltb k z.least far) refl }

      -- If the candidate's least count is at most k, the answer is `Found`, with the finding that `finding_at` returns.
      pub way_found : (f : FindingStruct) → z.least ≤ k → IsFindingAt m new read.start z.least f → IsSweptTo ring doubled table p k at old new (Found next f)
      unfolding sweep_by swept_after
      way_found f near found = record { is = rw (← read_is, stopped, ← tallied.is, le-ltb k z.least near, ← found.is) refl }
