-- Laws of a run of windows that are stopped (`StoppedTo`), by induction on the run. Their starts rise and are at most n + 1. No start from
-- the first of them up to the next window is a finding, so the invariant of the loop over windows (`ScanLoop` of crates/meaning) holds after them too.
use Prim.Native.Nat.{ℕ, ◌+◌, ◌≤◌}
use mathlib.Core.List.{List}
use Rattle.std.specs.Prelude.{Option}
use native.Mathlib.Nat.{add-zero, add_assoc}
use native.Mathlib.Omega.{arith}
use lib.ListN.{length}
use Rattle.meaning.specs.Findings.{Finding}
use Rattle.meaning.specs.Rules.{read_window}
use Rattle.meaning.proofs.ScanLoop.{ScanLoop, scan_stopped}
use Rattle.sweep.specs.SweepRules.{StoppedTo, none_stopped, one_stopped}

module _ (ring line : List ℕ) (k from : ℕ) where
  -- After a run of stopped windows, the next window does not start before the first one.
  pub stopped_from_le : {i looks : ℕ} → StoppedTo ring line k from i looks → from ≤ i
  stopped_from_le none_stopped = omega arith
  stopped_from_le (one_stopped before in_line many) = omega (arith, stopped_from_le before)

  -- After a run of stopped windows that begins at n + 1 at most, the next window starts at n + 1 at most.
  pub stopped_start_le : {i looks : ℕ} → from ≤ length line + 1 → StoppedTo ring line k from i looks → i ≤ length line + 1
  stopped_start_le l none_stopped = l
  stopped_start_le l (one_stopped before in_line many) = omega (arith, in_line)

  -- The invariant of the loop over windows holds after a run of stopped windows, with the same findings and the run's looks added.
  pub stopped_scanned : {i looks : ℕ} (last : Option ℕ) (found : List Finding) (looks₀ : ℕ) → StoppedTo ring line k from i looks
      → ScanLoop ring line k from last found looks₀ → ScanLoop ring line k i last found (looks₀ + looks)
  stopped_scanned last found looks₀ none_stopped h = rw add-zero h
  stopped_scanned last found looks₀ (one_stopped {i = i} {looks = looks} before in_line many) h =
      rw (← add_assoc looks₀ looks (read_window ring line k i).read)
      (scan_stopped ring line k i last found (looks₀ + looks) (stopped_scanned last found looks₀ before h) in_line many)
