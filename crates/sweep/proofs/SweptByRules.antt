-- With the ring's own vectors and double, the tally of the last verified start and a join area that is right, the answer of `sweep_on` is what rules 1 to 5 give for
-- the whole line. The windows before the candidate are stopped (`windows_by_rules`), and the candidate is verified by rule 5 (`tally_by_rules`). Its tally decides
-- whether it is a finding, and which one (`TallyFinding` of crates/tally).
use Prim.Native.Nat.{ℕ, ◌+◌, ◌≤◌, ◌<◌}
use mathlib.Core.Path.{◌≡◌, refl, sym, ap, subst, ◌∙◌}
use mathlib.Core.Bool.{true, false, true≢false}
use mathlib.Core.List.{List}
use native.Mathlib.Omega.{arith}
use lib.Dec.{ltb}
use lib.ListN.{length}
use borrow.Author.Tests.{ltb-true, ltb-false}
use Rattle.meaning.specs.Findings.{found_at}
use Rattle.meaning.specs.Looks.{tally_looks}
use Rattle.lists.proofs.Cases.{by_test}
use Rattle.meaning.proofs.CandidateStart.{candidate_is_start}
use Rattle.occurrences.specs.declared.table.EdgeVectors.{EdgeVectors}
use Rattle.windows.specs.Windows.{Parts, whole_line, Joined}
use Rattle.tally.specs.Counts.{finding_with, TallyResult}
use Rattle.tally.specs.Tallied.{Verified}
use Rattle.tally.proofs.TallyFinding.{least_no, least_yes}
use Rattle.std.specs.Prelude.{Option, None, Some}
use Rattle.answers.specs.declared.places.LinePlace.{LinePlace}
use Rattle.sweep.specs.declared.sweeping.Sweep.{Sweep}
use Rattle.sweep.specs.declared.sweeping.Swept.{Swept}
use Rattle.sweep.specs.declared.sweeping.Swept.TheVariants.{Ended, NoFinding, Found}
use Rattle.sweep.specs.declared.sweeping.WindowsRead.{WindowsRead}
use Rattle.sweep.specs.Reads.{windows_by, CanReadWindows}
use Rattle.sweep.specs.Sweeps.{tally_by, SweepResult, swept_after, sweep_by, can_sweep, IsSweptBy}
use Rattle.sweep.specs.VerifyingRules.{last_start, TalliedBefore}
use Rattle.sweep.specs.SweepRules.{state_of, found_of, has_ended, IsCandidateRead, IsWindowsRead, CanSweepOn, IsSweptOn}
use Rattle.sweep.proofs.SweepCases.{can_sweep_iff}
use Rattle.sweep.proofs.WindowsStopped.{stopped_from_le}
use Rattle.sweep.proofs.WindowsByRules.{windows_by_rules}
use Rattle.sweep.proofs.TallyByRules.{before_later, tally_by_rules}

module _ (ring doubled : List ℕ) (table : EdgeVectors) (p : Parts) (k : ℕ) (old : List ℕ) (at : Sweep) (joined : Joined (length ring) p)
    (can : CanSweepOn ring doubled table (whole_line (length ring) p) old at) where
  -- the whole line, whose windows the parts hold
  abbrev line : List ℕ
  line = whole_line (length ring) p

  -- ring, line and start are within the limits
  can_read : CanReadWindows (length ring) (length line) at.start.0
  can_read = can.can_sweep.can_read

  abbrev m : ℕ
  m = length ring

  -- The result of reading windows up to the candidate.
  abbrev read : WindowsRead
  read = windows_by ring table p k at.start.0

  abbrev i : ℕ
  i = read.start.0

  reads : IsWindowsRead ring line k at.start.0 read
  reads =
      windows_by_rules ring table p k at.start.0
      (record { some_edge = can_read.some_edge; most = can_read.most; no_mark = can.no_mark; occurs = can.occurs }) joined can_read.start_le

  -- The counts are still the tally of the last verified start.
  tallied_here : TalliedBefore ring line i old (last_start at.last)
  tallied_here = before_later ring line old at.start.0 i (last_start at.last) (stopped_from_le ring line k at.start.0 reads.stopped_to) can.before

  -- The case that no window fits in the line any more.
  ended : read.next ≡ None → IsSweptOn ring line k at (Ended (record { start = read.start; last = at.last; looks = at.looks + read.looks })) old
  ended out =
      let e = reads.ended out in
      record {
        stop = i;
        looks = reads.looks;
        stopped_to = reads.stopped_to;
        ended = λ _. record {
          past = e.0;
          next_is = ap (λ (x : ℕ). record { start = read.start; last = at.last; looks = at.looks + x }) e.1;
          before = tallied_here;
          size = can.size;
        };
        candidate = λ t. absurd (true≢false t);
      }

  module _ (following : LinePlace) (stopped : read.next ≡ Some following) where
    read_is : IsCandidateRead ring line k reads.looks read following
    read_is = reads.candidate_is following stopped

    abbrev tally : TallyResult
    tally = tally_by ring doubled p i at.last old

    verified : Verified ring line i (tally_looks m (last_start at.last) i) tally.counts tally.least tally.looks
    verified =
        tally_by_rules ring doubled p i old joined at.last
        (record { can_tally = record { size = can.size; some_edge = can_read.some_edge; most = can_read.most }; twice = can.twice; in_line = read_is.in_line; most_line = can_read.most_line; before = tallied_here })

    abbrev next : Sweep
    next = record { start = following; last = Some read.start; looks = at.looks + read.looks + tally.looks }

    -- What holds after the candidate is verified, finding or not.
    after : (r : Swept) → state_of r ≡ next → has_ended r ≡ false → found_of r ≡ found_at ring line k i → IsSweptOn ring line k at r tally.counts
    after r state goes_on found = record {
      stop = i;
      looks = reads.looks;
      stopped_to = reads.stopped_to;
      ended = λ t. absurd (true≢false (sym t ∙ goes_on));
      candidate = λ _. record {
        in_line = read_is.in_line;
        not_stopped = read_is.not_stopped;
        start_is = rw state read_is.next_is;
        last_is = rw state refl;
        looks_are = rw state (omega (arith, read_is.looks_are, verified.looks_are));
        found_are = found;
        before = rw state (omega (arith, read_is.next_is), verified.tallied);
        size = verified.tallied.size;
      };
    }

    -- The case that the candidate is no finding.
    none : k < tally.least → IsSweptOn ring line k at (NoFinding next) tally.counts
    none far =
        after (NoFinding next) refl refl
        (sym (least_no ring line k i tally.counts tally.least can_read.some_edge verified.tallied verified.least_is far))

    -- The case that the candidate is a finding.
    found : tally.least ≤ k → IsSweptOn ring line k at (Found next (finding_with m tally.counts read.start tally.least)) tally.counts
    found near =
        after _ refl refl
        (sym (least_yes ring line k i tally.counts tally.least can_read.some_edge verified.tallied verified.least_is
        (finding_with m tally.counts read.start tally.least) can_read.most (record { is = refl }) (candidate_is_start ring line k i read_is.in_line read_is.not_stopped) near))

  -- The result s of a sweep is what the rules give.
  abbrev SweptOn : SweepResult → Type 0
  SweptOn s = IsSweptOn ring line k at s.swept s.counts

  by_next : (next : Option LinePlace) → read.next ≡ next → SweptOn (swept_after ring doubled p k at old read next)
  unfolding swept_after
  by_next None out = ended out
  by_next (Some following) stopped =
      let least : ℕ = (tally following stopped).least in
      by_test SweptOn (ltb k least) (λ far. none following stopped (ltb-true k least far)) (λ near. found following stopped (ltb-false k least near))

  sweep_by_rules : SweptOn (sweep_by ring doubled table p k at old)
  unfolding sweep_by
  sweep_by_rules = by_next read.next refl

  -- The test whether the sweep can go on passes.
  can_be : can_sweep m (length line) at.start.0 at.looks ≡ true
  can_be =
      (can_sweep_iff m (length line) at.start.0 at.looks).1 can.can_sweep

  -- Under `CanSweepOn`, every answer that meets the contract of `sweep_on` is what rules 1 to 5 give.
  pub swept_by_rules : (new : List ℕ) (r : Swept) → IsSweptBy ring doubled table p k at old new r → IsSweptOn ring line k at r new
  swept_by_rules new r swept =
      let is : record { swept = r; counts = new } ≡ sweep_by ring doubled table p k at old = rw can_be at swept.is in
      subst SweptOn (sym is) sweep_by_rules
