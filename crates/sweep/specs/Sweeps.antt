-- What `sweep_on` computes, on every input, whatever vectors, doubled ring, join area and counts it is lent. If vectors and double are those of a ring without
-- marks, the counts are the tally of the last verified start, and the join area is right (`Joined` of crates/windows), this is what the rules give for the whole
-- line, `IsSweptOn` of SweepRules, by `swept_by_rules` of proofs/SweptByRules.antt.
--
--   moved_to                  the tally moved a number of steps
--   tally_by                  a start verified: counted afresh, or the tally moved (rule 5)
--   SweepResult               the result of a sweep
--   swept_after, sweep_by     the sweep to the next candidate, which is verified (rule 4): once the windows are read, and whole
--   most_looks                2^62, more looks than any sweep takes
--   can_sweep, CanSweep       whether the sweep can go on: the test, and the same as facts
--   IsSweptBy                 the contract of `sweep_on`
--   IsCountedTo, IsTalliedBy, IsSweptTo   the contracts of `verify_afresh`, `verify` and `to_candidate`
use Rattle.std.specs.Prelude.{ℕ, ◌+◌, ◌-◌, ◌*◌, ◌^◌, ◌≤◌, ◌≡◌, Bool, cond, ◌&&◌, List, Option, None, Some, ltb, leb, length}
use Rattle.findings.specs.declared.searching.Finding.{Finding as FindingStruct}
use Rattle.occurrences.specs.declared.table.EdgeVectors.{EdgeVectors}
use Rattle.windows.specs.Windows.{Parts, window_of, whole_line}
use Rattle.tally.specs.Counts.{most_counts, finding_with, TallyResult, counted_to}
use Rattle.findings.specs.Limits.{most_places}
use Rattle.moves.specs.Moves.{CountsAt, moved_from}
use Rattle.tally.specs.declared.counts.Least.{Least}
use Rattle.answers.specs.declared.places.LinePlace.{LinePlace}
use Rattle.sweep.specs.declared.sweeping.Sweep.{Sweep}
use Rattle.sweep.specs.declared.sweeping.Swept.{Swept}
use Rattle.sweep.specs.declared.sweeping.Swept.TheVariants.{Ended, NoFinding, Found}
use Rattle.sweep.specs.declared.sweeping.WindowsRead.{WindowsRead}
use Rattle.sweep.specs.Reads.{windows_by, CanReadWindows}

-- The tally moved s steps from start `from` by `move_tally`. The bound is 0, and no least count is below 0, so no move ends early.
unfoldable pub moved_to : List ℕ → Parts → ℕ → ℕ → List ℕ → TallyResult
moved_to ring p from s old =
    let to : CountsAt = moved_from ring p from s 0 old in
    record { counts = to.counts; least = to.least; looks = to.looks }

-- Start i verified, after the last verified start if there is one. Rule 5: "With no earlier tally, or if the new start is s beyond the last verified one and
-- 2·s > m, it is counted afresh: m·m looks. Otherwise it moves s steps". The rules never go back; here a start that is not beyond the last one is counted afresh.
unfoldable pub tally_by : List ℕ → List ℕ → Parts → ℕ → Option LinePlace → List ℕ → TallyResult
tally_by ring doubled p i None old = counted_to doubled (window_of (length ring) p i) old
tally_by ring doubled p i (Some from) old =
    let afresh : TallyResult = counted_to doubled (window_of (length ring) p i) old in
    let moved : TallyResult = moved_to ring p from.0 (i - from.0) old in
    let beyond : TallyResult = cond (ltb (length ring) (2 * (i - from.0))) afresh moved in
    cond (leb i from.0) afresh beyond

-- The result of a sweep: the returned enum and the final counts.
pub record SweepResult : Type 0 where
  pub swept : Swept
  pub counts : List ℕ

-- A sweep from `at` that read windows up to the next candidate. Rule 4: "Each candidate is verified, and reported if it is a finding." It is a finding if its least
-- count is at most k. `read` is how far the windows were read, and the last argument its `next`: with none there was no candidate any more.
unfoldable pub swept_after : List ℕ → List ℕ → Parts → ℕ → Sweep → List ℕ → WindowsRead → Option LinePlace → SweepResult
swept_after ring doubled p k at old read None =
    record { swept = Ended (record { start = read.start; last = at.last; looks = at.looks + read.looks }); counts = old }
swept_after ring doubled p k at old read (Some after) =
    let tally : TallyResult = tally_by ring doubled p read.start.0 at.last old in
    let next : Sweep = record { start = after; last = Some read.start; looks = at.looks + read.looks + tally.looks } in
    let finding : FindingStruct = finding_with (length ring) tally.counts read.start tally.least in
    let none : SweepResult = record { swept = NoFinding next; counts = tally.counts } in
    let found : SweepResult = record { swept = Found next finding; counts = tally.counts } in
    cond (ltb k tally.least) none found

-- The sweep from `at` to the next candidate.
unfoldable pub sweep_by : List ℕ → List ℕ → EdgeVectors → Parts → ℕ → Sweep → List ℕ → SweepResult
sweep_by ring doubled table p k at old =
    let read : WindowsRead = windows_by ring table p k at.start.0 in swept_after ring doubled p k at old read read.next

-- More looks than any sweep takes: 2^62.
abbrev pub most_looks : ℕ
most_looks = 2 ^ 62

-- Whether a sweep can go on from `start` with the looks so far: m is 1 to 256, n is below 2^32, the start is at most n + 1, and the looks are at most 2^62.
unfoldable pub can_sweep : ℕ → ℕ → ℕ → ℕ → Bool
can_sweep m n start looks = (ltb 0 m && leb m most_counts) && (ltb n most_places && (leb start (n + 1) && leb looks most_looks))

-- The contract of `sweep_on`. `at` is the sweep at entry, `old` and `new` are the counts at entry and exit, r is the answer. A sweep that cannot go on ends where it
-- is, and no count changes.
pub record IsSweptBy (ring doubled : List ℕ) (table : EdgeVectors) (p : Parts) (k : ℕ) (at : Sweep) (old new : List ℕ) (r : Swept) : Type 0 where
  pub is : record { swept = r; counts = new }
      ≡ cond (can_sweep (length ring) (length (whole_line (length ring) p)) at.start.0 at.looks) (sweep_by ring doubled table p k at old) (record { swept = Ended at; counts = old })

-- From here on: preconditions and contracts of private functions.

-- The contract of `verify_afresh`: the counts at exit, their least and the looks are those of a fresh count of the window at i.
pub record IsCountedTo (m : ℕ) (doubled : List ℕ) (p : Parts) (i : ℕ) (old new : List ℕ) (z : Least) : Type 0 where
  pub is : record { counts = new; least = z.least; looks = z.looks } ≡ counted_to doubled (window_of m p i) old

-- The contract of `verify`: the counts at exit, their least and the looks are those of `tally_by`.
pub record IsTalliedBy (ring doubled : List ℕ) (p : Parts) (i : ℕ) (last : Option LinePlace) (old new : List ℕ) (z : Least) : Type 0 where
  pub is : record { counts = new; least = z.least; looks = z.looks } ≡ tally_by ring doubled p i last old

-- What `can_sweep` tests, as facts; the precondition of `to_candidate`.
pub record CanSweep (m n start looks : ℕ) : Type 0 where
  pub can_read : CanReadWindows m n start
  pub looks_le : looks ≤ most_looks

-- The contract of `to_candidate`: the answer and the counts at exit are those of `sweep_by`.
pub record IsSweptTo (ring doubled : List ℕ) (table : EdgeVectors) (p : Parts) (k : ℕ) (at : Sweep) (old new : List ℕ) (r : Swept) : Type 0 where
  pub is : record { swept = r; counts = new } ≡ sweep_by ring doubled table p k at old
