-- The sweep to the next candidate as rules 1 to 5 say, in the terms of crates/meaning. The loop of scan and report uses these statements. `sweep_by` of Sweeps
-- is what `sweep_on` computes on every input; `swept_by_rules` in proofs/SweptByRules.antt proves that under `CanSweepOn`, with a join area that is right, it
-- satisfies `IsSweptOn`. `StoppedTo` and `stopped_state` are named after windows that were left, at break k + 1 (rule 3) or at a mark (document 02, ticket 2).
--
--   swept_start                     where the next window starts
--   state_of, found_of, has_ended   the parts of an answer: the sweep after it, the finding reported, whether the sweep has ended
--   StoppedTo                       a run of windows, each of them stopped
--   IsCandidateRead                 a window is read and is a candidate
--   IsWindowsRead                   windows are read, up to the next candidate
--   CanSweepOn                      the sweep can go on by the rules
--   IsCandidateSwept                a candidate is read and verified
--   HasEnded                        no window fits in the line any more
--   stopped_state                   the sweep after a run of stopped windows
--   IsSweptOn                       the sweep to the next candidate
use Rattle.std.specs.Prelude.{ℕ, ◌+◌, ◌-◌, ◌≡◌, Bool, true, false, List, [], ◌∷◌, length}
use Rattle.std.specs.Prelude.{None, Some}
use Rattle.answers.specs.declared.places.LinePlace.{LinePlace}
use Rattle.meaning.specs.Meanings.{FitsInLine, IsPastLine, holds_mark}
use Rattle.meaning.specs.Findings.{Finding, found_at}
use Rattle.meaning.specs.Rules.{is_stopped, read_window}
use Rattle.meaning.specs.Looks.{tally_looks}
use Rattle.occurrences.specs.declared.table.EdgeVectors.{EdgeVectors}
use Rattle.occurrences.specs.Storing.{Occurrences}
use Rattle.findings.specs.Putting.{finding_of}
use Rattle.sweep.specs.declared.sweeping.Sweep.{Sweep}
use Rattle.sweep.specs.declared.sweeping.Swept.{Swept}
use Rattle.sweep.specs.declared.sweeping.Swept.TheVariants.{Ended, NoFinding, Found}
use Rattle.sweep.specs.declared.sweeping.WindowsRead.{WindowsRead}
use Rattle.sweep.specs.Sweeps.{CanSweep}
use Rattle.tally.specs.Counts.{most_counts, IsDoubled}
use Rattle.sweep.specs.VerifyingRules.{TalliedBefore, last_start}

-- Where the window after the one at i starts. Rule 3: "With j edges read, the next window starts m − j + 1 further on."
abbrev pub swept_start : List ℕ → List ℕ → ℕ → ℕ → ℕ
swept_start ring line k i = i + (length ring - (read_window ring line k i).read + 1)

-- The sweep after an answer: the start of the next window, the last verified start, the looks so far.
abbrev pub state_of : Swept → Sweep
state_of (Ended next) = next
state_of (NoFinding next) = next
state_of (Found next f) = next

-- The finding that an answer reports, as a list of one or none.
abbrev pub found_of : Swept → List Finding
found_of (Ended next) = []
found_of (NoFinding next) = []
found_of (Found next f) = finding_of f ∷ []

-- Whether an answer says that the sweep has ended: there was no candidate any more.
abbrev pub has_ended : Swept → Bool
has_ended (Ended next) = true
has_ended (NoFinding next) = false
has_ended (Found next f) = false

-- A run of windows, each of them stopped: the first starts at `from`, the next window after the run starts at i. Each window of the run fits in the line, the
-- next one starts where rule 3 says, and the looks are the edges read.
pub data StoppedTo (ring line : List ℕ) (k from : ℕ) : ℕ → ℕ → Type 0 where
  none_stopped : StoppedTo ring line k from from 0
  one_stopped : {i looks : ℕ} → StoppedTo ring line k from i looks → FitsInLine ring line i → is_stopped k (read_window ring line k i) ≡ true
      → StoppedTo ring line k from (swept_start ring line k i) (looks + (read_window ring line k i).read)

-- Rule 4: "A window with all m edges read and at most k breaks is a candidate." The window at r's start is one; `next` is the next start, and r has the looks. All edges of
-- a window that was not stopped are read. `looks` are those of the windows before it.
pub record IsCandidateRead (ring line : List ℕ) (k looks : ℕ) (r : WindowsRead) (next : LinePlace) : Type 0 where
  pub in_line : FitsInLine ring line r.start.0
  pub not_stopped : is_stopped k (read_window ring line k r.start.0) ≡ false
  pub next_is : next.0 ≡ swept_start ring line k r.start.0
  pub looks_are : r.looks ≡ looks + (read_window ring line k r.start.0).read

-- From start `from` on every window is stopped, up to r's start. There the window is a candidate, or no window fits in the line any more.
pub record IsWindowsRead (ring line : List ℕ) (k from : ℕ) (r : WindowsRead) : Type 0 where
  pub looks : ℕ
  pub stopped_to : StoppedTo ring line k from r.start.0 looks
  pub candidate_is : (next : LinePlace) → r.next ≡ Some next → IsCandidateRead ring line k looks r next
  pub ended : r.next ≡ None → IsPastLine ring line r.start.0 × (r.looks ≡ looks)

-- The sweep can go on by the rules: ring, line, start and looks are within the limits, the ring holds no mark, there are 256 counts, the ring's own vectors and double
-- are lent, and the counts are the tally of the last verified start, if there is one. The allowance may have any value.
pub record CanSweepOn (ring doubled : List ℕ) (table : EdgeVectors) (line counts : List ℕ) (at : Sweep) : Type 0 where
  pub can_sweep : CanSweep (length ring) (length line) at.start.0 at.looks
  pub no_mark : holds_mark ring ≡ false
  pub size : length counts ≡ most_counts
  pub occurs : Occurrences ring table
  pub twice : IsDoubled ring doubled
  pub before : TalliedBefore ring line at.start.0 counts (last_start at.last)

-- Rule 4: "Each candidate is verified, and reported if it is a finding." The window at the start of `at` is a candidate. After it, the next window starts where rule 3
-- says, the candidate is the last verified start, and the counts are its tally. "Looks are the sum over rules 1 and 5": those of its reads and of its verification are
-- added.
pub record IsCandidateSwept (ring line : List ℕ) (k : ℕ) (at : Sweep) (r : Swept) (counts : List ℕ) : Type 0 where
  pub in_line : FitsInLine ring line at.start.0
  pub not_stopped : is_stopped k (read_window ring line k at.start.0) ≡ false
  pub start_is : (state_of r).start.0 ≡ swept_start ring line k at.start.0
  pub last_is : last_start (state_of r).last ≡ Some at.start.0
  pub looks_are : (state_of r).looks ≡ at.looks + (read_window ring line k at.start.0).read + tally_looks (length ring) (last_start at.last) at.start.0
  pub found_are : found_of r ≡ found_at ring line k at.start.0
  pub before : TalliedBefore ring line (state_of r).start.0 counts (last_start (state_of r).last)
  pub size : length counts ≡ most_counts

-- No window fits in the line at the start of `at`: the sweep stays there, and the counts are still the tally of the last verified start, if there is one.
pub record HasEnded (ring line : List ℕ) (at next : Sweep) (counts : List ℕ) : Type 0 where
  pub past : IsPastLine ring line at.start.0
  pub next_is : next ≡ at
  pub before : TalliedBefore ring line at.start.0 counts (last_start at.last)
  pub size : length counts ≡ most_counts

-- The sweep after a run of stopped windows: only its start, now i, and its looks have changed.
abbrev pub stopped_state : Sweep → ℕ → ℕ → Sweep
stopped_state at i looks = record { start = record { 0 = i }; last = at.last; looks = at.looks + looks }

-- From the start of `at` on every window is stopped, up to `stop`. There the window is a candidate and is verified, or no window fits in the
-- line any more.
pub record IsSweptOn (ring line : List ℕ) (k : ℕ) (at : Sweep) (r : Swept) (counts : List ℕ) : Type 0 where
  pub stop : ℕ
  pub looks : ℕ
  pub stopped_to : StoppedTo ring line k at.start.0 stop looks
  pub ended : has_ended r ≡ true → HasEnded ring line (stopped_state at stop looks) (state_of r) counts
  pub candidate : has_ended r ≡ false → IsCandidateSwept ring line k (stopped_state at stop looks) r counts
