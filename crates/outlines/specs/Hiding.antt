-- Contracts of the private functions of src/asking.rt: the book is asked for one finding, which is then hidden or shown. Findings come by rising start and a
-- book's records ascend, so the loop keeps the field found last ("held") and goes on from it, never back.
--
--   finding_address    the address of a finding: cell, ring number, start
--   held_for           the first field of the book, from the field held on, that is not below this address; `faulty` if a faulty field or the book's end comes first
--   hides_finding      whether that field hides the finding: it has this very address, and a ceiling of at least the finding's distance
--   CanAsk             the precondition of `ask`
--   IsHiddenOrShown    the contract of `ask`
--   IsShownPut         the contract of `put_shown`
use Rattle.std.specs.Prelude.{ℕ, ◌+◌, ◌≤◌, ◌<◌, ◌≡◌, Bool, cond, List}
use Rattle.meaning.specs.Findings.{Finding}
use Rattle.silences.specs.Silences.{Address, address}
use Rattle.silences.specs.Reading.{FieldAt}
use Rattle.silences.specs.Addresses.{sought_of}
use Rattle.book.specs.Seeking.{seek_field, seek_from, is_hiding}
use Rattle.findings.specs.Limits.{most_places}
use Rattle.findings.specs.Putting.{IsFindingPut}
use Rattle.outlines.specs.declared.asking.BookAsked.{BookAsked}

-- The address of a finding: the report's cell and ring number, and the finding's start.
abbrev pub finding_address : ℕ → ℕ → Finding → Address
finding_address cell ring_number f = address cell ring_number f.start

-- The field for a finding, given the field held: the held one if it is not below the finding's address, else the first field behind it that is not; `faulty` if
-- a faulty field or the book's end comes first, or if the held one is `faulty`.
abbrev pub held_for : ℕ → ℕ → List ℕ → Finding → FieldAt → FieldAt
held_for cell ring_number book f held = seek_field (finding_address cell ring_number f) held (seek_from book (finding_address cell ring_number f))

-- Whether the field for a finding, given the field held, hides the finding. If so, `ask` counts the finding as hidden.
abbrev pub hides_finding : ℕ → ℕ → List ℕ → Finding → FieldAt → Bool
hides_finding cell ring_number book f held = is_hiding (finding_address cell ring_number f) f.distance (held_for cell ring_number book f held)

-- The precondition of `ask`: the start is below 2^32, both counters are at most 2^32.
pub record CanAsk (so_far : BookAsked) (f : Finding) : Type 0 where
  pub start_lt : f.start < most_places
  pub shown_le : so_far.shown ≤ most_places
  pub hidden_le : so_far.hidden ≤ most_places

-- The contract of `ask`, which returns r: the field for the finding is held, and one finding more is counted as hidden or as shown.
pub record IsHiddenOrShown (cell ring_number : ℕ) (book : List ℕ) (so_far : BookAsked) (f : Finding) (r : BookAsked) : Type 0 where
  pub held_is : sought_of r.held ≡ held_for cell ring_number book f (sought_of so_far.held)
  pub shown_is : r.shown ≡ cond (hides_finding cell ring_number book f (sought_of so_far.held)) so_far.shown (so_far.shown + 1)
  pub hidden_is : r.hidden ≡ cond (hides_finding cell ring_number book f (sought_of so_far.held)) (so_far.hidden + 1) so_far.hidden

-- The contract of `put_shown`; `before` and `now_shown` are the numbers of shown findings before and after the finding was counted. If it was counted as shown,
-- its words are put behind those of the shown ones before it; else no word changes.
pub record IsShownPut (words : List ℕ) (before now_shown : ℕ) (f : Finding) (out : List ℕ) : Type 0 where
  pub shown_put : before < now_shown → IsFindingPut words before f out
  pub hidden_same : now_shown ≤ before → out ≡ words
