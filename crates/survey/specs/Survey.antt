-- Document 01, the plain survey: it "verifies every start, the first afresh and each next by one step, at m = 1 too: 2·m·n − m·m looks for n ≥ m, else 0. It
-- gives the same findings." Places whose window holds a mark are verified too: "same findings, and its looks stay" (document 02, ticket 2). Refusals, found and
-- words are those that survey and scan share (specs/Searching.antt of crates/findings). Only the looks are its own: `survey_looks` of crates/meaning.
--
--   IsSurveyed                   the contract of `survey`
--   edges_seen, is_found         how many edges are seen before a place is verified; whether a verified place is a finding
--   CanVerifyOn, IsVerifiedOn    precondition and contract of `verify_on`, which counts place 0 afresh, or moves the tally of the place before on to the next
--                                place whose least count is at most k, or to the last window
--   CanSurvey, LineSurveyed      precondition and contract of `survey_starts`, which surveys the whole line of an accepted call
--   CanSurveyLine                the precondition of `survey_line`, which has the same contract
use Rattle.std.specs.Prelude.{ℕ, ◌+◌, ◌-◌, ◌≤◌, ◌<◌, ◌≡◌, Bool, cond, ◌&&◌, List, leb, eqb, length}
use Rattle.meaning.specs.Meanings.{FitsInLine, least_distance}
use Rattle.meaning.specs.Looks.{survey_looks_below, survey_looks}
use Rattle.moves.specs.declared.steps.Reached.{Reached}
use Rattle.windows.specs.Windows.{Parts, whole_line, Joined}
use Rattle.tally.specs.Marks.{past_mark}
use Rattle.tally.specs.Counts.{most_counts, IsDoubled, IsLeast}
use Rattle.tally.specs.Tallied.{Tallied, CanTally}
use Rattle.std.specs.Prelude.{Result}
use Rattle.answers.specs.declared.refusals.Refusal.{Refusal}
use Rattle.findings.specs.declared.searching.SearchCounts.{SearchCounts}
use Rattle.findings.specs.Admitting.{admit_rows}
use Rattle.findings.specs.Limits.{most_places, CanSearch}
use Rattle.findings.specs.Searching.{LineSearched, IsSearched}

-- The contract of `survey`, for ring, line, allowance and lent words, the answer r and the words at exit: it is a search with the survey's looks.
abbrev pub IsSurveyed : List ℕ → List ℕ → ℕ → List ℕ → Result SearchCounts Refusal → List ℕ → Type 0
IsSurveyed ring line k words r out = IsSearched (admit_rows ring k (length line) (length words)) ring line k (survey_looks ring line) words r out

-- From here on: preconditions and contracts of private functions.

-- How many of the line's edges are seen before place i is verified: none before place 0, else those up to the end of the window before.
abbrev pub edges_seen : ℕ → ℕ → ℕ
edges_seen m i = cond (eqb i 0) 0 (i - 1 + m)

-- Whether a verified place is a finding: its least count is at most k, and the place just past the last mark seen is at most its own, so it is a start.
abbrev pub is_found : ℕ → ℕ → ℕ → ℕ → Bool
is_found k least past i = leb least k && leb past i

-- Precondition of `verify_on` at start i: there are 256 counts; ring, allowance and whole line are within the limits; the ring's double is lent; the join area is
-- right; a window fits in the whole line at i; and for i above 0 the counts are the tally of start i − 1.
pub record CanVerifyOn (ring doubled : List ℕ) (p : Parts) (k i : ℕ) (counts : List ℕ) : Type 0 where
  pub can_tally : CanTally ring counts
  pub allowed : k < length ring
  pub twice : IsDoubled ring doubled
  pub joined : Joined (length ring) p
  pub in_line : FitsInLine ring (whole_line (length ring) p) i
  pub most_places : length (whole_line (length ring) p) < most_places
  pub before : 0 < i → Tallied ring (whole_line (length ring) p) (i - 1) counts

-- Contract of `verify_on`: the places from i to the one reached are verified. The counts are the tally of the place reached, r has their least, and the places
-- passed have a least distance above k. The looks are the survey's for these places, "the first afresh and each next by one step". `past` is the place just
-- past the last mark among the edges first seen now; 0 if none of them is a mark.
pub record IsVerifiedOn (ring line : List ℕ) (k i : ℕ) (counts : List ℕ) (r : Reached) : Type 0 where
  pub start_ge : i ≤ r.start.0
  pub in_line : FitsInLine ring line r.start.0
  pub tallied : Tallied ring line r.start.0 counts
  pub least_is : IsLeast (length ring) counts r.least
  pub looks_are : survey_looks_below ring line i + r.looks ≡ survey_looks_below ring line (r.start.0 + 1)
  pub passed : (j : ℕ) → i ≤ j → j < r.start.0 → k < least_distance ring line j
  pub past_is : r.past ≡ past_mark line (edges_seen (length ring) i) (r.start.0 + length ring - edges_seen (length ring) i)

-- Precondition of `survey_line`: ring, allowance, whole line and words are within the limits, and the join area is right.
pub record CanSurveyLine (ring : List ℕ) (p : Parts) (k : ℕ) (words : List ℕ) : Type 0 where
  pub can_search : CanSearch ring k (length (whole_line (length ring) p)) (length words)
  pub joined : Joined (length ring) p

-- Precondition of `survey_starts`: that of `survey_line`, and the ring's double and 256 counts are lent. The counts may hold anything.
pub record CanSurvey (ring doubled : List ℕ) (p : Parts) (k : ℕ) (counts words : List ℕ) : Type 0 where
  pub can_survey : CanSurveyLine ring p k words
  pub twice : IsDoubled ring doubled
  pub size : length counts ≡ most_counts

-- Contract of `survey_starts` and `survey_line`: all findings are counted and written, and the looks are the survey's.
abbrev pub LineSurveyed : List ℕ → List ℕ → ℕ → List ℕ → ℕ → ℕ → List ℕ → Type 0
LineSurveyed ring line k words found looks out = LineSearched ring line k (survey_looks ring line) words found looks out
