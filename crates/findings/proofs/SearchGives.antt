-- What follows for every answer that meets the contract of a search, whatever its rows are. The first row that is given decides the number, the counts and
-- the words (`AnswerByRows` of crates/answers). If the number is 0, no row is given: the call is accepted, has counted all findings, and has the search's
-- looks. A refusal has counts 0 and leaves the words. So a property of 0 and of the search's looks is one of the answer's looks.
use Prim.Native.Nat.{ℕ, ◌<◌}
use mathlib.Core.Path.{◌≡◌, ap}
use mathlib.Core.Logic.{◌↔◌, ⊎_elim}
use mathlib.Core.List.{List}
use Rattle.std.specs.Prelude.{Option, None, Some}
use Rattle.std.specs.Prelude.{Result}
use native.Mathlib.Omega.{arith}
use lib.ListN.{length}
use Rattle.lists.specs.Areas.{written}
use Rattle.lists.proofs.Cases.{le_or_lt}
use Rattle.meaning.specs.Findings.{findings, words_of}
use Rattle.answers.specs.declared.refusals.Refusal.{Refusal}
use Rattle.answers.specs.Refusals.{number_of, place_of}
use Rattle.answers.specs.Rows.{first_given, area_by}
use Rattle.answers.proofs.RefusalNumbers.{HasNoPlace}
use Rattle.answers.proofs.AnswerByRows.{row_number_iff, accepted_number_iff, accepted_counts, accepted_area, number_by, place_by, refused_counts, refused_area}
use Rattle.findings.specs.declared.searching.SearchCounts.{SearchCounts}
use Rattle.findings.specs.Searching.{Counts, no_counts, searched, searched_words, paper_of, IsSearched}

-- An accepted search has counted all findings, has taken `looks` looks, and none of its rows is given.
pub record AcceptedSearch (rows : List (Option Refusal)) (ring line : List ℕ) (k looks : ℕ) (counts : Counts) : Type 0 where
  pub found_is : counts.found ≡ length (findings ring line k)
  pub looks_are : counts.looks ≡ looks
  pub none_given : first_given rows ≡ None

module _ {rows : List (Option Refusal)} {ring line : List ℕ} {k expected : ℕ} {words : List ℕ} {r : Result SearchCounts Refusal} {out : List ℕ}
    (meets : IsSearched rows ring line k expected words r out) where
  -- the counts of an accepted call
  abbrev counted : Counts
  counted = record { found = length (findings ring line k); looks = expected }

  -- The number is that of a refusal whose place is always 0 exactly when the first row that is given has this refusal.
  pub search_number_iff : (q : Refusal) → HasNoPlace (number_of q) → ((paper_of r).number ≡ number_of q) ↔ (first_given rows ≡ Some q)
  unfolding searched
  search_number_iff q no_place = row_number_iff no_counts counted (first_given rows) meets.paper q no_place

  -- The number is 0 exactly when no row is given.
  pub search_accepted_iff : ((paper_of r).number ≡ 0) ↔ (first_given rows ≡ None)
  unfolding searched
  search_accepted_iff = accepted_number_iff no_counts counted (first_given rows) meets.paper

  -- If P holds for 0 and for the number of every row that can be given, it holds for the number.
  pub search_number_by : (P : ℕ → Type 0) → P 0 → ((q : Refusal) → first_given rows ≡ Some q → P (number_of q)) → P (paper_of r).number
  unfolding searched
  search_number_by = number_by no_counts counted (first_given rows) meets.paper

  -- If every row that can be given has place 0, so has the answer.
  pub search_place_by : ((q : Refusal) → first_given rows ≡ Some q → place_of q ≡ 0) → (paper_of r).place ≡ 0
  unfolding searched
  search_place_by = place_by no_counts counted (first_given rows) meets.paper

  -- A refusal has "zero in every count".
  pub search_no_counts : 0 < (paper_of r).number → (paper_of r).counts ≡ no_counts
  unfolding searched
  search_no_counts = refused_counts no_counts counted (first_given rows) meets.paper

  -- A refusal leaves a lent area as it was, if the call's rows decide what the area holds at exit.
  pub search_area : (new old : List ℕ) {area : List ℕ} → area ≡ area_by (first_given rows) new old → 0 < (paper_of r).number → area ≡ old
  unfolding searched
  search_area = refused_area no_counts counted (first_given rows) meets.paper

  -- A refusal leaves the lent words as they were.
  pub search_untouched : 0 < (paper_of r).number → out ≡ words
  unfolding searched_words
  search_untouched = search_area (written (words_of (findings ring line k)) words) words meets.written

  -- An answer with number 0 is an accepted search: found, looks, and no row given.
  pub accepted_gives : (paper_of r).number ≡ 0 → AcceptedSearch rows ring line k expected (paper_of r).counts
  unfolding searched
  accepted_gives zero_is =
      let none_given : first_given rows ≡ None = search_accepted_iff.0 zero_is in
      let same : (paper_of r).counts ≡ counted = accepted_counts no_counts counted (first_given rows) meets.paper none_given in
      record { found_is = ap (λ (c : Counts). c.found) same; looks_are = ap (λ (c : Counts). c.looks) same; none_given = none_given }

  -- If no row is given, the findings' words are written.
  pub accepted_words : first_given rows ≡ None → out ≡ written (words_of (findings ring line k)) words
  unfolding searched searched_words
  accepted_words =
      accepted_area no_counts counted (first_given rows) meets.paper (written (words_of (findings ring line k)) words) words meets.written

  -- If P holds for 0, and for the search's looks if no row is given, then P holds for the looks of the answer, accepted or refused.
  pub looks_of_search : (P : ℕ → Type 0) → P 0 → (first_given rows ≡ None → P expected) → P (paper_of r).counts.looks
  looks_of_search P zero_has searched_has =
      ⊎_elim
      (λ zero_le. let accepted = accepted_gives (omega arith) in rw accepted.looks_are (searched_has accepted.none_given))
      (λ refused. rw (search_no_counts refused) zero_has) (le_or_lt (paper_of r).number 0)
