-- What follows for every answer that meets the contract of `survey_closed`: the table of refusals holds, and an accepted call has counted all findings of the
-- closed line, with 2·m·(n + m − 1) − m·m looks for n ≥ m, else 0. SearchGives of crates/findings proves what holds for every search; the looks are those of
-- ClosedLooks of crates/meaning.
use Prim.Native.Nat.{ℕ, ◌+◌, ◌-◌, ◌*◌, ◌≤◌, ◌<◌}
use mathlib.Core.Path.{◌≡◌, refl, ◌∙◌}
use mathlib.Core.List.{List}
use lib.ListN.{length}
use Rattle.meaning.specs.Findings.{findings}
use Rattle.meaning.specs.Closed.{closed_line}
use Rattle.meaning.proofs.ClosedLooks.{closed_survey_looks_is, closed_survey_looks_short}
use Rattle.std.specs.Prelude.{Result}
use Rattle.answers.specs.declared.refusals.Refusal.{Refusal}
use Rattle.findings.specs.declared.searching.SearchCounts.{SearchCounts}
use Rattle.findings.specs.Searching.{paper_of}
use Rattle.findings.specs.ClosedSearchRows.{ClosedSearchRows}
use Rattle.findings.proofs.ClosedAdmitRows.{closed_accepted_edge}
use Rattle.findings.proofs.SearchGives.{accepted_gives, looks_of_search}
use Rattle.findings.proofs.ClosedSearchAnswers.{closed_is_search}
use Rattle.findings.proofs.RowsOfClosedSearching.{rows_of_closed_search}
use Rattle.survey.specs.ClosedSurvey.{IsClosedSurveyed}

module _ (ring line : List ℕ) (k : ℕ) (join words : List ℕ) (r : Result SearchCounts Refusal) (joined out : List ℕ) (meets : IsClosedSurveyed ring line k join words r joined out) where
  -- Every answer of `survey_closed` obeys rows 1, 12, 2, 3, 4 and 10 of the table, and leaves the join area as the table says.
  pub closed_survey_rows : ClosedSearchRows ring line k join words (paper_of r) joined out
  closed_survey_rows = rows_of_closed_search meets

  -- The found of an accepted survey is the number of the closed line's findings.
  pub closed_survey_found_is : (paper_of r).number ≡ 0 → (paper_of r).counts.found ≡ length (findings ring (closed_line (length ring) line) k)
  closed_survey_found_is zero_is = (accepted_gives (closed_is_search meets) zero_is).found_is

  -- For n ≥ m an accepted survey takes 2·m·(n + m − 1) − m·m looks.
  pub closed_survey_looks_are : (paper_of r).number ≡ 0 → length ring ≤ length line
      → (paper_of r).counts.looks ≡ 2 * length ring * (length line + length ring - 1) - length ring * length ring
  closed_survey_looks_are zero_is long =
      let accepted = accepted_gives (closed_is_search meets) zero_is in
      accepted.looks_are
      ∙ closed_survey_looks_is ring line (closed_accepted_edge ring k (length line) (length words) (length join) accepted.none_given) long

  -- On a line shorter than the ring the looks of `survey_closed` are 0, accepted or refused.
  pub closed_survey_looks_short_lem : length line < length ring → (paper_of r).counts.looks ≡ 0
  closed_survey_looks_short_lem short =
      looks_of_search (closed_is_search meets) (λ (looks : ℕ). looks ≡ 0) refl (λ none_given. closed_survey_looks_short ring line short)
