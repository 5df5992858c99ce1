-- What follows for every answer that meets the contract of `survey`: rows 1 to 4 and 12 hold, and an accepted call has counted all findings, with "2·m·n − m·m looks
-- for n ≥ m, else 0". SearchGives of crates/findings proves what holds for every search; only the looks are the survey's own.
use Prim.Native.Nat.{ℕ, ◌-◌, ◌*◌, ◌≤◌, ◌<◌}
use mathlib.Core.Path.{◌≡◌, refl, ◌∙◌}
use mathlib.Core.List.{List}
use lib.ListN.{length}
use Rattle.meaning.specs.Findings.{findings}
use Rattle.meaning.proofs.SurveyLooks.{survey_looks_is, survey_looks_short}
use Rattle.std.specs.Prelude.{Result}
use Rattle.answers.specs.declared.refusals.Refusal.{Refusal}
use Rattle.findings.specs.declared.searching.SearchCounts.{SearchCounts}
use Rattle.findings.specs.Searching.{paper_of}
use Rattle.findings.specs.SearchRows.{SearchRows}
use Rattle.findings.proofs.AdmitRows.{accepted_edge}
use Rattle.findings.proofs.RowsOfSearching.{rows_of_search}
use Rattle.findings.proofs.SearchGives.{accepted_gives, looks_of_search}
use Rattle.survey.specs.Survey.{IsSurveyed}

module _ (ring line : List ℕ) (k : ℕ) (words : List ℕ) (r : Result SearchCounts Refusal) (out : List ℕ) (meets : IsSurveyed ring line k words r out) where
  -- Every answer of `survey` obeys rows 1 to 4 and 12 of the table.
  pub survey_rows : SearchRows ring k (length line) words (paper_of r) out
  survey_rows = rows_of_search meets

  -- The found of an accepted survey is the number of findings.
  pub survey_found_is : (paper_of r).number ≡ 0 → (paper_of r).counts.found ≡ length (findings ring line k)
  survey_found_is zero_is = (accepted_gives meets zero_is).found_is

  -- An accepted survey takes "2·m·n − m·m looks for n ≥ m".
  pub survey_looks_are : (paper_of r).number ≡ 0 → length ring ≤ length line
      → (paper_of r).counts.looks ≡ 2 * length ring * length line - length ring * length ring
  survey_looks_are zero_is h =
      let accepted = accepted_gives meets zero_is in
      accepted.looks_are ∙ survey_looks_is ring line (accepted_edge ring k (length line) (length words) accepted.none_given) h

  -- On a line shorter than the ring the looks of `survey` are 0, accepted or refused.
  pub survey_looks_short_lem : length line < length ring → (paper_of r).counts.looks ≡ 0
  survey_looks_short_lem h = looks_of_search meets (λ (looks : ℕ). looks ≡ 0) refl (λ none_given. survey_looks_short ring line h)
