-- What a call lends to `survey_line` (`Lent` of crates/windows): it can be surveyed, and what is surveyed is the list that the call searches, the line or the
-- closed line.
use Prim.Native.Nat.{ℕ}
use mathlib.Core.Path.{◌≡◌, subst}
use mathlib.Core.List.{List}
use lib.ListN.{length}
use Rattle.windows.specs.Windows.{Parts, whole_line}
use Rattle.windows.proofs.LentParts.{Lent}
use Rattle.survey.specs.Survey.{CanSurveyLine, LineSurveyed}

module _ {ring : List ℕ} {p : Parts} {k room : ℕ} {searched : List ℕ} (lent : Lent ring p k room searched) where
  -- The precondition of `survey_line` holds.
  pub can_survey_line : {words : List ℕ} → length words ≡ room → CanSurveyLine ring p k words
  can_survey_line size = record { can_search = rw size lent.can_search; joined = lent.joined }

  -- The whole line that was surveyed is the list that the call searches.
  pub searched_surveyed : {words : List ℕ} {found looks : ℕ} {out : List ℕ} → LineSurveyed ring (whole_line (length ring) p) k words found looks out
      → LineSurveyed ring searched k words found looks out
  searched_surveyed {words} {found} {looks} {out} done = subst (λ (l : List ℕ). LineSurveyed ring l k words found looks out) lent.whole_is done
