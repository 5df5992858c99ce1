-- Any two answers that meet the contract of `survey` are equal, and so are the words at exit. A survey is a search, and `search_unique` of crates/findings
-- proves this for every search. The same holds for `survey_closed` and its join area (`closed_search_unique`).
use Prim.Native.Nat.{ℕ}
use mathlib.Core.Path.{◌≡◌}
use mathlib.Core.List.{List}
use Rattle.std.specs.Prelude.{Result}
use Rattle.answers.specs.declared.refusals.Refusal.{Refusal}
use Rattle.findings.specs.declared.searching.SearchCounts.{SearchCounts}
use Rattle.findings.proofs.OneAnswer.{search_unique, closed_search_unique}
use Rattle.survey.specs.Survey.{IsSurveyed}
use Rattle.survey.specs.ClosedSurvey.{IsClosedSurveyed}

-- Any two answers that meet the contract of `survey` are equal, and so are the words at exit.
pub survey_unique : (ring line : List ℕ) (k : ℕ) (words : List ℕ) (r r' : Result SearchCounts Refusal) (out out' : List ℕ) → IsSurveyed ring line k words r out
    → IsSurveyed ring line k words r' out' → (r ≡ r') × (out ≡ out')
survey_unique ring line k words r r' out out' p p' = search_unique p p'

-- Any two answers that meet the contract of `survey_closed` are equal, and so are the join areas and the words at exit.
pub closed_survey_unique : (ring line : List ℕ) (k : ℕ) (join words : List ℕ) (r r' : Result SearchCounts Refusal) (joined joined' out out' : List ℕ)
    → IsClosedSurveyed ring line k join words r joined out → IsClosedSurveyed ring line k join words r' joined' out'
    → (r ≡ r') × (joined ≡ joined') × (out ≡ out')
closed_survey_unique ring line k join words r r' joined joined' out out' p p' = closed_search_unique p p'
