-- "It gives the same findings": on the same input, survey and scan return the same refusal or the same found, and leave the same words. Both contracts are `IsSearched`
-- of crates/findings; only the looks differ.
use Prim.Native.Nat.{ℕ}
use mathlib.Core.Path.{◌≡◌, refl, sym, ◌∙◌}
use mathlib.Core.List.{List}
use Rattle.std.specs.Prelude.{Option, None, Some}
use lib.ListN.{length}
use Rattle.meaning.specs.Findings.{findings}
use Rattle.answers.specs.declared.refusals.Refusal.{Refusal}
use Rattle.answers.specs.Paper.{Paper, answer_paper}
use Rattle.std.specs.Prelude.{Result}
use Rattle.findings.specs.declared.searching.SearchCounts.{SearchCounts}
use Rattle.answers.specs.Rows.{first_given, answer_by}
use Rattle.findings.specs.Searching.{Counts, no_counts, searched, paper_of, IsSearched}
use Rattle.findings.proofs.ClosedSearchAnswers.{closed_is_search}
use Rattle.outlines.specs.Scan.{IsScanned}
use Rattle.outlines.specs.ClosedScan.{IsClosedScanned}
use Rattle.survey.specs.Survey.{IsSurveyed}
use Rattle.survey.specs.ClosedSurvey.{IsClosedSurveyed}

-- Two papers that are equal but for their looks.
pub record SameButLooks (a b : Paper Counts) : Type 0 where
  pub number_is : a.number ≡ b.number
  pub place_is : a.place ≡ b.place
  pub found_is : a.counts.found ≡ b.counts.found

-- the papers by the same first row, with the same found, are equal but for their looks
row_same : (o : Option Refusal) (found looks looks' : ℕ)
    → SameButLooks (answer_paper no_counts (answer_by o (record { found = found; looks = looks }))) (answer_paper no_counts (answer_by o (record { found = found; looks = looks' })))
row_same None found looks looks' = record { number_is = refl; place_is = refl; found_is = refl }
row_same (Some refusal) found looks looks' = record { number_is = refl; place_is = refl; found_is = refl }

-- Two searches that differ only in their looks give the same number, place and found, and the same words.
pub search_same : {rows : List (Option Refusal)} {ring line : List ℕ} {k looks looks' : ℕ} {words : List ℕ} {r r' : Result SearchCounts Refusal} {out out' : List ℕ}
    → IsSearched rows ring line k looks words r out → IsSearched rows ring line k looks' words r' out' → SameButLooks (paper_of r) (paper_of r') × (out ≡ out')
unfolding searched
search_same {rows} {ring} {line} {k} {looks} {looks'} p p' = (
  rw (p.paper, p'.paper) (row_same (first_given rows) (length (findings ring line k)) looks looks'),
  p.written ∙ sym p'.written,
)

-- Survey and scan give the same number, place and found, and the same words, on every input.
pub survey_scan_same : (ring line : List ℕ) (k : ℕ) (words : List ℕ) (surveyed scanned : Result SearchCounts Refusal) (out out' : List ℕ)
    → IsSurveyed ring line k words surveyed out → IsScanned ring line k words scanned out' → SameButLooks (paper_of surveyed) (paper_of scanned) × (out ≡ out')
survey_scan_same ring line k words surveyed scanned out out' p p' = search_same p p'

-- On a closed line, survey and scan give the same number, place and found, the same join area, and the same words, on every input.
pub closed_survey_scan_same : (ring line : List ℕ) (k : ℕ) (join words : List ℕ) (surveyed scanned : Result SearchCounts Refusal) (joined joined' out out' : List ℕ)
    → IsClosedSurveyed ring line k join words surveyed joined out → IsClosedScanned ring line k join words scanned joined' out'
    → SameButLooks (paper_of surveyed) (paper_of scanned) × (joined ≡ joined') × (out ≡ out')
closed_survey_scan_same ring line k join words surveyed scanned joined joined' out out' p p' =
    let same = search_same (closed_is_search p) (closed_is_search p') in
    (same.0, p.joined_is ∙ sym p'.joined_is, same.1)
