-- Any two answers that meet the contract of `report` are equal, and so are the words at exit: the paper determines the answer (`answer_unique` of crates/answers),
-- and the answer determines the `Result`.
use Prim.Native.Nat.{ℕ}
use mathlib.Core.Path.{◌≡◌, refl, sym, ap, ◌∙◌}
use mathlib.Core.List.{List}
use Rattle.std.specs.Prelude.{Option}
use Rattle.std.specs.Prelude.{Result, Ok, Err}
use Rattle.answers.specs.declared.refusals.Refusal.{Refusal}
use Rattle.answers.specs.Paper.{Answer, accepted, refused}
use Rattle.answers.proofs.OneAnswer.{answer_unique}
use Rattle.outlines.specs.declared.quick.ReportCounts.{ReportCounts as ReportCountsStruct}
use Rattle.outlines.specs.Report.{ReportCounts, no_report_counts, answer_of, paper_of, IsReportedBy, IsReported}
use Rattle.outlines.specs.ClosedReport.{IsClosedReported}

-- the `Result` for an answer
abbrev answer_back : Answer ReportCounts → Result ReportCountsStruct Refusal
answer_back (accepted c) = Ok (record { found = c.found; hidden = c.hidden; looks = c.looks })
answer_back (refused refusal) = Err refusal

-- from its answer a `Result` is computed back
answer_back_lem : (r : Result ReportCountsStruct Refusal) → answer_back (answer_of r) ≡ r
answer_back_lem (Ok counts) = refl
answer_back_lem (Err refusal) = refl

-- two returned `Result`s with equal answers are equal
report_answer_unique : (r r' : Result ReportCountsStruct Refusal) → answer_of r ≡ answer_of r' → r ≡ r'
report_answer_unique r r' e = sym (answer_back_lem r) ∙ ap answer_back e ∙ answer_back_lem r'

-- Two returned `Result`s with equal papers are equal.
pub report_paper_unique : (r r' : Result ReportCountsStruct Refusal) → paper_of r ≡ paper_of r' → r ≡ r'
report_paper_unique r r' e = report_answer_unique r r' (answer_unique no_report_counts (answer_of r) (answer_of r') e)

-- Any two answers that meet the contract of a report are equal, and so are the words at exit, whatever its rows of a search are.
pub reported_by_unique : {rows : List (Option Refusal)} {cell ring_number : ℕ} {ring line : List ℕ} {k : ℕ} {book words : List ℕ} {r r' : Result ReportCountsStruct Refusal} {out out' : List ℕ}
    → IsReportedBy rows cell ring_number ring line k book words r out → IsReportedBy rows cell ring_number ring line k book words r' out' → (r ≡ r') × (out ≡ out')
reported_by_unique {r = r} {r' = r'} p p' = (report_paper_unique r r' (p.paper ∙ sym p'.paper), p.written ∙ sym p'.written)

-- Any two answers that meet the contract of `report` are equal, and so are the words at exit.
pub report_unique : (cell ring_number : ℕ) (ring line : List ℕ) (k : ℕ) (book words : List ℕ) (r r' : Result ReportCountsStruct Refusal) (out out' : List ℕ)
    → IsReported cell ring_number ring line k book words r out → IsReported cell ring_number ring line k book words r' out' → (r ≡ r') × (out ≡ out')
report_unique cell ring_number ring line k book words r r' out out' p p' = reported_by_unique p p'

-- Any two answers that meet the contract of `report_closed` are equal, and so are the join areas and the words at exit.
pub closed_report_unique : (cell ring_number : ℕ) (ring line : List ℕ) (k : ℕ) (book join words : List ℕ) (r r' : Result ReportCountsStruct Refusal) (joined joined' out out' : List ℕ)
    → IsClosedReported cell ring_number ring line k book join words r joined out → IsClosedReported cell ring_number ring line k book join words r' joined' out'
    → (r ≡ r') × (joined ≡ joined') × (out ≡ out')
closed_report_unique cell ring_number ring line k book join words r r' joined joined' out out' p p' = (
  report_paper_unique r r' (p.paper ∙ sym p'.paper),
  p.joined_is ∙ sym p'.joined_is,
  p.written ∙ sym p'.written,
)
