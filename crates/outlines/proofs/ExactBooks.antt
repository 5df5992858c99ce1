-- A report by a book of tag 21 alone, of at most 1,000 records, is the report by the same addresses with ceiling 0 under tag 22: both books have the same
-- silences (ExactBook of crates/silences), and reports whose books hide the same findings give the same answer (SilencesAlike). For the rows of any search that
-- accept no empty ring, so for the report and for the report on a closed line.
use Prim.Native.Nat.{ℕ, ◌≤◌, ◌<◌}
use mathlib.Core.Path.{◌≡◌, refl}
use mathlib.Core.List.{List}
use Rattle.std.specs.Prelude.{Option, None}
use lib.ListN.{length}
use Rattle.answers.specs.declared.refusals.Refusal.{Refusal}
use Rattle.answers.specs.Rows.{first_given}
use Rattle.silences.specs.Silences.{Silence}
use Rattle.silences.specs.Layout.{layout, most_silences}
use Rattle.silences.specs.Books.{LaidDown, OnlyTag21, IsBook, with_ceilings}
use Rattle.silences.proofs.AcceptedIsBook.{book_accepted}
use Rattle.silences.proofs.ExactBook.{exact_read}
use Rattle.std.specs.Prelude.{Result}
use Rattle.outlines.specs.declared.quick.ReportCounts.{ReportCounts as ReportCountsStruct}
use Rattle.outlines.specs.Report.{IsReportedBy}
use Rattle.outlines.proofs.SilencesAlike.{reports_same}

-- A report by a book of tag 21 alone, of at most 1,000 records, is the report by the same addresses with ceiling 0 under tag 22.
pub exact_report_same : (cell ring_number : ℕ) (rows : List (Option Refusal)) (ring line : List ℕ) → (first_given rows ≡ None → 0 < length ring)
    → (k : ℕ) (book words : List ℕ) (ss : List Silence) → IsBook ss book → LaidDown OnlyTag21 ss book → length ss ≤ most_silences
    → (r r' : Result ReportCountsStruct Refusal) (out out' : List ℕ) → IsReportedBy rows cell ring_number ring line k book words r out
    → IsReportedBy rows cell ring_number ring line k (layout (with_ceilings 0 ss)) words r' out' → (r ≡ r') × (out ≡ out')
exact_report_same cell ring_number rows ring line some_edge k book words ss b laid few =
    reports_same ss ss cell ring_number rows ring line some_edge k book (layout (with_ceilings 0 ss)) words (book_accepted book ss b) (exact_read ss book b laid few)
    (λ f finds. refl)
