-- The report on a closed line. Its contract is that of a report with the rows `closed_rows` over the line `closed_line` (`closed_is_report`), so all laws of
-- reports hold; beside it stands the join area. There are three ways to meet it, as for every report: a row of the search is given, or one of the book, and
-- both areas are as they were; or no row is given, the closed line is scanned with the book, and the join area holds the line's ends.
use Prim.Native.Nat.{ℕ}
use mathlib.Core.Path.{◌≡◌, sym, ◌∙◌}
use mathlib.Core.List.{List}
use Rattle.std.specs.Prelude.{None, Some}
use Rattle.std.specs.Prelude.{Result, Ok, Err}
use lib.ListN.{length}
use Rattle.meaning.specs.Closed.{closed_line, joined_with}
use Rattle.answers.specs.declared.refusals.Refusal.{Refusal}
use Rattle.answers.specs.Rows.{first_given}
use Rattle.silences.specs.Reading.{book_refusal}
use Rattle.findings.specs.ClosedRows.{closed_rows}
use Rattle.findings.proofs.JoinAtExit.{join_refused, join_accepted}
use Rattle.outlines.specs.declared.quick.ReportCounts.{ReportCounts as ReportCountsStruct}
use Rattle.outlines.specs.Report.{report_refusal, IsReportedBy}
use Rattle.outlines.specs.LineScan.{LineScanned}
use Rattle.outlines.specs.ClosedReport.{IsClosedReported}
use Rattle.outlines.proofs.FirstOfReport.{early_given, late_given, none_row_iff}
use Rattle.outlines.proofs.ReportAnswers.{report_refused, report_accepted}

-- A report on a closed line is a report with the rows `closed_rows` over the line `closed_line`.
pub closed_is_report : {cell ring_number : ℕ} {ring line : List ℕ} {k : ℕ} {book join words : List ℕ} {r : Result ReportCountsStruct Refusal} {joined out : List ℕ}
    → IsClosedReported cell ring_number ring line k book join words r joined out
    → IsReportedBy (closed_rows ring k (length line) (length words) (length join)) cell ring_number ring (closed_line (length ring) line) k book words r out
closed_is_report meets = record { paper = meets.paper; written = meets.written }

module _ {cell ring_number : ℕ} {ring line : List ℕ} {k : ℕ} {book join words : List ℕ} where
  -- if a row is given, returning the first one's refusal and leaving both areas meets the contract
  closed_report_refused : {refusal : Refusal} → report_refusal (closed_rows ring k (length line) (length words) (length join)) book ≡ Some refusal
      → IsClosedReported cell ring_number ring line k book join words (Err refusal) join words
  closed_report_refused e =
      let report = report_refused e in
      record { paper = report.paper; written = report.written; joined_is = sym (join_refused _ (length ring) line join e) }

  -- If one of the search's rows is given, returning the first one's refusal and leaving both areas meets the contract of `report_closed`.
  pub closed_report_refused_row : {refusal : Refusal} → Some refusal ≡ first_given (closed_rows ring k (length line) (length words) (length join))
      → IsClosedReported cell ring_number ring line k book join words (Err refusal) join words
  closed_report_refused_row e = closed_report_refused (early_given _ book (sym e))

  -- If none of the search's rows is given and the book has a refusal, returning this and leaving both areas meets the contract of `report_closed`.
  pub closed_report_refused_book : {refusal : Refusal} → None ≡ first_given (closed_rows ring k (length line) (length words) (length join))
      → book_refusal book ≡ Some refusal → IsClosedReported cell ring_number ring line k book join words (Err refusal) join words
  closed_report_refused_book none_given e = closed_report_refused (late_given _ book (sym none_given) e)

  -- If no row is given, the closed line is scanned with the book and the join area is `joined_with`, returning found, hidden and looks meets the contract of
  -- `report_closed`.
  pub closed_report_accepted : {c : ReportCountsStruct} {joined out : List ℕ} → None ≡ first_given (closed_rows ring k (length line) (length words) (length join))
      → book_refusal book ≡ None → LineScanned cell ring_number ring (closed_line (length ring) line) k book words c.found c.hidden c.looks out → joined ≡ joined_with (length ring) line join
      → IsClosedReported cell ring_number ring line k book join words (Ok c) joined out
  closed_report_accepted none_given read done is =
      let report = report_accepted none_given read done in
      record {
        paper = report.paper;
        written = report.written;
        joined_is = is ∙ sym (join_accepted _ (length ring) line join ((none_row_iff _ book).1 (sym none_given, read)));
      }
