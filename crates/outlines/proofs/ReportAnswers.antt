-- The three ways in which a report meets its contract: one of the search's rows is given; none of them is, and one of the book's rows is; or no row is given,
-- and the line is scanned with the book. A refusal leaves the words as they were. Stated for the rows of any search.
use Prim.Native.Nat.{ℕ}
use mathlib.Core.Path.{◌≡◌, sym, ap, subst, ◌∙◌}
use mathlib.Core.List.{List}
use Rattle.std.specs.Prelude.{Option, None, Some}
use Rattle.std.specs.Prelude.{Ok, Err}
use Rattle.lists.specs.Areas.{written}
use Rattle.meaning.specs.Findings.{findings, words_of}
use Rattle.answers.specs.declared.refusals.Refusal.{Refusal}
use Rattle.answers.specs.Paper.{answer_paper}
use Rattle.answers.specs.Rows.{first_given, answer_by, area_by}
use Rattle.silences.specs.Reading.{read_book, silences_read, book_refusal}
use Rattle.silences.proofs.BookRows.{book_refused_iff, book_accepted_iff}
use Rattle.std.specs.Prelude.{Result, Ok, Err}
use Rattle.book.specs.Calls.{IsRead}
use Rattle.book.proofs.AcceptedBook.{has_records, has_refusal, read_answer_is}
use Rattle.outlines.specs.declared.quick.ReportCounts.{ReportCounts as ReportCountsStruct}
use Rattle.outlines.specs.Report.{shown, report_refusal, no_report_counts, report_counts, report_answer, reported_words, IsReportedBy}
use Rattle.outlines.specs.LineScan.{LineScanned}
use Rattle.outlines.proofs.FirstOfReport.{early_given, late_given, none_row_iff}

-- If `read` accepts the book, the book has no refusal.
pub read_accepted : {book : List ℕ} {r : Result ℕ Refusal} {records : ℕ} → IsRead book r → r ≡ Ok records → book_refusal book ≡ None
read_accepted {book} {r} {records} meets e =
    let has = has_records (read_book book) records (read_answer_is book (Ok records) (subst (IsRead book) e meets)) in
    ((book_accepted_iff book has.silences).0 has.is).0

-- If `read` refuses the book, the book has this refusal.
pub read_refused : {book : List ℕ} {r : Result ℕ Refusal} {refusal : Refusal} → IsRead book r → r ≡ Err refusal → book_refusal book ≡ Some refusal
read_refused {book} {r} {refusal} meets e =
    (book_refused_iff book refusal).0 (has_refusal (read_book book) refusal (read_answer_is book (Err refusal) (subst (IsRead book) e meets)))

module _ {rows : List (Option Refusal)} {cell ring_number : ℕ} {ring line : List ℕ} {k : ℕ} {book words : List ℕ} where
  -- If a row is given, returning the first one's refusal and leaving the words meets the contract of a report.
  pub report_refused : {refusal : Refusal} → report_refusal rows book ≡ Some refusal → IsReportedBy rows cell ring_number ring line k book words (Err refusal) words
  unfolding report_answer reported_words
  report_refused e = record {
    paper = sym (ap (λ (o : Option Refusal). answer_paper no_report_counts (answer_by o (report_counts ring line k cell ring_number (silences_read book)))) e);
    written = sym (ap (λ (o : Option Refusal). area_by o (written (words_of (shown (silences_read book) cell ring_number (findings ring line k))) words) words) e);
  }

  -- If one of the search's rows is given, returning the first one's refusal and leaving the words meets the contract of a report.
  pub report_refused_row : {refusal : Refusal} → Some refusal ≡ first_given rows → IsReportedBy rows cell ring_number ring line k book words (Err refusal) words
  report_refused_row e = report_refused (early_given rows book (sym e))

  -- If none of the search's rows is given and the book has a refusal, returning this and leaving the words meets the contract of a report.
  pub report_refused_book : {refusal : Refusal} → None ≡ first_given rows → book_refusal book ≡ Some refusal
      → IsReportedBy rows cell ring_number ring line k book words (Err refusal) words
  report_refused_book no_row e = report_refused (late_given rows book (sym no_row) e)

  -- If no row is given and the line is scanned with the book, returning found, hidden and looks meets the contract of a report.
  pub report_accepted : {c : ReportCountsStruct} {out : List ℕ} → None ≡ first_given rows → book_refusal book ≡ None
      → LineScanned cell ring_number ring line k book words c.found c.hidden c.looks out → IsReportedBy rows cell ring_number ring line k book words (Ok c) out
  unfolding report_answer reported_words
  report_accepted none_given read done =
      let no_row = (none_row_iff rows book).1 (sym none_given, read) in
      record {
        paper =
            (λ j. record { number = 0; place = 0; counts = record { found = done.found_is j; hidden = done.hidden_is j; looks = done.looks_are j } })
            ∙ sym (ap (λ (o : Option Refusal). answer_paper no_report_counts (answer_by o (report_counts ring line k cell ring_number (silences_read book)))) no_row);
        written =
            done.words_are
            ∙ sym (ap (λ (o : Option Refusal). area_by o (written (words_of (shown (silences_read book) cell ring_number (findings ring line k))) words) words) no_row);
      }
