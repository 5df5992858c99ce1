-- What follows for every answer that meets the contract of a report, for the rows of any search. The first row that is given decides the number, the counts
-- and the words (`AnswerByRows` of crates/answers). In an accepted report found is the number of findings, hidden the number of those that the book hides,
-- and the looks are the steps of rules 1 to 5. "For n ≥ m they are never above 3·m·n − 2·m·m + m, which is at most 3·m·n."
use Prim.Native.Nat.{ℕ, ◌+◌, ◌-◌, ◌*◌, ◌≤◌, ◌<◌}
use mathlib.Core.Path.{◌≡◌, refl, ap, ◌∙◌}
use mathlib.Core.List.{List}
use Rattle.std.specs.Prelude.{Option, None}
use Rattle.std.specs.Prelude.{Ok}
use lib.ListN.{length}
use Rattle.lists.specs.Areas.{written}
use Rattle.meaning.specs.Findings.{findings, words_of}
use Rattle.meaning.specs.Looks.{quick_looks}
use Rattle.meaning.proofs.LookBound.{quick_looks_le, quick_looks_most, quick_looks_short}
use Rattle.answers.specs.declared.refusals.Refusal.{Refusal}
use Rattle.answers.specs.Rows.{first_given}
use Rattle.answers.proofs.AnswerByRows.{accepted_number_iff, accepted_counts, accepted_area}
use Rattle.silences.specs.Reading.{silences_read, book_refusal}
use Rattle.outlines.specs.declared.quick.ReportCounts.{ReportCounts as ReportCountsStruct}
use Rattle.outlines.specs.Report.{shown, report_refusal, ReportCounts, no_report_counts, report_counts, report_answer, reported_words, IsReportedBy}
use Rattle.outlines.specs.LineScan.{LineScanned}
use Rattle.outlines.proofs.FirstOfReport.{none_row_iff}

module _ {rows : List (Option Refusal)} {cell ring_number : ℕ} {ring line : List ℕ} {k : ℕ} {book words : List ℕ} {c : ReportCountsStruct} {out : List ℕ}
    (meets : IsReportedBy rows cell ring_number ring line k book words (Ok c) out) where
  -- In an accepted report none of the search's rows is given, nor one of the book's.
  pub report_none_given : (first_given rows ≡ None) × (book_refusal book ≡ None)
  unfolding report_answer
  report_none_given =
      (none_row_iff rows book).0 ((accepted_number_iff no_report_counts (report_counts ring line k cell ring_number (silences_read book)) (report_refusal rows book) meets.paper).0 refl)

  -- In an accepted report found, hidden, looks and words are as `LineScanned` says.
  pub report_gives : LineScanned cell ring_number ring line k book words c.found c.hidden c.looks out
  unfolding report_answer reported_words
  report_gives =
      let row : Option Refusal = report_refusal rows book in
      let counts : ReportCounts = report_counts ring line k cell ring_number (silences_read book) in
      let no_row : row ≡ None = (none_row_iff rows book).1 report_none_given in
      let same = accepted_counts no_report_counts counts row meets.paper no_row in
      record {
        found_is = ap (λ (c : ReportCounts). c.found) same;
        hidden_is = ap (λ (c : ReportCounts). c.hidden) same;
        looks_are = ap (λ (c : ReportCounts). c.looks) same;
        words_are =
            accepted_area no_report_counts counts row meets.paper
            (written (words_of (shown (silences_read book) cell ring_number (findings ring line k))) words) words meets.written no_row;
      }

  -- "Looks are the sum over rules 1 and 5": the looks of an accepted report are `quick_looks`.
  pub report_looks_are : c.looks ≡ quick_looks ring line k
  report_looks_are = report_gives.looks_are

  -- The looks of an accepted report: "For n ≥ m they are never above 3·m·n − 2·m·m + m".
  pub report_looks_le : length ring ≤ length line → c.looks ≤ 3 * length ring * length line - 2 * length ring * length ring + length ring
  report_looks_le h = rw report_looks_are (quick_looks_le ring line k h)

  -- The looks of an accepted report are at most 3·m·n, if the search's rows accept no empty ring.
  pub report_looks_most : (first_given rows ≡ None → 0 < length ring) → c.looks ≤ 3 * length ring * length line
  report_looks_most some_edge = rw report_looks_are (quick_looks_most ring line k (some_edge report_none_given.0))

  -- An accepted report on a line shorter than the ring takes "no look".
  pub report_no_looks : length line < length ring → c.looks ≡ 0
  report_no_looks short = report_looks_are ∙ quick_looks_short ring line k short
