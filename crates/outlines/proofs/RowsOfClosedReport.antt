-- The rows of the table, 1, 12, 2, 3, 4, 10 and 5 to 7, hold for every answer that meets the contract of `report_closed`, if the book is a list of bytes, and
-- the join area is as the table says. ReportByRows has the table for the rows of any search; ClosedAdmitRows of crates/findings states when each row of a
-- search on a closed line is the first that is given, and JoinAtExit has the join area.
use Prim.Native.Nat.{ℕ, ◌≤◌}
use mathlib.Core.Path.{◌≡◌, refl, ap, ◌∙◌}
use mathlib.Core.Bool.{false}
use mathlib.Core.Logic.Iff
use mathlib.Core.Logic.{◌⊎◌, inl, inr, ⊎_elim}
use mathlib.Core.List.{List}
use Rattle.std.specs.Prelude.{Option}
use native.Mathlib.Omega.{arith}
use lib.ListN.{length}
use Rattle.lists.specs.Bounds.{IsBytes}
use Rattle.meaning.specs.Closed.{joined_with}
use Rattle.answers.specs.declared.refusals.Refusal.{Refusal}
use Rattle.answers.specs.declared.refusals.Refusal.TheVariants.{Ring, Allowance, Line, FindingsRoom, OutputRoom, RingMark}
use Rattle.findings.specs.ClosedRows.{closed_rows}
use Rattle.findings.specs.ClosedSearching.{join_at_exit}
use Rattle.findings.proofs.ClosedAdmitRows.{closed_row_1_iff, closed_row_12_iff, closed_row_2_iff, closed_row_3_iff, closed_row_4_iff, closed_row_10_iff, closed_no_row_iff, closed_row_has, closed_row_numbers, closed_row_places}
use Rattle.findings.proofs.JoinAtExit.{join_short, join_long}
use Rattle.std.specs.Prelude.{Result}
use Rattle.outlines.specs.declared.quick.ReportCounts.{ReportCounts as ReportCountsStruct}
use Rattle.outlines.specs.Report.{report_rows, ReportCounts, paper_of}
use Rattle.outlines.specs.ClosedReport.{IsClosedReported}
use Rattle.outlines.specs.ClosedReportRows.{ClosedReportRows}
use Rattle.outlines.proofs.FirstOfReport.{is_book_refusal, NotOfBook}
use Rattle.outlines.proofs.ReportByRows.{report_number_iff, report_5_iff, report_6_iff, report_7_iff, report_accepted_iff, report_none_iff, report_number_by, report_place_by, report_no_counts, report_area, report_untouched}
use Rattle.outlines.proofs.ClosedReportAnswers.{closed_is_report}

-- the rows of a search on a closed line have no refusal of the book
closed_not_of_book : (ring : List ℕ) (k n room joins : ℕ) → NotOfBook (closed_rows ring k n room joins)
closed_not_of_book ring k n room joins = closed_row_has ring k n room joins (λ (q : Refusal). is_book_refusal q ≡ false) refl refl refl refl refl refl

-- the numbers of the rows of a report on a closed line, and 0
abbrev InTable : ℕ → Type 0
InTable number = (number ≤ 7) ⊎ ((number ≡ 10) ⊎ (number ≡ 12))

-- Every answer that meets the contract of `report_closed`, for a book of bytes, obeys the table `ClosedReportRows`.
pub closed_report_rows : {cell ring_number : ℕ} {ring line : List ℕ} {k : ℕ} {book join words : List ℕ} {r : Result ReportCountsStruct Refusal} {joined out : List ℕ} → IsBytes book
    → IsClosedReported cell ring_number ring line k book join words r joined out → ClosedReportRows ring line k book join words (paper_of r) joined out
unfolding join_at_exit
closed_report_rows {cell} {ring_number} {ring} {line} {k} {book} {join} {words} bytes meets =
    let n = length line in
    let room = length words in
    let joins = length join in
    let rows : List (Option Refusal) = closed_rows ring k n room joins in
    let not_of_book = closed_not_of_book ring k n room joins in
    let no_row_iff = closed_no_row_iff ring k n room joins in
    let report = closed_is_report meets in
    record {
      row_1 = Iff.trans (report_number_iff report Ring refl (omega arith)) (closed_row_1_iff ring k n room joins);
      row_12 = Iff.trans (report_number_iff report RingMark refl (omega arith)) (closed_row_12_iff ring k n room joins);
      row_2 = Iff.trans (report_number_iff report Allowance refl (omega arith)) (closed_row_2_iff ring k n room joins);
      row_3 = Iff.trans (report_number_iff report Line refl (omega arith)) (closed_row_3_iff ring k n room joins);
      row_4 = Iff.trans (report_number_iff report FindingsRoom refl (omega arith)) (closed_row_4_iff ring k n room joins);
      row_10 = Iff.trans (report_number_iff report OutputRoom refl (omega arith)) (closed_row_10_iff ring k n room joins);
      row_5 = Iff.trans (report_5_iff report not_of_book) (Iff.and no_row_iff Iff.rfl);
      row_6 = λ at. Iff.trans (report_6_iff report bytes not_of_book at) (Iff.and no_row_iff Iff.rfl);
      row_7 = λ at. Iff.trans (report_7_iff report bytes not_of_book at) (Iff.and no_row_iff Iff.rfl);
      accepted = Iff.trans (report_accepted_iff report bytes) (Iff.and no_row_iff Iff.rfl);
      numbers =
          report_number_by report InTable (inl (omega arith)) (λ q e. ⊎_elim (λ l. inl (omega arith)) (λ is. inr is) (closed_row_numbers ring k n room joins q e))
          (inl (omega arith)) (inl (omega arith)) (inl (omega arith));
      place_is = report_place_by report (closed_row_places ring k n room joins);
      no_found = λ l. ap (λ (c : ReportCounts). c.found) (report_no_counts report l);
      no_hidden = λ l. ap (λ (c : ReportCounts). c.hidden) (report_no_counts report l);
      no_looks = λ l. ap (λ (c : ReportCounts). c.looks) (report_no_counts report l);
      untouched = report_untouched report;
      join_untouched = report_area report (joined_with (length ring) line join) join meets.joined_is;
      join_short = λ short. meets.joined_is ∙ join_short (report_rows rows book) (length ring) line join short;
      join_long = λ zero_is long. meets.joined_is ∙ join_long (report_rows rows book) (length ring) line join ((report_none_iff report).0 zero_is) long;
    }
