-- The rows of the table, 1, 12 and 2 to 7, hold for every answer that meets the contract of `report`, if the book is a list of bytes. ReportByRows has the
-- table for the rows of any search; those of `report` are survey's and scan's, and AdmitRows of crates/findings states when each of them is the first that is
-- given.
use Prim.Native.Nat.{ℕ, ◌≤◌}
use mathlib.Core.Path.{◌≡◌, refl, ap}
use mathlib.Core.Bool.{false}
use mathlib.Core.Logic.Iff
use mathlib.Core.Logic.{◌⊎◌, inl, inr, ⊎_elim}
use mathlib.Core.List.{List}
use native.Mathlib.Omega.{arith}
use lib.ListN.{length}
use Rattle.lists.specs.Bounds.{IsBytes}
use Rattle.answers.specs.declared.refusals.Refusal.{Refusal}
use Rattle.answers.specs.declared.refusals.Refusal.TheVariants.{Ring, Allowance, Line, FindingsRoom, RingMark}
use Rattle.findings.specs.Admitting.{admit_rows}
use Rattle.findings.proofs.AdmitRows.{row_1_iff, row_12_iff, row_2_iff, row_3_iff, row_4_iff, no_row_iff, by_row, row_numbers, row_places}
use Rattle.std.specs.Prelude.{Result}
use Rattle.outlines.specs.declared.quick.ReportCounts.{ReportCounts as ReportCountsStruct}
use Rattle.outlines.specs.Report.{ReportCounts, paper_of, IsReported}
use Rattle.outlines.specs.ReportRows.{ReportRows}
use Rattle.outlines.proofs.FirstOfReport.{is_book_refusal, NotOfBook}
use Rattle.outlines.proofs.ReportByRows.{report_number_iff, report_5_iff, report_6_iff, report_7_iff, report_accepted_iff, report_number_by, report_place_by, report_no_counts, report_untouched}

-- the rows of survey and scan have no refusal of the book
search_not_of_book : (ring : List ℕ) (k n room : ℕ) → NotOfBook (admit_rows ring k n room)
search_not_of_book ring k n room =
    by_row ring k n room (λ (q : Refusal). is_book_refusal q ≡ false) (λ _. refl) (λ _. refl) (λ _. refl) (λ _. refl) (λ _. refl)

-- the numbers of a report's rows, and 0
abbrev InTable : ℕ → Type 0
InTable number = (number ≤ 7) ⊎ (number ≡ 12)

-- Every answer that meets the contract of `report`, for a book of bytes, obeys the table `ReportRows`.
pub report_rows_lem : {cell ring_number : ℕ} {ring line : List ℕ} {k : ℕ} {book words : List ℕ} {r : Result ReportCountsStruct Refusal} {out : List ℕ} → IsBytes book
    → IsReported cell ring_number ring line k book words r out → ReportRows ring k (length line) book words (paper_of r) out
report_rows_lem {cell} {ring_number} {ring} {line} {k} {book} {words} bytes meets =
    let n = length line in
    let room = length words in
    let not_of_book = search_not_of_book ring k n room in
    record {
      row_1 = Iff.trans (report_number_iff meets Ring refl (omega arith)) (row_1_iff ring k n room);
      row_12 = Iff.trans (report_number_iff meets RingMark refl (omega arith)) (row_12_iff ring k n room);
      row_2 = Iff.trans (report_number_iff meets Allowance refl (omega arith)) (row_2_iff ring k n room);
      row_3 = Iff.trans (report_number_iff meets Line refl (omega arith)) (row_3_iff ring k n room);
      row_4 = Iff.trans (report_number_iff meets FindingsRoom refl (omega arith)) (row_4_iff ring k n room);
      row_5 = Iff.trans (report_5_iff meets not_of_book) (Iff.and (no_row_iff ring k n room) Iff.rfl);
      row_6 = λ at. Iff.trans (report_6_iff meets bytes not_of_book at) (Iff.and (no_row_iff ring k n room) Iff.rfl);
      row_7 = λ at. Iff.trans (report_7_iff meets bytes not_of_book at) (Iff.and (no_row_iff ring k n room) Iff.rfl);
      accepted = Iff.trans (report_accepted_iff meets bytes) (Iff.and (no_row_iff ring k n room) Iff.rfl);
      numbers =
          report_number_by meets InTable (inl (omega arith)) (λ q e. ⊎_elim (λ l. inl (omega arith)) (λ is. inr is) (row_numbers ring k n room q e)) (inl (omega arith))
          (inl (omega arith)) (inl (omega arith));
      place_is = report_place_by meets (row_places ring k n room);
      no_found = λ l. ap (λ (c : ReportCounts). c.found) (report_no_counts meets l);
      no_hidden = λ l. ap (λ (c : ReportCounts). c.hidden) (report_no_counts meets l);
      no_looks = λ l. ap (λ (c : ReportCounts). c.looks) (report_no_counts meets l);
      untouched = report_untouched meets;
    }
