-- The table of a report, row by row, for the rows of any search: number, place, counts and words of every answer that meets the contract. The first row that
-- is given decides them (`AnswerByRows` of crates/answers), and FirstOfReport states which row that is. The book is a list of bytes.
use Prim.Native.Nat.{ℕ, ◌≤◌, ◌<◌}
use mathlib.Core.Path.{◌≡◌, refl, ap}
use mathlib.Core.Bool.{false}
use mathlib.Core.Logic.Iff
use mathlib.Core.Logic.{◌↔◌}
use mathlib.Core.List.{List}
use Rattle.std.specs.Prelude.{Option, None, Some}
use native.Mathlib.Omega.{arith}
use lib.ListN.{length}
use Rattle.lists.specs.Areas.{written}
use Rattle.lists.specs.Bounds.{IsBytes}
use Rattle.meaning.specs.Findings.{findings, words_of}
use Rattle.answers.specs.declared.refusals.Refusal.{Refusal}
use Rattle.answers.specs.declared.refusals.Refusal.TheVariants.{BookLength, Field, NotAbove}
use Rattle.answers.specs.Refusals.{number_of, place_of}
use Rattle.answers.specs.Paper.{Paper, answer_paper}
use Rattle.answers.specs.Rows.{first_given, answer_by, area_by}
use Rattle.answers.proofs.RefusalNumbers.{HasNoPlace}
use Rattle.answers.proofs.AnswerByRows.{row_number_iff, row_place_iff, accepted_number_iff, number_by, refused_counts, refused_area}
use Rattle.silences.specs.Silences.{Silence}
use Rattle.silences.specs.Books.{IsBook}
use Rattle.silences.specs.Faults.{IsFieldFault, IsOrderFault}
use Rattle.silences.specs.Reading.{silences_read}
use Rattle.silences.proofs.BookRows.{refusal_5_iff, refusal_6_iff, refusal_7_iff, refusal_has}
use Rattle.silences.proofs.AcceptedIsBook.{no_refusal_iff}
use Rattle.std.specs.Prelude.{Result}
use Rattle.outlines.specs.declared.quick.ReportCounts.{ReportCounts as ReportCountsStruct}
use Rattle.outlines.specs.Report.{shown, report_refusal, ReportCounts, no_report_counts, report_counts, report_answer, reported_words, paper_of, IsReportedBy}
use Rattle.outlines.proofs.FirstOfReport.{is_book_refusal, NotOfBook, early_row_iff, late_row_iff, none_row_iff, report_row_has}

-- The place is 0 unless the number is 6 or 7.
abbrev pub PlaceIsZero : ℕ → ℕ → Type 0
PlaceIsZero number place = (number ≡ 6 → ⊥) → (number ≡ 7 → ⊥) → place ≡ 0

-- if this holds for the number and place of every row that can be given, it holds for those of the paper that the first row decides
place_by_row : (o : Option Refusal) (counts : ReportCounts) {p : Paper ReportCounts} → p ≡ answer_paper no_report_counts (answer_by o counts)
    → ((q : Refusal) → o ≡ Some q → PlaceIsZero (number_of q) (place_of q)) → PlaceIsZero p.number p.place
place_by_row None counts paper each = λ _ _. ap (λ (x : Paper ReportCounts). x.place) paper
place_by_row (Some q) counts paper each = rw paper (each q refl)

module _ {rows : List (Option Refusal)} {cell ring_number : ℕ} {ring line : List ℕ} {k : ℕ} {book words : List ℕ} {r : Result ReportCountsStruct Refusal} {out : List ℕ}
    (meets : IsReportedBy rows cell ring_number ring line k book words r out) where
  -- the counts of an accepted report
  abbrev counted : ReportCounts
  counted = report_counts ring line k cell ring_number (silences_read book)

  -- The number is that of a search's refusal, whose place is always 0, exactly when this is the first of the search's rows that is given.
  pub report_number_iff : (q : Refusal) → is_book_refusal q ≡ false → HasNoPlace (number_of q) → ((paper_of r).number ≡ number_of q) ↔ (first_given rows ≡ Some q)
  unfolding report_answer
  report_number_iff q not_of_book no_place =
      Iff.trans (row_number_iff no_report_counts counted (report_refusal rows book) meets.paper q no_place) (early_row_iff rows book q not_of_book)

  -- Row 5: none of the search's rows is given, and the book is longer than 15,000 bytes.
  pub report_5_iff : NotOfBook rows → ((paper_of r).number ≡ 5) ↔ ((first_given rows ≡ None) × (15000 < length book))
  unfolding report_answer
  report_5_iff not_of_book =
      Iff.trans (row_number_iff no_report_counts counted (report_refusal rows book) meets.paper BookLength (omega arith))
      (Iff.trans (late_row_iff rows book not_of_book BookLength refl) (Iff.and Iff.rfl (refusal_5_iff book)))

  -- The number is 0 exactly when no row is given, neither of the search nor of the book.
  pub report_none_iff : ((paper_of r).number ≡ 0) ↔ (report_refusal rows book ≡ None)
  unfolding report_answer
  report_none_iff = accepted_number_iff no_report_counts counted (report_refusal rows book) meets.paper

  module _ (bytes : IsBytes book) where
    -- Row 6 with its place: none of the search's rows is given, nor row 5, and the first faulty field is this one, which isn't as laid down or is cut off.
    pub report_6_iff : NotOfBook rows → (at : ℕ)
        → (((paper_of r).number ≡ 6) × ((paper_of r).place ≡ at)) ↔ ((first_given rows ≡ None) × ((length book ≤ 15000) × IsFieldFault book at))
    unfolding report_answer
    report_6_iff not_of_book at =
        Iff.trans (row_place_iff no_report_counts counted (report_refusal rows book) meets.paper (Field at))
        (Iff.trans (late_row_iff rows book not_of_book (Field at) refl) (Iff.and Iff.rfl (refusal_6_iff book bytes at)))

    -- Row 7 with its place: none of the search's rows is given, nor row 5, and the first faulty field is this one, whose record isn't above the one before it.
    pub report_7_iff : NotOfBook rows → (at : ℕ)
        → (((paper_of r).number ≡ 7) × ((paper_of r).place ≡ at)) ↔ ((first_given rows ≡ None) × ((length book ≤ 15000) × IsOrderFault book at))
    unfolding report_answer
    report_7_iff not_of_book at =
        Iff.trans (row_place_iff no_report_counts counted (report_refusal rows book) meets.paper (NotAbove at))
        (Iff.trans (late_row_iff rows book not_of_book (NotAbove at) refl) (Iff.and Iff.rfl (refusal_7_iff book bytes at)))

    -- The number is 0 exactly when none of the search's rows is given and the book is a book of some list of silences.
    pub report_accepted_iff : ((paper_of r).number ≡ 0) ↔ ((first_given rows ≡ None) × ((ss : List Silence) × IsBook ss book))
    report_accepted_iff = Iff.trans report_none_iff (Iff.trans (none_row_iff rows book) (Iff.and Iff.rfl (no_refusal_iff book bytes)))

  -- If P holds for 0, for the numbers of the search's rows that can be given, and for 5, 6 and 7, it holds for the number.
  pub report_number_by : (P : ℕ → Type 0) → P 0 → ((q : Refusal) → first_given rows ≡ Some q → P (number_of q)) → P 5 → P 6 → P 7 → P (paper_of r).number
  unfolding report_answer
  report_number_by P zero_has early five six seven =
      number_by no_report_counts counted (report_refusal rows book) meets.paper P zero_has
      (report_row_has rows book (λ (q : Refusal). P (number_of q)) early (refusal_has book (λ (q : Refusal). P (number_of q)) five (λ at. six) (λ at. seven)))

  -- If the search's rows have place 0, the place is 0 unless the number is 6 or 7.
  pub report_place_by : ((q : Refusal) → first_given rows ≡ Some q → place_of q ≡ 0) → PlaceIsZero (paper_of r).number (paper_of r).place
  unfolding report_answer
  report_place_by early =
      place_by_row (report_refusal rows book) counted meets.paper
      (report_row_has rows book (λ (q : Refusal). PlaceIsZero (number_of q) (place_of q)) (λ q e _ _. early q e)
      (refusal_has book (λ (q : Refusal). PlaceIsZero (number_of q) (place_of q)) (λ _ _. refl) (λ at not_6 _. absurd (not_6 refl))
      (λ at _ not_7. absurd (not_7 refl))))

  -- A refusal has "zero in every count".
  pub report_no_counts : 0 < (paper_of r).number → (paper_of r).counts ≡ no_report_counts
  unfolding report_answer
  report_no_counts = refused_counts no_report_counts counted (report_refusal rows book) meets.paper

  -- A refusal leaves a lent area as it was, if the report's rows decide what the area holds at exit.
  pub report_area : (new old : List ℕ) {area : List ℕ} → area ≡ area_by (report_refusal rows book) new old → 0 < (paper_of r).number → area ≡ old
  unfolding report_answer
  report_area = refused_area no_report_counts counted (report_refusal rows book) meets.paper

  -- A refusal leaves the lent words as they were.
  pub report_untouched : 0 < (paper_of r).number → out ≡ words
  unfolding reported_words
  report_untouched = report_area (written (words_of (shown (silences_read book) cell ring_number (findings ring line k))) words) words meets.written
