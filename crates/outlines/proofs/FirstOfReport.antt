-- Which of the report's rows is the first that is given: one of the search's rows, if one of them is; else one of the book's rows. The report's list is made of
-- these two parts, and no refusal belongs to both: `is_book_refusal` tells them apart, so that a new row of a search changes nothing here (`RowsExactly` of
-- crates/answers). The laws hold for the rows of any search.
use Prim.Native.Nat.{ℕ}
use mathlib.Core.Bool.{Bool, true, false, ◌||◌, false≢true}
use mathlib.Core.Logic.{◌↔◌}
use mathlib.Core.Path.{◌≡◌, refl, sym, subst, ◌∙◌}
use mathlib.Core.List.{List, ◌++◌}
use Rattle.std.specs.Prelude.{Option, None, Some}
use lib.Dec.{eqb}
use Rattle.answers.specs.declared.refusals.Refusal.{Refusal}
use Rattle.answers.specs.Refusals.{number_of}
use Rattle.answers.specs.Rows.{first_given}
use Rattle.answers.proofs.FirstRow.{first_append_none, first_append_some}
use Rattle.answers.proofs.RowsExactly.{early_iff, late_iff, none_append_iff}
use Rattle.silences.specs.Reading.{book_rows, book_refusal}
use Rattle.silences.proofs.BookRows.{refusal_has}
use Rattle.outlines.specs.Report.{report_rows, report_refusal}

-- Whether a refusal is that of a row of the book: 5, 6 or 7.
abbrev pub is_book_refusal : Refusal → Bool
is_book_refusal q = eqb (number_of q) 5 || (eqb (number_of q) 6 || eqb (number_of q) 7)

-- The first of these rows that is given has no refusal of the book.
abbrev pub NotOfBook : List (Option Refusal) → Type 0
NotOfBook rows = (q : Refusal) → first_given rows ≡ Some q → is_book_refusal q ≡ false

module _ (rows : List (Option Refusal)) (book : List ℕ) where
  -- The book's rows have refusals of the book alone.
  of_book : (q : Refusal) → book_refusal book ≡ Some q → is_book_refusal q ≡ true
  of_book = refusal_has book (λ (r : Refusal). is_book_refusal r ≡ true) refl (λ at. refl) (λ at. refl)

  -- A refusal that is not one of the book is the report's exactly when it is that of the search's rows.
  pub early_row_iff : (q : Refusal) → is_book_refusal q ≡ false → (report_refusal rows book ≡ Some q) ↔ (first_given rows ≡ Some q)
  unfolding report_rows
  early_row_iff q not_of_book = early_iff rows (book_rows book) q (λ e. false≢true (sym not_of_book ∙ of_book q e))

  -- A refusal of the book is the report's exactly when none of the search's rows is given and it is the book's.
  pub late_row_iff : NotOfBook rows → (q : Refusal) → is_book_refusal q ≡ true
      → (report_refusal rows book ≡ Some q) ↔ ((first_given rows ≡ None) × (book_refusal book ≡ Some q))
  unfolding report_rows
  late_row_iff not_of_book q is = late_iff rows (book_rows book) q (λ e. false≢true (sym (not_of_book q e) ∙ is))

  -- The report has no refusal exactly when none of the search's rows is given and the book has none.
  pub none_row_iff : (report_refusal rows book ≡ None) ↔ ((first_given rows ≡ None) × (book_refusal book ≡ None))
  unfolding report_rows
  none_row_iff = none_append_iff rows (book_rows book)

  -- If P holds for the refusal of the search's rows and for the book's, then P holds for the report's.
  pub report_row_has : (P : Refusal → Type 0) → ((q : Refusal) → first_given rows ≡ Some q → P q) → ((q : Refusal) → book_refusal book ≡ Some q → P q)
      → (q : Refusal) → report_refusal rows book ≡ Some q → P q
  unfolding report_rows
  report_row_has P early late q e = go (first_given rows) refl
    where
      go : (o : Option Refusal) → first_given rows ≡ o → P q
      go None no_row = late q (sym (first_append_none rows (book_rows book) no_row) ∙ e)
      go (Some p) is =
          let same : p ≡ q = let first = first_append_some rows (book_rows book) is in cc in
          subst P same (early p is)

  -- If one of the search's rows is given, the first of them is the report's.
  pub early_given : {q : Refusal} → first_given rows ≡ Some q → report_refusal rows book ≡ Some q
  unfolding report_rows
  early_given e = first_append_some rows (book_rows book) e

  -- If none of the search's rows is given, the book's refusal is the report's.
  pub late_given : {q : Refusal} → first_given rows ≡ None → book_refusal book ≡ Some q → report_refusal rows book ≡ Some q
  unfolding report_rows
  late_given no_row e = first_append_none rows (book_rows book) no_row ∙ e

  -- If the book is accepted, the report's refusal is that of the search's rows.
  pub accepted_book_row : book_refusal book ≡ None → report_refusal rows book ≡ first_given rows
  unfolding report_rows
  accepted_book_row read = go (first_given rows) refl
    where
      go : (o : Option Refusal) → first_given rows ≡ o → first_given (rows ++ book_rows book) ≡ o
      go None no_row = first_append_none rows (book_rows book) no_row ∙ read
      go (Some p) is = first_append_some rows (book_rows book) is
