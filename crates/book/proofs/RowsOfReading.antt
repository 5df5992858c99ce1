-- The rows of `read`, for any answer `r` that meets its contract. Rows 5, 6 and 7 of document 01's table are given exactly when the table says, each with its
-- number and place; no other row is given; n records are returned exactly for a book of n silences. Rows 5 to 7 are stated once for any call that begins with
-- a book's rows (`row_5` to `row_7`), since unpacking does too. From BookRows of crates/silences, by AnswerByRows of crates/answers.
use Prim.Native.Nat.{ℕ, ◌≤◌, ◌<◌}
use mathlib.Core.Logic.Iff
use mathlib.Core.Logic.{◌⊎◌, inl, inr, ◌↔◌}
use mathlib.Core.Path.{◌≡◌, refl, ap, ◌∙◌}
use mathlib.Core.List.{List}
use Rattle.std.specs.Prelude.{Option, Some}
use native.Mathlib.Omega.{arith}
use lib.ListN.{length}
use Rattle.lists.specs.Bounds.{IsBytes}
use Rattle.answers.specs.declared.refusals.Refusal.{Refusal}
use Rattle.answers.specs.declared.refusals.Refusal.TheVariants.{BookLength, Field, NotAbove}
use Rattle.answers.specs.Refusals.{number_of}
use Rattle.answers.specs.Paper.{Paper, answer_paper}
use Rattle.answers.specs.Rows.{answer_by}
use Rattle.answers.proofs.RefusalNumbers.{refusal_place_is}
use Rattle.answers.proofs.AnswerByRows.{row_place_iff, row_number_iff, accepted_number_iff, number_by, refused_counts}
use Rattle.silences.specs.Silences.{Silence}
use Rattle.silences.specs.Layout.{most_bytes}
use Rattle.silences.specs.Reading.{silences_read, book_refusal}
use Rattle.silences.specs.Books.{IsBook}
use Rattle.silences.specs.Faults.{IsFieldFault, IsOrderFault}
use Rattle.silences.proofs.AcceptedIsBook.{read_book_iff, no_refusal_iff}
use Rattle.silences.proofs.BookRows.{book_answer_is, refusal_5_iff, refusal_6_iff, refusal_7_iff, refusal_has}
use Rattle.std.specs.Prelude.{Result, Ok}
use Rattle.book.specs.Calls.{paper_of, records_paper, IsRead}
use Rattle.book.proofs.RowNumbers.{paper_by, records_iff}

-- For any call whose first row given is `o`, if its refusals other than number 10 are exactly the book's. `p` is its paper.
module _ (book : List ℕ) {p : Paper ℕ} (o : Option Refusal) (counts : ℕ) (paper : p ≡ answer_paper 0 (answer_by o counts))
    (same : (q : Refusal) → (10 ≡ number_of q → ⊥) → (o ≡ Some q) ↔ (book_refusal book ≡ Some q)) where
  -- Row 5 is given exactly for a book longer than 15,000 bytes.
  pub row_5 : (p.number ≡ 5) ↔ (most_bytes < length book)
  row_5 = Iff.trans (row_number_iff 0 counts o paper BookLength (omega arith)) (Iff.trans (same BookLength (λ e. omega arith)) (refusal_5_iff book))

  module _ (bytes : IsBytes book) (at : ℕ) where
    -- Row 6, no field of a silence, or one cut off, is given at byte offset `at` exactly if row 5 is not and it is the first fault.
    pub row_6 : ((p.number ≡ 6) × (p.place ≡ at)) ↔ ((length book ≤ most_bytes) × IsFieldFault book at)
    row_6 = Iff.trans (row_place_iff 0 counts o paper (Field at)) (Iff.trans (same (Field at) (λ e. omega arith)) (refusal_6_iff book bytes at))

    -- Row 7, "a record isn't above the one before it", is given at byte offset `at` exactly if row 5 is not and it is the first fault.
    pub row_7 : ((p.number ≡ 7) × (p.place ≡ at)) ↔ ((length book ≤ most_bytes) × IsOrderFault book at)
    row_7 = Iff.trans (row_place_iff 0 counts o paper (NotAbove at)) (Iff.trans (same (NotAbove at) (λ e. omega arith)) (refusal_7_iff book bytes at))

module _ (book : List ℕ) (r : Result ℕ Refusal) (meets : IsRead book r) where
  -- the paper of `r`, by the first row that is given
  paper : paper_of r ≡ answer_paper 0 (answer_by (book_refusal book) (length (silences_read book)))
  paper = paper_by (book_refusal book) (silences_read book) (meets.paper ∙ ap records_paper (book_answer_is book))

  -- Row 5 is given exactly for a book longer than 15,000 bytes.
  pub read_row_5 : ((paper_of r).number ≡ 5) ↔ (most_bytes < length book)
  read_row_5 = row_5 book (book_refusal book) (length (silences_read book)) paper (λ q other. Iff.rfl)

  -- `read` gives no row but 5, 6 and 7: the number is 0, 5, 6 or 7.
  pub read_numbers : ((paper_of r).number ≡ 0) ⊎ (((paper_of r).number ≡ 5) ⊎ (((paper_of r).number ≡ 6) ⊎ ((paper_of r).number ≡ 7)))
  read_numbers =
      number_by 0 (length (silences_read book)) (book_refusal book) paper (λ (n : ℕ). (n ≡ 0) ⊎ ((n ≡ 5) ⊎ ((n ≡ 6) ⊎ (n ≡ 7)))) (inl refl)
      (refusal_has book (λ (q : Refusal). (number_of q ≡ 0) ⊎ ((number_of q ≡ 5) ⊎ ((number_of q ≡ 6) ⊎ (number_of q ≡ 7))))
      (inr (inl refl)) (λ at. inr (inr (inl refl))) (λ at. inr (inr (inr refl))))

  -- The place of refusal 5 is 0.
  pub read_row_5_place : (paper_of r).number ≡ 5 → (paper_of r).place ≡ 0
  read_row_5_place = refusal_place_is 0 (answer_by (book_refusal book) (length (silences_read book))) paper BookLength (omega arith)

  -- "A refusal carries .. zero in every count": its number of records is 0.
  pub read_refused_none : 0 < (paper_of r).number → (paper_of r).counts ≡ 0
  read_refused_none = refused_counts 0 (length (silences_read book)) (book_refusal book) paper

  module _ (bytes : IsBytes book) where
    -- Row 6, no field of a silence, or one cut off, is given at byte offset `at` exactly if row 5 is not and it is the first fault.
    pub read_row_6 : (at : ℕ) → (((paper_of r).number ≡ 6) × ((paper_of r).place ≡ at)) ↔ ((length book ≤ most_bytes) × IsFieldFault book at)
    read_row_6 = row_6 book (book_refusal book) (length (silences_read book)) paper (λ q other. Iff.rfl) bytes

    -- Row 7, "a record isn't above the one before it", is given at byte offset `at` exactly if row 5 is not and it is the first fault.
    pub read_row_7 : (at : ℕ) → (((paper_of r).number ≡ 7) × ((paper_of r).place ≡ at)) ↔ ((length book ≤ most_bytes) × IsOrderFault book at)
    read_row_7 = row_7 book (book_refusal book) (length (silences_read book)) paper (λ q other. Iff.rfl) bytes

    -- `read` accepts bytes exactly when they are a book of some silences.
    pub read_accepted : ((paper_of r).number ≡ 0) ↔ ((ss : List Silence) × IsBook ss book)
    read_accepted = Iff.trans (accepted_number_iff 0 (length (silences_read book)) (book_refusal book) paper) (no_refusal_iff book bytes)

    -- `read` returns n records exactly for a book of n silences.
    pub read_records : (n : ℕ) → (r ≡ Ok n) ↔ ((ss : List Silence) × IsBook ss book × (length ss ≡ n))
    read_records n =
        Iff.trans (records_iff (book_refusal book) (silences_read book) r (meets.paper ∙ ap records_paper (book_answer_is book)) n) (read_book_iff book bytes (λ (ss : List Silence). length ss ≡ n))
