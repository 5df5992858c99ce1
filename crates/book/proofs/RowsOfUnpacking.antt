-- The rows of `unpack`, for any answer `r` and area at exit `out` that meet its contract. Rows 5, 6, 7 and 10 of document 01's table are given exactly when the
-- table says, each with its number and place; no other row is given; a refusal counts and writes nothing; n records are returned exactly for a book of n
-- silences with room for their words. From UnpackRows of crates/silences, by AnswerByRows of crates/answers; rows 5 to 7 as for reading (RowsOfReading).
use Prim.Native.Nat.{ℕ, ◌*◌, ◌≤◌, ◌<◌}
use mathlib.Core.Logic.Iff
use mathlib.Core.Logic.{◌⊎◌, inl, inr, ◌↔◌}
use mathlib.Core.Path.{◌≡◌, refl, ◌∙◌}
use mathlib.Core.List.{List}
use Rattle.std.specs.Prelude.{Option}
use native.Mathlib.Omega.{arith}
use lib.ListN.{length}
use Rattle.lists.specs.Areas.{written}
use Rattle.lists.specs.Bounds.{IsBytes}
use Rattle.answers.specs.declared.refusals.Refusal.{Refusal}
use Rattle.answers.specs.declared.refusals.Refusal.TheVariants.{BookLength, OutputRoom}
use Rattle.answers.specs.Refusals.{number_of}
use Rattle.answers.specs.Paper.{answer_paper}
use Rattle.answers.specs.Rows.{answer_by}
use Rattle.answers.proofs.RefusalNumbers.{refusal_place_is}
use Rattle.answers.proofs.AnswerByRows.{row_number_iff, accepted_number_iff, number_by, refused_counts, refused_area}
use Rattle.silences.specs.Silences.{Silence}
use Rattle.silences.specs.Layout.{most_bytes}
use Rattle.silences.specs.Reading.{silences_read}
use Rattle.silences.specs.Packing.{words_of_silences, record_words, unpack_refusal, unpacked}
use Rattle.silences.specs.Books.{IsBook}
use Rattle.silences.specs.Faults.{IsFieldFault, IsOrderFault}
use Rattle.silences.proofs.AcceptedIsBook.{read_book_iff}
use Rattle.silences.proofs.UnpackRows.{unpack_has, unpack_row_iff, unpack_10_iff, unpack_none_iff}
use Rattle.std.specs.Prelude.{Result, Ok}
use Rattle.book.specs.Calls.{paper_of, IsUnpacked}
use Rattle.book.proofs.RowNumbers.{area_by_lem, paper_by, records_iff}
use Rattle.book.proofs.RowsOfReading.{row_5, row_6, row_7}

module _ (book area : List ℕ) (r : Result ℕ Refusal) (out : List ℕ) (meets : IsUnpacked book area r out) where
  -- the first row that is given
  abbrev o : Option Refusal
  o = unpack_refusal book (length area)

  -- the number of silences read
  abbrev records : ℕ
  records = length (silences_read book)

  -- the paper of `r`, by the first row that is given
  paper : paper_of r ≡ answer_paper 0 (answer_by o records)
  unfolding unpacked
  paper = paper_by o (silences_read book) meets.paper

  -- Row 5 is given exactly for a book longer than 15,000 bytes.
  pub unpack_row_5 : ((paper_of r).number ≡ 5) ↔ (most_bytes < length book)
  unpack_row_5 = row_5 book o records paper (unpack_row_iff book (length area))

  -- `unpack` gives no row but 5, 6, 7 and 10: the number is 0, 5, 6, 7 or 10.
  pub unpack_numbers : ((paper_of r).number ≡ 0) ⊎ (((paper_of r).number ≡ 5) ⊎ (((paper_of r).number ≡ 6) ⊎ (((paper_of r).number ≡ 7) ⊎ ((paper_of r).number ≡ 10))))
  unpack_numbers =
      number_by 0 records o paper (λ (n : ℕ). (n ≡ 0) ⊎ ((n ≡ 5) ⊎ ((n ≡ 6) ⊎ ((n ≡ 7) ⊎ (n ≡ 10))))) (inl refl)
      (unpack_has book (length area)
      (λ (q : Refusal). (number_of q ≡ 0) ⊎ ((number_of q ≡ 5) ⊎ ((number_of q ≡ 6) ⊎ ((number_of q ≡ 7) ⊎ (number_of q ≡ 10)))))
      (inr (inl refl)) (λ at. inr (inr (inl refl))) (λ at. inr (inr (inr (inl refl)))) (inr (inr (inr (inr refl)))))

  -- The place of refusal 5 is 0.
  pub unpack_row_5_place : (paper_of r).number ≡ 5 → (paper_of r).place ≡ 0
  unpack_row_5_place = refusal_place_is 0 (answer_by o records) paper BookLength (omega arith)

  -- The place of refusal 10 is 0.
  pub unpack_row_10_place : (paper_of r).number ≡ 10 → (paper_of r).place ≡ 0
  unpack_row_10_place = refusal_place_is 0 (answer_by o records) paper OutputRoom (omega arith)

  -- "A refusal carries .. zero in every count": its number of records is 0.
  pub unpack_refused_none : 0 < (paper_of r).number → (paper_of r).counts ≡ 0
  unpack_refused_none = refused_counts 0 records o paper

  -- A refusal "writes nothing to any lent area": the area at exit is the area at entry.
  pub unpack_refused_area : 0 < (paper_of r).number → out ≡ area
  unfolding unpacked
  unpack_refused_area =
      refused_area 0 records o paper (written (words_of_silences (silences_read book)) area) area (meets.written ∙ area_by_lem words_of_silences area o (silences_read book))

  module _ (bytes : IsBytes book) where
    -- Row 6, no field of a silence, or one cut off, is given at byte offset `at` exactly if row 5 is not and it is the first fault.
    pub unpack_row_6 : (at : ℕ) → (((paper_of r).number ≡ 6) × ((paper_of r).place ≡ at)) ↔ ((length book ≤ most_bytes) × IsFieldFault book at)
    unpack_row_6 = row_6 book o records paper (unpack_row_iff book (length area)) bytes

    -- Row 7, "a record isn't above the one before it", is given at byte offset `at` exactly if row 5 is not and it is the first fault.
    pub unpack_row_7 : (at : ℕ) → (((paper_of r).number ≡ 7) × ((paper_of r).place ≡ at)) ↔ ((length book ≤ most_bytes) × IsOrderFault book at)
    unpack_row_7 = row_7 book o records paper (unpack_row_iff book (length area)) bytes

    -- Row 10, "unpacking lacks room for its whole output", is given exactly for the book of some silences with less room than four words for each.
    pub unpack_row_10 : ((paper_of r).number ≡ 10) ↔ ((ss : List Silence) × IsBook ss book × (length area < record_words * length ss))
    unpack_row_10 =
        Iff.trans (row_number_iff 0 records o paper OutputRoom (omega arith))
        (Iff.trans (unpack_10_iff book (length area)) (read_book_iff book bytes (λ (ss : List Silence). length area < record_words * length ss)))

    -- `unpack` accepts bytes exactly when they are the book of some silences and there is room for four words for each.
    pub unpack_accepted : ((paper_of r).number ≡ 0) ↔ ((ss : List Silence) × IsBook ss book × (record_words * length ss ≤ length area))
    unpack_accepted =
        Iff.trans (accepted_number_iff 0 records o paper)
        (Iff.trans (unpack_none_iff book (length area)) (read_book_iff book bytes (λ (ss : List Silence). record_words * length ss ≤ length area)))

    -- `unpack` returns n records exactly for a book of n silences with room for four words for each.
    pub unpack_records : (n : ℕ) → (r ≡ Ok n) ↔ ((ss : List Silence) × IsBook ss book × ((length ss ≡ n) × (record_words * length ss ≤ length area)))
    unfolding unpacked
    unpack_records n =
        Iff.trans (records_iff o (silences_read book) r meets.paper n)
        (Iff.trans
        (λ h. let none_is = (unpack_none_iff book (length area)).0 h.0 in (none_is.0, (h.1, none_is.1)), λ h. ((unpack_none_iff book (length area)).1 (h.0, h.1.1), h.1.0))
        (read_book_iff book bytes (λ (ss : List Silence). (length ss ≡ n) × (record_words * length ss ≤ length area))))
