-- When unpacking gives row 5, 6, 7 or 10, and when it is accepted: its rows are those of reading (BookRows), and row 10 after them. By the laws of a list of
-- rows in two parts (RowsExactly of crates/answers).
use Prim.Native.Nat.{ℕ, ◌*◌, ◌≤◌, ◌<◌}
use mathlib.Core.Logic.Iff
use mathlib.Core.Logic.{◌⊎◌, inl, inr, ⊎_elim, ◌↔◌}
use mathlib.Core.Path.{◌≡◌, refl, sym, ap, subst, ◌∙◌}
use mathlib.Core.List.{List, [], ◌∷◌}
use Rattle.std.specs.Prelude.{Option, None, Some}
use native.Mathlib.Omega.{arith}
use lib.ListN.{length}
use Rattle.answers.specs.declared.refusals.Refusal.{Refusal}
use Rattle.answers.specs.declared.refusals.Refusal.TheVariants.{BookLength, Field, NotAbove, OutputRoom}
use Rattle.answers.specs.Refusals.{number_of}
use Rattle.answers.specs.Paper.{accepted}
use Rattle.answers.proofs.FirstRow.{first_append_none, first_append_some}
use Rattle.answers.proofs.RowsExactly.{OtherNumber, IsRow, end, row_has, first_has, at_row, no_last_row, early_iff, late_iff, none_append_iff}
use Rattle.answers.proofs.AnswerByRows.{answer_gives_iff}
use Rattle.silences.specs.Silences.{Silence}
use Rattle.silences.specs.Reading.{silences_read, book_rows, book_refusal, read_book}
use Rattle.silences.specs.Packing.{words_of_silences, record_words, room_row, unpack_rows, unpack_refusal, unpacked}
use Rattle.silences.proofs.WordsOfSilences.{words_length}
use Rattle.silences.proofs.BookRows.{book_accepted_iff, refusal_has}
use Rattle.silences.proofs.PackRows.{is_room_row}

module _ (book : List ℕ) (room : ℕ) where
  -- the words of its silences
  abbrev words : List ℕ
  words = words_of_silences (silences_read book)

  -- Row 10 is given exactly if there is less room than four words for each silence read.
  pub is_row_10 : IsRow (room_row words room) OutputRoom (room < record_words * length (silences_read book)) (record_words * length (silences_read book) ≤ room)
  is_row_10 = rw (sym (words_length (silences_read book))) (is_room_row words room)

  -- The first row that is given is a row of the book, or row 10.
  pub unpack_either : (q : Refusal) → unpack_refusal book room ≡ Some q → (book_refusal book ≡ Some q) ⊎ (q ≡ OutputRoom)
  unfolding unpack_rows
  unpack_either q e = go (book_refusal book) refl
    where
      go : (o : Option Refusal) → book_refusal book ≡ o → (book_refusal book ≡ Some q) ⊎ (q ≡ OutputRoom)
      go None h = inr (first_has {P = λ (r : Refusal). r ≡ OutputRoom} (row_has is_row_10 refl end) q (sym (first_append_none (book_rows book) (room_row words room ∷ []) h) ∙ e))
      go (Some r) h = inl (h ∙ sym (first_append_some (book_rows book) (room_row words room ∷ []) h) ∙ e)

  -- What holds of rows 5, 6, 7 and 10 holds of the first row that is given: unpacking gives no other.
  pub unpack_has : (P : Refusal → Type 0) → P BookLength → ((at : ℕ) → P (Field at)) → ((at : ℕ) → P (NotAbove at)) → P OutputRoom
      → (q : Refusal) → unpack_refusal book room ≡ Some q → P q
  unpack_has P five six seven ten q e = ⊎_elim (refusal_has book P five six seven q) (λ is. subst P (sym is) ten) (unpack_either q e)

  -- A refusal whose number is not 10 is given in unpacking exactly when it is given in reading.
  pub unpack_row_iff : (q : Refusal) → (number_of OutputRoom ≡ number_of q → ⊥) → (unpack_refusal book room ≡ Some q) ↔ (book_refusal book ≡ Some q)
  unfolding unpack_rows
  unpack_row_iff q other = early_iff (book_rows book) (room_row words room ∷ []) q (λ e. first_has {P = OtherNumber q} (row_has is_row_10 other end) q e refl)

  -- Row 10 is the first row given exactly when none of the book's rows is given and there is less room than four words for each silence read.
  pub unpack_10_iff : (unpack_refusal book room ≡ Some OutputRoom) ↔ ((book_refusal book ≡ None) × (room < record_words * length (silences_read book)))
  unfolding unpack_rows
  unpack_10_iff =
      Iff.trans (late_iff (book_rows book) (room_row words room ∷ []) OutputRoom not_book) (Iff.and Iff.rfl (at_row is_row_10 end).exactly)
    where
      not_book : book_refusal book ≡ Some OutputRoom → ⊥
      not_book e = refusal_has book (OtherNumber OutputRoom) (λ h. omega arith) (λ at h. omega arith) (λ at h. omega arith) OutputRoom e refl

  -- No row is given exactly when none of the book's rows is given and there is room for four words for each silence read.
  pub unpack_none_iff : (unpack_refusal book room ≡ None) ↔ ((book_refusal book ≡ None) × (record_words * length (silences_read book) ≤ room))
  unfolding unpack_rows
  unpack_none_iff = Iff.trans (none_append_iff (book_rows book) (room_row words room ∷ [])) (Iff.and Iff.rfl (no_last_row is_row_10).exactly)

  -- Unpacking is accepted with `ss` exactly when reading is accepted with `ss` and there is room for the words of `ss`.
  pub unpacked_accepted_iff : (ss : List Silence)
      → (unpacked book room ≡ accepted ss) ↔ ((read_book book ≡ accepted ss) × (length (words_of_silences ss) ≤ room))
  unfolding unpacked
  unpacked_accepted_iff ss =
      Iff.trans (answer_gives_iff (silences_read book) ss (unpack_refusal book room)) (
        λ h. let n = unpack_none_iff.0 h.0 in ((book_accepted_iff book ss).1 (n.0, h.1), omega (arith, words_length ss, ap length h.1, n.1)),
        λ h. let a = (book_accepted_iff book ss).0 h.0 in (unpack_none_iff.1 (a.0, omega (arith, words_length ss, ap length a.1, h.1)), a.1),
      )
