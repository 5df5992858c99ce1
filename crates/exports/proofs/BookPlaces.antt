-- The places of the calls on a book fit 32 bits. A byte offset is at most the book's length, which is at most 15,000 where an offset is given. A record number
-- is at most the number of records, which is at most 1,000.
use Prim.Native.Nat.{ℕ, ◌≤◌, ◌<◌}
use mathlib.Core.Logic.{⊎_elim}
use mathlib.Core.Path.{◌≡◌, refl, sym, ap}
use mathlib.Core.List.{List, ◌∷◌}
use Rattle.std.specs.Prelude.{Option, None, Some}
use native.Mathlib.Omega.{arith}
use lib.ListN.{length, length-append}
use Rattle.lists.proofs.Cases.{le_or_lt}
use Rattle.answers.specs.declared.refusals.Refusal.{Refusal}
use Rattle.answers.specs.Refusals.{place_of}
use Rattle.answers.specs.Paper.{Answer}
use Rattle.answers.specs.Rows.{answer_by}
use Rattle.silences.specs.Silences.{Silence}
use Rattle.silences.specs.Layout.{most_silences, most_bytes}
use Rattle.silences.specs.Reading.{silences_read, read_book}
use Rattle.silences.specs.Packing.{silences_of, pack_refusal, packed, unpack_refusal, unpacked}
use Rattle.silences.specs.Faults.{HasWordCount, IsRecord}
use Rattle.book.specs.Calls.{records_paper}
use Rattle.silences.proofs.ReadFrom.{read_book_long, read_book_fields}
use Rattle.silences.proofs.FieldTest.{field_ends}
use Rattle.silences.proofs.FieldsRead.{ReadsAs, read_all, stopped_faulty, stopped_order, reads_as}
use Rattle.silences.proofs.WordsOfSilences.{silences_length}
use Rattle.silences.proofs.BookRows.{book_refused_iff}
use Rattle.silences.proofs.UnpackRows.{unpack_either}
use Rattle.silences.proofs.PackRows.{pack_has, pack_9_iff, pack_7_iff}

module _ (book : List ℕ) where
  -- the place where reading stops is at most the book's length
  reads_place : {a : Answer (List Silence)} → ReadsAs book None 0 a → (records_paper a).place ≤ length book
  reads_place (read_all f h) = omega arith
  reads_place (stopped_faulty f h n) = omega (arith, h)
  reads_place (stopped_order {stop = stop} {s = s} {next = next} f n o) = omega (arith, field_ends book stop s next n)

  -- A place of reading is at most 15,000.
  pub read_place_le : (records_paper (read_book book)).place ≤ most_bytes
  read_place_le =
      ⊎_elim
      (λ (h : length book ≤ most_bytes). omega (arith, reads_place (reads_as book None 0 (read_book book) (sym (read_book_fields book h)))))
      (λ (h : most_bytes < length book). rw (read_book_long book h) (omega arith))
      (le_or_lt (length book) most_bytes)

-- a place is at most `most` if that of each refusal given is
place_le : (most : ℕ) (o : Option Refusal) (ss : List Silence) → ((q : Refusal) → o ≡ Some q → place_of q ≤ most) → (records_paper (answer_by o ss)).place ≤ most
place_le most None ss each = omega arith
place_le most (Some q) ss each = each q refl

-- A place of unpacking is at most 15,000.
pub unpacked_place_le : (book : List ℕ) (room : ℕ) → (records_paper (unpacked book room)).place ≤ most_bytes
unfolding unpacked
unpacked_place_le book room =
    place_le most_bytes (unpack_refusal book room) (silences_read book) (λ q e.
    ⊎_elim
    (λ of_book. rw ((book_refused_iff book q).1 of_book) at (read_place_le book))
    (λ is_room. rw is_room (omega arith))
    (unpack_either book room q e))

-- A place of packing is at most 1,000.
pub packed_place_le : (words : List ℕ) (room : ℕ) → (records_paper (packed words room)).place ≤ most_silences
unfolding packed
packed_place_le words room =
    place_le most_silences (pack_refusal words room) (silences_of words) (λ q e.
    pack_has words room (λ (r : Refusal). pack_refusal words room ≡ Some r → place_of r ≤ most_silences) (λ e. omega arith)
    (λ j e. let f = (pack_9_iff words room j).0 e in number_le f.0 f.1.is_record)
    (λ j e. let f = (pack_7_iff words room j).0 e in number_le f.0 f.1.is_record) (λ e. omega arith) q e e)
  where
    number_le : {j : ℕ} {fine : List Silence} {s : Silence} → HasWordCount words → IsRecord words j fine s → j ≤ most_silences
    number_le {fine = fine} {s = s} right r =
        omega (arith, r.number_is, ap length r.records_are, length-append fine (s ∷ r.later), silences_length words right.multiple, right.words_le)
