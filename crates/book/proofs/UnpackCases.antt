-- The three cases of `unpack`, as its code tests them: reading refuses, there is no room for the words, or all words are written. In each the contract is met.
-- A refusal leaves the area as it was.
use Prim.Native.Nat.{ℕ, ◌*◌, ◌≤◌, ◌<◌}
use mathlib.Core.Path.{◌≡◌, sym, ap, ◌∙◌}
use mathlib.Core.List.{List}
use Rattle.std.specs.Prelude.{None, Some}
use native.Mathlib.Omega.{arith}
use lib.ListN.{length}
use Rattle.answers.specs.declared.refusals.Refusal.{Refusal}
use Rattle.answers.specs.declared.refusals.Refusal.TheVariants.{OutputRoom}
use Rattle.answers.specs.Refusals.{number_of}
use Rattle.answers.specs.Paper.{Answer, accepted, refused}
use Rattle.answers.proofs.AnswerByRows.{answer_refused_iff}
use Rattle.silences.specs.Silences.{Silence}
use Rattle.silences.specs.Reading.{silences_read, book_refusal, read_book}
use Rattle.silences.specs.Packing.{words_of_silences, record_words, area_at_exit, unpack_refusal, unpacked}
use Rattle.silences.proofs.WordsOfSilences.{words_length}
use Rattle.silences.proofs.BookRows.{book_refused_iff, book_accepted_iff, refusal_has}
use Rattle.silences.proofs.UnpackRows.{unpack_row_iff, unpack_10_iff, unpacked_accepted_iff}
use Rattle.std.specs.Prelude.{Ok, Err}
use Rattle.book.specs.Calls.{paper_of, record_count, records_paper, IsUnpacked}
use Rattle.book.proofs.AcceptedBook.{HasRecords, has_records, has_refusal}

module _ (book area : List ℕ) where
  -- if q is the first row that is given, refusing with q and writing nothing meets the contract
  is_refused : {q : Refusal} → unpack_refusal book (length area) ≡ Some q → IsUnpacked book area (Err q) area
  unfolding unpacked
  is_refused {q} e =
      let is : unpacked book (length area) ≡ refused q = (answer_refused_iff (silences_read book) (unpack_refusal book (length area)) q).1 e in
      record { paper = sym (ap records_paper is); written = sym (ap (λ (a : Answer (List Silence)). area_at_exit words_of_silences a area) is) }

  -- If reading refuses with q, refusing with q and writing nothing meets the contract.
  pub unpack_refused : (q : Refusal) → record_count (read_book book) ≡ refused q → IsUnpacked book area (Err q) area
  unpack_refused q e =
      let given : book_refusal book ≡ Some q = (book_refused_iff book q).0 (has_refusal (read_book book) q e) in
      is_refused ((unpack_row_iff book (length area) q
      (refusal_has book (λ (r : Refusal). number_of OutputRoom ≡ number_of r → ⊥) (λ h. omega arith) (λ at h. omega arith) (λ at h. omega arith) q given)).1 given)

  module _ (records : ℕ) (read : record_count (read_book book) ≡ accepted records) where
    -- the silences of these records
    has : HasRecords (read_book book) records
    has = has_records (read_book book) records read

    -- If there is less room than four words for each record, refusing with 10 and writing nothing meets the contract.
    pub unpack_no_room : length area < record_words * records → IsUnpacked book area (Err OutputRoom) area
    unpack_no_room short =
        let given = (book_accepted_iff book has.silences).0 has.is in
        is_refused ((unpack_10_iff book (length area)).1 (given.0, omega (arith, ap length given.1, has.records_is)))

    -- If there is room, it is room for the words of the book's silences, and the book is accepted.
    pub unpack_room : record_words * records ≤ length area → (book_refusal book ≡ None) × (record_words * length (silences_read book) ≤ length area)
    unpack_room enough =
        let given = (book_accepted_iff book has.silences).0 has.is in
        (given.0, omega (arith, ap length given.1, has.records_is))

    -- If there is room and all words are written, returning the number of records meets the contract.
    pub unpack_written : {out : List ℕ} → record_words * records ≤ length area → out ≡ area_at_exit words_of_silences (read_book book) area
        → IsUnpacked book area (Ok records) out
    unpack_written enough put =
        let is : unpacked book (length area) ≡ accepted has.silences =
        (unpacked_accepted_iff book (length area) has.silences).1 (has.is, omega (arith, words_length has.silences, has.records_is)) in
        record {
          paper = ap (λ (n : ℕ). paper_of (Ok n)) has.records_is ∙ sym (ap records_paper is);
          written = put ∙ ap (λ (a : Answer (List Silence)). area_at_exit words_of_silences a area) (has.is ∙ sym is);
        }
