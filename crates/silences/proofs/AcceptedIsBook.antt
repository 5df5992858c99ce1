-- A book is accepted exactly when it lays down a strictly ascending list of silences in range and has at most 15,000 bytes (`accepted_iff`). An accepted book
-- was read to its end (`ReadsAs`), so all of it lays down what was read. Conversely what lays down such silences is read to its end.
use Prim.Native.Nat.{ℕ, ◌≤◌}
use mathlib.Core.Logic.Iff
use mathlib.Core.Logic.{⊎_elim, ◌↔◌}
use mathlib.Core.Path.{◌≡◌, refl, sym, subst, ◌∙◌}
use mathlib.Core.List.{List}
use Rattle.std.specs.Prelude.{None}
use native.Mathlib.Omega.{arith}
use lib.ListN.{length, take}
use lib.Seq.{take_all}
use Rattle.lists.proofs.Cases.{le_or_lt}
use Rattle.answers.specs.Paper.{accepted}
use Rattle.silences.specs.Silences.{Silence}
use Rattle.silences.specs.Layout.{most_bytes, most_records}
use Rattle.silences.specs.Reading.{silences_read, book_refusal, read_book}
use Rattle.lists.specs.Bounds.{IsBytes}
use Rattle.silences.specs.Books.{LaidDown, AnyTag, IsBook}
use Rattle.silences.specs.Faults.{IsFineBefore}
use Rattle.answers.proofs.AnswerCases.{accepted_not_refused, accepted_unique}
use Rattle.silences.proofs.ReadFrom.{read_book_long, read_book_fields}
use Rattle.silences.proofs.FieldsRead.{FieldsRead, ReadsAs, read_all, reads_as, reads_as_is}
use Rattle.silences.proofs.BookRows.{book_accepted_iff}
use Rattle.silences.proofs.LayoutRead.{laid_length_le, read_fine, fine_read}

-- The book has at most 15,000 bytes, and reading its fields to its end gives the silences `ss`.
pub record IsReadWhole (ss : List Silence) (book : List ℕ) : Type 0 where
  pub book_le : length book ≤ most_bytes
  pub stop : ℕ
  pub fields : FieldsRead book None 0 ss stop
  pub stop_ge : length book ≤ stop

-- a walk that accepts has read the fields to the end
whole_of_walk : (book : List ℕ) (ss : List Silence) → length book ≤ most_bytes → ReadsAs book None 0 (accepted ss) → IsReadWhole ss book
whole_of_walk book ss h (read_all {stop = stop} f l) = record { book_le = h; stop = stop; fields = f; stop_ge = l }

-- A book is accepted with `ss` exactly when it has at most 15,000 bytes and reading its fields to its end gives `ss`.
pub accepted_whole_iff : (book : List ℕ) (ss : List Silence) → (read_book book ≡ accepted ss) ↔ IsReadWhole ss book
accepted_whole_iff book ss = (
  λ e. ⊎_elim
      (λ short. whole_of_walk book ss short (reads_as book None 0 (accepted ss) (sym (read_book_fields book short) ∙ e)))
      (λ long. absurd (accepted_not_refused e (read_book_long book long)))
      (le_or_lt (length book) most_bytes),
  λ w. read_book_fields book w.book_le ∙ reads_as_is book (read_all w.fields w.stop_ge),
)

-- what was read to the end is a book of its silences
whole_book : (book : List ℕ) (ss : List Silence) → IsBytes book → IsReadWhole ss book → IsBook ss book
whole_book book ss bytes w =
    let fine : IsFineBefore book w.stop ss = read_fine book bytes w.fields in
    record {
      laid_down = subst (LaidDown AnyTag ss) (take_all w.stop book w.stop_ge) fine.laid_down;
      in_range = fine.in_range;
      ascending = fine.ascending;
      length_le = w.book_le;
    }

-- A book of the silences `ss` is accepted, and reading it gives `ss`.
pub book_accepted : (book : List ℕ) (ss : List Silence) → IsBook ss book → read_book book ≡ accepted ss
book_accepted book ss b =
    let laid : LaidDown AnyTag ss (take (length book) book) = subst (LaidDown AnyTag ss) (sym (take_all (length book) book (omega arith))) b.laid_down in
    let fine : IsFineBefore book (length book) ss = record { at_le = omega arith; laid_down = laid; in_range = b.in_range; ascending = b.ascending } in
    (accepted_whole_iff book ss).1
    (record {
      book_le = b.length_le;
      stop = length book;
      fields = fine_read book ss (length book) fine;
      stop_ge = omega arith;
    })

-- Bytes are accepted as a book and give the silences `ss` exactly when they are a book of `ss`: they lay them down in at most 15,000 bytes, and `ss` ascend
-- strictly and are in range.
pub accepted_iff : (book : List ℕ) (ss : List Silence) → IsBytes book → (read_book book ≡ accepted ss) ↔ IsBook ss book
accepted_iff book ss bytes = (λ e. whole_book book ss bytes ((accepted_whole_iff book ss).0 e), book_accepted book ss)

-- A book has at most 1,153 records.
pub records_le : (ss : List Silence) (book : List ℕ) → IsBook ss book → length ss ≤ most_records
records_le ss book b = omega (arith, laid_length_le b.laid_down, b.length_le)

-- A book has one list of silences.
pub book_silences_unique : (ss ts : List Silence) (book : List ℕ) → IsBook ss book → IsBook ts book → ss ≡ ts
book_silences_unique ss ts book b c = accepted_unique (book_accepted book ss b) (book_accepted book ts c)

module _ (book : List ℕ) (bytes : IsBytes book) where
  -- none of a book's rows is given, and these silences are read, exactly when it is a book of them
  silences_read_iff : (ss : List Silence) → ((book_refusal book ≡ None) × (silences_read book ≡ ss)) ↔ IsBook ss book
  silences_read_iff ss = Iff.trans (Iff.symm (book_accepted_iff book ss)) (accepted_iff book ss bytes)

  -- None of the book's rows is given and the silences read satisfy P, exactly when it is a book of some silences that satisfy P.
  pub read_book_iff : (P : List Silence → Type 0) → ((book_refusal book ≡ None) × P (silences_read book)) ↔ ((ss : List Silence) × IsBook ss book × P ss)
  read_book_iff P = (
    λ h. (silences_read book, (silences_read_iff (silences_read book)).0 (h.0, refl), h.1),
    λ h. let read = (silences_read_iff h.0).1 h.1 in (read.0, subst P (sym read.1) h.2),
  )

  -- None of the book's rows is given exactly when it is a book of some silences.
  pub no_refusal_iff : (book_refusal book ≡ None) ↔ ((ss : List Silence) × IsBook ss book)
  no_refusal_iff = (λ e. (silences_read book, (silences_read_iff (silences_read book)).0 (e, refl)), λ h. ((silences_read_iff h.0).1 h.1).0)
