-- When reading a book gives row 5, 6 or 7, and at which byte offset: row 5 exactly for a book longer than 15,000 bytes, else row 6 or 7 exactly at the first
-- faulty field; no other row. Reading stops at that field (`ReadsAs`), and everything before it is fine. The laws are about `book_refusal`, the first row
-- that is given, because a report uses it too; `book_refused_iff` carries them over to `read_book`.
use Prim.Native.Nat.{ℕ, ◌+◌, ◌≤◌, ◌<◌}
use mathlib.Core.Logic.Iff
use mathlib.Core.Logic.{◌↔◌}
use mathlib.Core.Path.{◌≡◌, refl, sym, ap, subst, ◌∙◌}
use mathlib.Core.List.{List}
use Rattle.std.specs.Prelude.{Option, None, Some}
use native.Mathlib.Omega.{arith}
use lib.ListN.{length}
use Rattle.lists.specs.Bounds.{IsBytes}
use Rattle.lists.proofs.SizesTested.{lt_iff}
use Rattle.answers.specs.declared.refusals.Refusal.{Refusal}
use Rattle.answers.specs.declared.refusals.Refusal.TheVariants.{BookLength, Field, NotAbove}
use Rattle.answers.specs.Paper.{Answer, accepted, refused}
use Rattle.answers.specs.Rows.{row, answer_by}
use Rattle.answers.proofs.FirstRow.{none_some}
use Rattle.answers.proofs.RowsExactly.{OtherNumber, IsRow, is_row, end, each, row_has, first_has, at_fault, at_row, past_row}
use Rattle.answers.proofs.AnswerByRows.{answer_refused_iff, answer_gives_iff}
use Rattle.fields.specs.Tagged.{head_length}
use Rattle.silences.specs.Silences.{Silence}
use Rattle.silences.specs.Layout.{most_bytes}
use Rattle.silences.specs.Reading.{address_at, silence_at, whole, field_at, read_from, fault_in, silences_in, field_fault, silences_read, is_row5, book_rows, book_refusal, read_book}
use Rattle.silences.specs.Faults.{IsNotAbove, IsFieldFault, IsOrderFault}
use Rattle.silences.proofs.FieldTest.{field_whole_is, field_whole_iff, field_faulty_iff}
use Rattle.silences.proofs.AscendingAfter.{not_above_iff}
use Rattle.silences.proofs.FieldsRead.{ReadsAs, stopped_faulty, stopped_order, reads_as, reads_as_is}
use Rattle.silences.proofs.LayoutRead.{read_fine, fine_read}

module _ (book : List ℕ) where
  -- Reading refuses a book with q exactly when q is the refusal of the first row that is given.
  pub book_refused_iff : (q : Refusal) → (read_book book ≡ refused q) ↔ (book_refusal book ≡ Some q)
  unfolding read_book
  book_refused_iff q = answer_refused_iff (silences_in (read_from book None 0)) (book_refusal book) q

  -- the refusal of the first faulty field is q exactly when the walk from the first byte stops with q
  fault_iff : (q : Refusal) → (field_fault book ≡ Some q) ↔ ReadsAs book None 0 (refused q)
  fault_iff q = (λ e. reads_as book None 0 (refused q) (back (read_from book None 0) e), λ w. ap fault_in (reads_as_is book w))
    where
      back : (a : Answer (List Silence)) → fault_in a ≡ Some q → a ≡ refused q
      back (accepted ss) e = absurd (none_some e)
      back (refused r) e = cc

  -- What reading gives is determined by the first row that is given and the silences read.
  pub book_answer_is : read_book book ≡ answer_by (book_refusal book) (silences_read book)
  unfolding read_book
  book_answer_is = go (book_refusal book) (silences_in (read_from book None 0))
    where
      go : (o : Option Refusal) (read : List Silence) → answer_by o read ≡ answer_by o (silences_in (answer_by o read))
      go None read = refl
      go (Some q) read = refl

  -- Reading accepts a book with the silences `ss` exactly when no row is given and the silences read are `ss`.
  pub book_accepted_iff : (ss : List Silence) → (read_book book ≡ accepted ss) ↔ ((book_refusal book ≡ None) × (silences_read book ≡ ss))
  book_accepted_iff ss = Iff.trans (λ e. sym book_answer_is ∙ e, λ e. book_answer_is ∙ e) (answer_gives_iff (silences_read book) ss (book_refusal book))

  -- Row 5 is given exactly if the book is longer than 15,000 bytes, and not given exactly if it is not.
  pub is_row_5 : IsRow (row (is_row5 book) BookLength) BookLength (most_bytes < length book) (length book ≤ most_bytes)
  is_row_5 = is_row (lt_iff most_bytes (length book)) (λ short long. omega arith) (λ not. omega arith)

  -- What holds of rows 6 and 7 holds of the refusal of the first faulty field: it has no other row.
  pub fault_has : (P : Refusal → Type 0) → ((at : ℕ) → P (Field at)) → ((at : ℕ) → P (NotAbove at)) → (q : Refusal) → field_fault book ≡ Some q → P q
  fault_has P six seven q e = go q ((fault_iff q).0 e)
    where
      go : (q : Refusal) → ReadsAs book None 0 (refused q) → P q
      go _ (stopped_faulty {stop = stop} f h n) = six stop
      go _ (stopped_order {stop = stop} f n o) = seven stop

  -- Row 5 is the first row that is given exactly for a book longer than 15,000 bytes.
  pub refusal_5_iff : (book_refusal book ≡ Some BookLength) ↔ (most_bytes < length book)
  unfolding book_rows
  refusal_5_iff = (at_row is_row_5 (each (fault_has (OtherNumber BookLength) (λ at e. omega arith) (λ at e. omega arith)) end)).exactly

  -- What holds of rows 5, 6 and 7 holds of the first row that is given: reading gives no other.
  pub refusal_has : (P : Refusal → Type 0) → P BookLength → ((at : ℕ) → P (Field at)) → ((at : ℕ) → P (NotAbove at)) → (q : Refusal) → book_refusal book ≡ Some q → P q
  unfolding book_rows
  refusal_has P five six seven = first_has (row_has is_row_5 five (each (fault_has P six seven) end))

-- a whole field's address is the one behind its head, whatever its kind
address_is : (book : List ℕ) (at : ℕ) (s : Silence) (next : ℕ) → field_at book at ≡ whole s next → s.address ≡ address_at book (at + head_length)
unfolding silence_at
address_is book at s next e = ap (λ (t : Silence). t.address) (field_whole_is book at s next e).silence_is

module _ (book : List ℕ) (bytes : IsBytes book) (at : ℕ) where
  -- The first faulty field is refused by row 6 at `at` exactly when everything before `at` is fine, the book goes on, and no field stands there.
  pub fault_6_iff : (field_fault book ≡ Some (Field at)) ↔ IsFieldFault book at
  fault_6_iff =
      Iff.trans (fault_iff book (Field at))
      (stands at, λ f. stopped_faulty (fine_read book f.fine at f.fine_before) f.more ((field_faulty_iff book at).1 f.no_field))
    where
      stands : (i : ℕ) → ReadsAs book None 0 (refused (Field i)) → IsFieldFault book i
      stands i (stopped_faulty {ss = ss} f h n) = record { fine = ss; fine_before = read_fine book bytes f; more = h; no_field = (field_faulty_iff book i).0 n }

  -- The first faulty field is refused by row 7 at `at` exactly when everything before `at` is fine and the record there isn't above the one before it.
  pub fault_7_iff : (field_fault book ≡ Some (NotAbove at)) ↔ IsOrderFault book at
  fault_7_iff =
      Iff.trans (fault_iff book (NotAbove at)) (
        stands at,
        λ f. let here = (field_whole_iff book at).1 f.field in
            stopped_order (fine_read book f.fine at f.fine_before) here.2
            ((not_above_iff f.fine here.0.address).1 (subst (IsNotAbove f.fine) (sym (address_is book at here.0 here.1 here.2)) f.not_above)),
      )
    where
      stands : (i : ℕ) → ReadsAs book None 0 (refused (NotAbove i)) → IsOrderFault book i
      stands i (stopped_order {ss = ss} {s = s} {next = next} f n o) =
          record {
            fine = ss;
            fine_before = read_fine book bytes f;
            field = (field_whole_iff book i).0 (s, next, n);
            not_above = subst (IsNotAbove ss) (address_is book i s next n) ((not_above_iff ss s.address).0 o);
          }

  -- Row 6 is given at byte offset `at` exactly when row 5 is not given and row 6's fault is at `at`, with everything before it fine.
  pub refusal_6_iff : (book_refusal book ≡ Some (Field at)) ↔ ((length book ≤ most_bytes) × IsFieldFault book at)
  unfolding book_rows
  refusal_6_iff = (past_row (is_row_5 book) (λ e. omega arith) (at_fault fault_6_iff end)).exactly

  -- Row 7 is given at byte offset `at` exactly when row 5 is not given and row 7's fault is at `at`, with everything before it fine.
  pub refusal_7_iff : (book_refusal book ≡ Some (NotAbove at)) ↔ ((length book ≤ most_bytes) × IsOrderFault book at)
  unfolding book_rows
  refusal_7_iff = (past_row (is_row_5 book) (λ e. omega arith) (at_fault fault_7_iff end)).exactly
