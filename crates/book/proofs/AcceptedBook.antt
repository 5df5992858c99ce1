-- What the answer of `read` says about a book. If it is a number of records, the book is accepted with as many silences. There are no more of them than bytes,
-- so at most 15,000, and four times their number does not overflow.
use Prim.Native.Nat.{ℕ, ◌≤◌}
use mathlib.Core.Path.{◌≡◌, refl, sym}
use mathlib.Core.List.{List}
use native.Mathlib.Omega.{arith}
use lib.ListN.{length}
use Rattle.std.specs.Prelude.{Result}
use Rattle.answers.specs.declared.refusals.Refusal.{Refusal}
use Rattle.answers.specs.Paper.{Answer, accepted, refused}
use Rattle.answers.proofs.OneAnswer.{answer_unique}
use Rattle.silences.specs.Silences.{Silence}
use Rattle.silences.specs.Layout.{most_bytes}
use Rattle.silences.specs.Reading.{read_book}
use Rattle.book.specs.Calls.{answer_of, record_count, IsRead}
use Rattle.answers.proofs.AnswerCases.{accepted_not_refused}
use Rattle.silences.proofs.FieldsRead.{read_length_le}
use Rattle.silences.proofs.AcceptedIsBook.{IsReadWhole, accepted_whole_iff}

-- What `read` returns is the number of silences that reading gives, or its refusal: the paper determines it.
pub read_answer_is : (book : List ℕ) (r : Result ℕ Refusal) → IsRead book r → record_count (read_book book) ≡ answer_of r
read_answer_is book r h = sym (answer_unique 0 (answer_of r) (record_count (read_book book)) h.paper)

-- The answer `a` is accepted with some silences, and `records` is their number.
pub record HasRecords (a : Answer (List Silence)) (records : ℕ) : Type 0 where
  pub silences : List Silence
  pub is : a ≡ accepted silences
  pub records_is : records ≡ length silences

-- If the record count of `a` is accepted, so is `a`, with as many silences.
pub has_records : (a : Answer (List Silence)) (records : ℕ) → record_count a ≡ accepted records → HasRecords a records
has_records (accepted ss) records e = record { silences = ss; is = refl; records_is = cc }
has_records (refused r) records e = absurd (accepted_not_refused e refl)

-- If the record count of `a` is a refusal, `a` is the same refusal.
pub has_refusal : (a : Answer (List Silence)) (r : Refusal) → record_count a ≡ refused r → a ≡ refused r
has_refusal (accepted ss) r e = absurd (accepted_not_refused refl e)
has_refusal (refused q) r e = cc

module _ (book : List ℕ) where
  -- An accepted book has at most 15,000 records: a weak bound, for a list of any numbers, and enough against overflow. (Of bytes it has at most 1,153:
  -- `records_le` of AcceptedIsBook in crates/silences.)
  pub records_le : (records : ℕ) → record_count (read_book book) ≡ accepted records → records ≤ most_bytes
  records_le records e =
      let has : HasRecords (read_book book) records = has_records (read_book book) records e in
      let w : IsReadWhole has.silences book = (accepted_whole_iff book has.silences).0 has.is in
      omega (arith, has.records_is, w.book_le, read_length_le w.fields (omega arith))
