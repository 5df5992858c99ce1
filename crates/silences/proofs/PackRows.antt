-- When packing gives row 8, 9, 7 or 10, and when it is accepted: row 8 exactly for a wrong number of words; else row 9 or 7 exactly for a faulty record
-- (RecordRows); else row 10 exactly for too little room. By the laws of lists of rows (RowsExactly of crates/answers).
use Prim.Native.Nat.{ℕ, ◌%◌, ◌≤◌, ◌<◌}
use mathlib.Core.Logic.Iff
use mathlib.Core.Logic.{◌⊎◌, inl, inr, ⊎_elim, ◌↔◌}
use mathlib.Core.Path.{◌≡◌, refl, sym}
use mathlib.Core.List.{List}
use Rattle.std.specs.Prelude.{None, Some}
use native.Mathlib.Omega.{arith}
use lib.ListN.{length}
use Rattle.lists.proofs.Cases.{le_or_lt}
use Rattle.lists.proofs.SizesTested.{lt_iff, eq_iff, or_iff, not_iff}
use Rattle.answers.specs.declared.refusals.Refusal.{Refusal}
use Rattle.answers.specs.declared.refusals.Refusal.TheVariants.{NotAbove, WordCount, NumberInRecord, OutputRoom}
use Rattle.answers.specs.Paper.{accepted}
use Rattle.answers.specs.Rows.{row, first_given}
use Rattle.answers.proofs.RowsExactly.{OtherNumber, IsRow, is_row, end, each, row_has, first_has, at_fault, past_fault, no_fault, at_row, past_row, no_row, no_last_row}
use Rattle.answers.proofs.AnswerByRows.{answer_gives_iff}
use Rattle.silences.specs.Silences.{Silence}
use Rattle.silences.specs.Layout.{layout}
use Rattle.silences.specs.Packing.{record_words, most_words, silences_of, is_row8, record_fault, room_row, pack_rows, pack_refusal, packed}
use Rattle.silences.specs.Faults.{HasWordCount, IsNumberFault, IsRecordFault, IsPackable}
use Rattle.silences.proofs.RecordRows.{records_have, records_none_iff, records_9_iff, records_7_iff}

-- Row 8: the words to pack "aren't a multiple of" 4, "or exceed" 4,000.
abbrev pub HasWrongCount : List ℕ → Type 0
HasWrongCount words = (length words % record_words ≡ 0 → ⊥) ⊎ (most_words < length words)

-- Row 10, for packing and unpacking: given exactly if there is less room than the output has elements.
pub is_room_row : (output : List ℕ) (room : ℕ) → IsRow (room_row output room) OutputRoom (room < length output) (length output ≤ room)
is_room_row output room = is_row (lt_iff room (length output)) (λ enough short. omega arith) (λ not. omega arith)

module _ (words : List ℕ) (room : ℕ) where
  -- Row 8 is given exactly for a wrong number of words, and not given exactly for a right one.
  pub is_row_8 : IsRow (row (is_row8 words) WordCount) WordCount (HasWrongCount words) (HasWordCount words)
  is_row_8 =
      is_row (or_iff (not_iff (eq_iff (length words % record_words) 0)) (lt_iff most_words (length words)))
      (λ right. ⊎_elim (λ no. no right.multiple) (λ many. omega (arith, right.words_le)))
      (λ not.
      let not_many : most_words < length words → ⊥ = λ many. not (inr many) in
      record {
        multiple = ⊎_elim (λ none_left. omega arith) (λ left. absurd (not (inl (λ e. omega arith)))) (le_or_lt (length words % record_words) 0);
        words_le = omega arith;
      })

  -- Row 10 is given exactly if there is less room than the book of these words has bytes.
  pub is_row_10 : IsRow (room_row (layout (silences_of words)) room) OutputRoom (room < length (layout (silences_of words))) (length (layout (silences_of words)) ≤ room)
  is_row_10 = is_room_row (layout (silences_of words)) room

  -- What holds of rows 8, 9, 7 and 10 holds of the first row that is given: packing gives no other.
  pub pack_has : (P : Refusal → Type 0) → P WordCount → ((j : ℕ) → P (NumberInRecord j)) → ((j : ℕ) → P (NotAbove j)) → P OutputRoom
      → (q : Refusal) → pack_refusal words room ≡ Some q → P q
  unfolding pack_rows
  pack_has P eight nine seven ten = first_has (row_has is_row_8 eight (each (records_have words P nine seven) (row_has is_row_10 ten end)))

  -- Row 8 is the first row given exactly when the words "aren't a multiple of" 4, "or exceed" 4,000.
  pub pack_8_iff : (pack_refusal words room ≡ Some WordCount) ↔ HasWrongCount words
  unfolding pack_rows
  pack_8_iff = (at_row is_row_8 (each (records_have words (OtherNumber WordCount) (λ j e. omega arith) (λ j e. omega arith)) (row_has is_row_10 (λ e. omega arith) end))).exactly

  -- Row 9 is given at record number j exactly when row 8 is not given, all records before j are fine, and a number of record j is too large.
  pub pack_9_iff : (j : ℕ) → (pack_refusal words room ≡ Some (NumberInRecord j)) ↔ (HasWordCount words × IsNumberFault words j)
  unfolding pack_rows
  pack_9_iff j = (past_row is_row_8 (λ e. omega arith) (at_fault (records_9_iff words j) (row_has is_row_10 (λ e. omega arith) end))).exactly

  -- Row 7 is given at record number j exactly when row 8 is not given, all records before j are fine, and row 7's fault is at record j (`IsRecordFault`).
  pub pack_7_iff : (j : ℕ) → (pack_refusal words room ≡ Some (NotAbove j)) ↔ (HasWordCount words × IsRecordFault words j)
  unfolding pack_rows
  pack_7_iff j = (past_row is_row_8 (λ e. omega arith) (at_fault (records_7_iff words j) (row_has is_row_10 (λ e. omega arith) end))).exactly

  -- If row 8 is not given and the first faulty record has refusal q, then q is given.
  pub pack_fault : HasWordCount words → (q : Refusal) → record_fault words ≡ Some q → pack_refusal words room ≡ Some q
  unfolding pack_rows first_given
  pack_fault right q e = rw (is_row_8.no.1 right, e)

  -- Row 8 is not given and no record is faulty exactly when the words can be packed. P is carried along on both sides.
  pub packable_iff : {P : Type 0} → (HasWordCount words × ((record_fault words ≡ None) × P)) ↔ (IsPackable words × P)
  packable_iff = (
    λ h. let fine = (records_none_iff words).0 h.1.0 in (record { word_count = h.0; all_fit = fine.0; ascending = fine.1 }, h.1.1),
    λ h. (h.0.word_count, ((records_none_iff words).1 (h.0.all_fit, h.0.ascending), h.1)),
  )

  -- Row 10 is given exactly when the words can be packed and there is less room than their book has bytes.
  pub pack_10_iff : (pack_refusal words room ≡ Some OutputRoom) ↔ (IsPackable words × (room < length (layout (silences_of words))))
  unfolding pack_rows
  pack_10_iff =
      Iff.trans (past_row is_row_8 (λ e. omega arith) (past_fault Iff.rfl not_records (at_row is_row_10 end))).exactly packable_iff
    where
      not_records : record_fault words ≡ Some OutputRoom → ⊥
      not_records e = records_have words (OtherNumber OutputRoom) (λ j e. omega arith) (λ j e. omega arith) OutputRoom e refl

  -- No row is given exactly when the words can be packed and there is room for their book.
  pub pack_none_iff : (pack_refusal words room ≡ None) ↔ (IsPackable words × (length (layout (silences_of words)) ≤ room))
  unfolding pack_rows
  pack_none_iff = Iff.trans (no_row is_row_8 (no_fault Iff.rfl (no_last_row is_row_10))).exactly packable_iff

  -- Packing is accepted with `ss` exactly when the words can be packed, `ss` are their silences, and there is room for the layout of `ss`.
  pub packed_accepted_iff : (ss : List Silence)
      → (packed words room ≡ accepted ss) ↔ (IsPackable words × (ss ≡ silences_of words) × (length (layout ss) ≤ room))
  unfolding packed
  packed_accepted_iff ss =
      Iff.trans (answer_gives_iff (silences_of words) ss (pack_refusal words room)) (
        λ h. let p = pack_none_iff.0 h.0 in (p.0, sym h.1, rw (sym h.1) p.1),
        λ h. (pack_none_iff.1 (h.0, rw (sym h.1) h.2), sym h.1),
      )
