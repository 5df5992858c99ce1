-- The rows of `pack`, for any answer `r` and area at exit `out` that meet its contract. Rows 8, 9, 7 and 10 of document 01's table are given exactly when the
-- table says, each with its number and place; no other row is given; a refusal counts and writes nothing; n records are returned exactly for words of n
-- silences that can be packed, with room for their fields. From PackRows of crates/silences, by AnswerByRows of crates/answers.
use Prim.Native.Nat.{ℕ, ◌*◌, ◌≤◌, ◌<◌}
use mathlib.Core.Logic.Iff
use mathlib.Core.Logic.{◌⊎◌, inl, inr, ◌↔◌}
use mathlib.Core.Path.{◌≡◌, refl, ◌∙◌}
use mathlib.Core.List.{List}
use Rattle.std.specs.Prelude.{Option, None}
use native.Mathlib.Omega.{arith}
use lib.ListN.{length}
use Rattle.lists.specs.Areas.{written}
use Rattle.answers.specs.declared.refusals.Refusal.{Refusal}
use Rattle.answers.specs.declared.refusals.Refusal.TheVariants.{NotAbove, WordCount, NumberInRecord, OutputRoom}
use Rattle.answers.specs.Refusals.{number_of}
use Rattle.answers.specs.Paper.{answer_paper}
use Rattle.answers.specs.Rows.{answer_by}
use Rattle.answers.proofs.RefusalNumbers.{refusal_place_is}
use Rattle.answers.proofs.AnswerByRows.{row_place_iff, row_number_iff, accepted_number_iff, number_by, refused_counts, refused_area}
use Rattle.silences.specs.Layout.{packed_length, layout}
use Rattle.silences.specs.Packing.{silences_of, pack_refusal, packed}
use Rattle.silences.specs.Faults.{HasWordCount, IsNumberFault, IsRecordFault, IsPackable}
use Rattle.silences.proofs.LayoutRead.{layout_length}
use Rattle.silences.proofs.PackRows.{HasWrongCount, pack_has, pack_8_iff, pack_9_iff, pack_7_iff, pack_10_iff, pack_none_iff}
use Rattle.std.specs.Prelude.{Result}
use Rattle.std.specs.Prelude.{Ok}
use Rattle.book.specs.Calls.{paper_of}
use Rattle.book.proofs.RowNumbers.{area_by_lem, paper_by, records_iff}
use Rattle.packing.specs.Calls.{IsPacked}

module _ (words area : List ℕ) (r : Result ℕ Refusal) (out : List ℕ) (meets : IsPacked words area r out) where
  -- the first row that is given
  abbrev o : Option Refusal
  o = pack_refusal words (length area)

  -- the number of silences of the words
  abbrev records : ℕ
  records = length (silences_of words)

  -- the paper of `r`, by the first row that is given
  paper : paper_of r ≡ answer_paper 0 (answer_by o records)
  unfolding packed
  paper = paper_by o (silences_of words) meets.paper

  -- Row 8 is given exactly when the words to pack are not "a multiple of 4, at most 4,000".
  pub pack_row_8 : ((paper_of r).number ≡ 8) ↔ HasWrongCount words
  pack_row_8 = Iff.trans (row_number_iff 0 records o paper WordCount (omega arith)) (pack_8_iff words (length area))

  -- The place of refusal 8 is 0.
  pub pack_row_8_place : (paper_of r).number ≡ 8 → (paper_of r).place ≡ 0
  pack_row_8_place = refusal_place_is 0 (answer_by o records) paper WordCount (omega arith)

  -- Row 9, a ring number or a ceiling above 65,535, is given at record number i exactly if row 8 is not and it is the first fault.
  pub pack_row_9 : (i : ℕ) → (((paper_of r).number ≡ 9) × ((paper_of r).place ≡ i)) ↔ (HasWordCount words × IsNumberFault words i)
  pack_row_9 i = Iff.trans (row_place_iff 0 records o paper (NumberInRecord i)) (pack_9_iff words (length area) i)

  -- Row 7, "a record isn't above the one before it", is given at record number i exactly if row 8 is not and it is the first fault.
  pub pack_row_7 : (i : ℕ) → (((paper_of r).number ≡ 7) × ((paper_of r).place ≡ i)) ↔ (HasWordCount words × IsRecordFault words i)
  pack_row_7 i = Iff.trans (row_place_iff 0 records o paper (NotAbove i)) (pack_7_iff words (length area) i)

  -- Row 10, packing "lacks room for its whole output", is given exactly for words that can be packed with less room than 15 bytes for each silence.
  pub pack_row_10 : ((paper_of r).number ≡ 10) ↔ (IsPackable words × (length area < packed_length * records))
  pack_row_10 =
      Iff.trans (row_number_iff 0 records o paper OutputRoom (omega arith))
      (Iff.trans (pack_10_iff words (length area))
      (Iff.and Iff.rfl (λ h. omega (arith, layout_length (silences_of words)), λ h. omega (arith, layout_length (silences_of words)))))

  -- The place of refusal 10 is 0.
  pub pack_row_10_place : (paper_of r).number ≡ 10 → (paper_of r).place ≡ 0
  pack_row_10_place = refusal_place_is 0 (answer_by o records) paper OutputRoom (omega arith)

  -- `pack` gives no row but 8, 9, 7 and 10: the number is 0, 8, 9, 7 or 10.
  pub pack_numbers : ((paper_of r).number ≡ 0) ⊎ (((paper_of r).number ≡ 8) ⊎ (((paper_of r).number ≡ 9) ⊎ (((paper_of r).number ≡ 7) ⊎ ((paper_of r).number ≡ 10))))
  pack_numbers =
      number_by 0 records o paper (λ (n : ℕ). (n ≡ 0) ⊎ ((n ≡ 8) ⊎ ((n ≡ 9) ⊎ ((n ≡ 7) ⊎ (n ≡ 10))))) (inl refl)
      (pack_has words (length area)
      (λ (q : Refusal). (number_of q ≡ 0) ⊎ ((number_of q ≡ 8) ⊎ ((number_of q ≡ 9) ⊎ ((number_of q ≡ 7) ⊎ (number_of q ≡ 10)))))
      (inr (inl refl)) (λ j. inr (inr (inl refl))) (λ j. inr (inr (inr (inl refl)))) (inr (inr (inr (inr refl)))))

  -- "A refusal carries .. zero in every count": its number of records is 0.
  pub pack_refused_none : 0 < (paper_of r).number → (paper_of r).counts ≡ 0
  pack_refused_none = refused_counts 0 records o paper

  -- A refusal "writes nothing to any lent area": the area at exit is the area at entry.
  pub pack_refused_area : 0 < (paper_of r).number → out ≡ area
  unfolding packed
  pack_refused_area =
      refused_area 0 records o paper (written (layout (silences_of words)) area) area (meets.written ∙ area_by_lem layout area o (silences_of words))

  -- no row is given exactly for words that can be packed, with room for 15 bytes each
  none_iff : (o ≡ None) ↔ (IsPackable words × (packed_length * records ≤ length area))
  none_iff =
      Iff.trans (pack_none_iff words (length area))
      (Iff.and Iff.rfl (λ h. omega (arith, layout_length (silences_of words)), λ h. omega (arith, layout_length (silences_of words))))

  -- `pack` accepts exactly words that can be packed, with room for 15 bytes for each silence.
  pub pack_accepted : ((paper_of r).number ≡ 0) ↔ (IsPackable words × (packed_length * records ≤ length area))
  pack_accepted = Iff.trans (accepted_number_iff 0 records o paper) none_iff

  -- `pack` returns n records exactly for words of n silences that can be packed, with room for 15 bytes for each silence.
  pub pack_records : (n : ℕ) → (r ≡ Ok n) ↔ ((IsPackable words × (packed_length * records ≤ length area)) × (records ≡ n))
  unfolding packed
  pack_records n = Iff.trans (records_iff o (silences_of words) r meets.paper n) (Iff.and none_iff Iff.rfl)
