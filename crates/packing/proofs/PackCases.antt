-- The cases of `pack`, as its code tests them: row 8, the refusal of the first faulty record, row 10, or all bytes written. In each the contract is met, by the
-- laws of PackRows.
use Prim.Native.Nat.{ℕ, ◌*◌, ◌/◌, ◌≤◌, ◌<◌}
use mathlib.Core.Path.{◌≡◌, refl, sym, ap, ◌∙◌}
use mathlib.Core.List.{List}
use Rattle.std.specs.Prelude.{None, Some}
use Rattle.std.specs.Prelude.{Ok, Err}
use native.Mathlib.Omega.{arith}
use lib.ListN.{length}
use Rattle.lists.specs.Areas.{written}
use Rattle.answers.specs.declared.refusals.Refusal.{Refusal}
use Rattle.answers.specs.declared.refusals.Refusal.TheVariants.{WordCount, OutputRoom}
use Rattle.answers.specs.Paper.{Answer, accepted, refused}
use Rattle.answers.proofs.AnswerByRows.{answer_refused_iff}
use Rattle.silences.specs.Silences.{Silence}
use Rattle.silences.specs.Layout.{packed_length, layout}
use Rattle.silences.specs.Packing.{silences_of, record_words, record_fault, area_at_exit, pack_refusal, packed}
use Rattle.silences.specs.Faults.{HasWordCount, AllFit, IsPackable}
use Rattle.silences.proofs.LayoutRead.{layout_length}
use Rattle.silences.proofs.WordsOfSilences.{silences_length}
use Rattle.silences.proofs.PackRows.{HasWrongCount, pack_fault, packable_iff, pack_8_iff, pack_10_iff, packed_accepted_iff}
use Rattle.book.specs.Calls.{paper_of, records_paper}
use Rattle.packing.specs.Calls.{IsPacked}

module _ (words area : List ℕ) where
  -- if q is the first row that is given, refusing with q and writing nothing meets the contract
  is_refused : {q : Refusal} → pack_refusal words (length area) ≡ Some q → IsPacked words area (Err q) area
  unfolding packed
  is_refused {q} e =
      let is : packed words (length area) ≡ refused q = (answer_refused_iff (silences_of words) (pack_refusal words (length area)) q).1 e in
      record { paper = sym (ap records_paper is); written = sym (ap (λ (a : Answer (List Silence)). area_at_exit layout a area) is) }

  -- If the number of words is wrong, refusing with 8 and writing nothing meets the contract.
  pub pack_word_count : HasWrongCount words → IsPacked words area (Err WordCount) area
  pack_word_count wrong = is_refused ((pack_8_iff words (length area)).1 wrong)

  module _ (count : HasWordCount words) where
    -- If a record is faulty, refusing with its refusal and writing nothing meets the contract.
    pub pack_refused : {q : Refusal} → Some q ≡ record_fault words → IsPacked words area (Err q) area
    pack_refused {q} fault = is_refused (pack_fault words (length area) count q (sym fault))

    module _ (none : None ≡ record_fault words) where
      -- the words can be packed
      can_pack : IsPackable words
      can_pack = ((packable_iff words (length words) {P = Unit {0}}).0 (count, (sym none, tt))).0

      -- and the output has 15 bytes for each four words
      output_is : length (layout (silences_of words)) ≡ packed_length * (length words / record_words)
      output_is = omega (arith, layout_length (silences_of words), silences_length words count.multiple)

      -- If there is less room, refusing with 10 and writing nothing meets the contract.
      pub pack_no_room : length area < packed_length * (length words / record_words) → IsPacked words area (Err OutputRoom) area
      pack_no_room h = is_refused ((pack_10_iff words (length area)).1 (can_pack, omega (arith, output_is)))

      module _ (enough : packed_length * (length words / record_words) ≤ length area) where
        -- If there is room, the fields can be put.
        pub pack_can : AllFit (silences_of words) × (length (layout (silences_of words)) ≤ length area)
        pack_can = (can_pack.all_fit, omega (arith, output_is))

        -- If there is room and the whole output is written, returning the number of records meets the contract.
        pub pack_written : {out : List ℕ} → out ≡ written (layout (silences_of words)) area → IsPacked words area (Ok (length words / record_words)) out
        pack_written {out} w =
            let is : packed words (length area) ≡ accepted (silences_of words) =
            (packed_accepted_iff words (length area) (silences_of words)).1 (can_pack, refl, omega (arith, output_is)) in
            let records_are : length words / record_words ≡ length (silences_of words) = omega (arith, silences_length words count.multiple) in
            record {
              paper = ap (λ (n : ℕ). paper_of (Ok n)) records_are ∙ sym (ap records_paper is);
              written = w ∙ sym (ap (λ (a : Answer (List Silence)). area_at_exit layout a area) is);
            }
