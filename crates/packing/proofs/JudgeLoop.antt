-- The loop of `judge`. Before each turn the records before the words left are passed: they ascend, and their numbers fit. Where a record is refused, or none is
-- left, the walk so far is the whole walk (`packs_as_is`).
--
--   words            the words to pack
--   last, i, left    the last record passed, the number of records passed, the words left
use Prim.Native.Nat.{ℕ, ◌+◌, ◌<◌}
use mathlib.Core.Path.{◌≡◌, refl, sym, ap, subst, ◌∙◌}
use mathlib.Core.Bool.{true, false}
use mathlib.Core.List.{List, [], ◌∷◌, ◌++◌, append-nil}
use Rattle.std.specs.Prelude.{Option, None, Some}
use native.Mathlib.Omega.{arith}
use lib.ListN.{length, length-append}
use lib.Seq.{append_snoc}
use Rattle.answers.specs.declared.refusals.Refusal.TheVariants.{NotAbove, NumberInRecord}
use Rattle.answers.specs.Rows.{first_given}
use Rattle.silences.specs.Silences.{Address, Silence, is_above}
use Rattle.silences.specs.Packing.{silences_of, silence_of_words, record_words, record_rows, record_fault}
use Rattle.silences.specs.Faults.{NumbersFit, AllFit, TooLarge}
use Rattle.silences.proofs.WordsOfSilences.{silences_of_record, silences_of_few}
use Rattle.silences.proofs.AscendingAfter.{AscendingAfter, last_after, last_after_end, ascends_more}
use Rattle.silences.proofs.RecordsPacked.{RecordStands, packed_all, stopped_number, stopped_record, all_fit_more, packs_as_is}

-- The loop's invariant. `size` is the number of words that the loop takes in a turn.
pub record JudgedTo (words : List ℕ) (last : Option Address) (i size : ℕ) (left : List ℕ) : Type 0 where
  pub size_is : size ≡ record_words
  pub passed : List Silence
  pub all_are : silences_of words ≡ passed ++ silences_of left
  pub all_fit : AllFit passed
  pub ascends : AscendingAfter None passed
  pub last_is : last ≡ last_after None passed
  pub number_is : i ≡ length passed

module _ {words : List ℕ} where
  -- The invariant holds at the start: no record is passed.
  pub judge_start : {i size : ℕ} {left : List ℕ} → i ≡ 0 → size ≡ record_words → left ≡ words → JudgedTo words None i size left
  judge_start i_is size_is left_is =
      record {
        size_is = size_is;
        passed = [];
        all_are = ap silences_of (sym left_is);
        all_fit = tt;
        ascends = tt;
        last_is = refl;
        number_is = i_is;
      }

  module _ {last : Option Address} {i size : ℕ} {left : List ℕ} (now : JudgedTo words last i size left) where
    module _ (four rest : List ℕ) (left_is : left ≡ four ++ rest) (long : length four ≡ size) where
      -- this record is the next of them
      all_from : silences_of words ≡ now.passed ++ silence_of_words four ∷ silences_of rest
      all_from = now.all_are ∙ ap (λ (l : List Silence). now.passed ++ l) (silences_of_record left four rest left_is (long ∙ now.size_is))

      -- its number is i, and those before it are passed
      stands_here : {number : ℕ} → number ≡ i → RecordStands None 0 (silences_of words) now.passed number (silence_of_words four)
      stands_here number_is =
          record {
            later = silences_of rest;
            records_are = all_from;
            number_is = omega (arith, now.number_is, number_is);
            all_fit = now.all_fit;
            ascends = now.ascends;
          }

      -- If a number of this record is too large, refusal 9 with its number is the answer.
      pub judge_too_large : {number : ℕ} → number ≡ i → TooLarge (silence_of_words four) → Some (NumberInRecord number) ≡ record_fault words
      judge_too_large number_is high = sym (packs_as_is (stopped_number (stands_here number_is) high))

      module _ (fit : NumbersFit (silence_of_words four)) where
        -- If this record is not above the last, refusal 7 with its number is the answer.
        pub judge_not_above : {number : ℕ} → number ≡ i → is_above last (silence_of_words four).address ≡ false → Some (NotAbove number) ≡ record_fault words
        judge_not_above number_is e =
            sym (packs_as_is (stopped_record (stands_here number_is) fit
            (subst (λ (l : Option Address). is_above l (silence_of_words four).address ≡ false) now.last_is e)))

        -- If this record is above the last, the invariant holds again with it passed.
        pub judge_turn : {i' size' : ℕ} → i' ≡ i + 1 → size' ≡ size → is_above last (silence_of_words four).address ≡ true
            → JudgedTo words (Some (silence_of_words four).address) i' size' rest
        judge_turn {i'} {size'} i_is same_size e =
            let here : Silence = silence_of_words four in
            record {
              size_is = same_size ∙ now.size_is;
              passed = now.passed ++ here ∷ [];
              all_are = all_from ∙ sym (append_snoc now.passed here (silences_of rest));
              all_fit = all_fit_more now.passed here now.all_fit fit;
              ascends = ascends_more None now.passed here now.ascends (subst (λ (l : Option Address). is_above l here.address ≡ true) now.last_is e);
              last_is = sym (last_after_end None now.passed here);
              number_is = omega (arith, i_is, now.number_is, length-append now.passed (here ∷ []));
            }

    -- When fewer than four words are left, no record is faulty.
    pub judge_end : length left < size → None ≡ record_fault words
    judge_end few =
        let all : silences_of words ≡ now.passed =
        now.all_are
        ∙ ap (λ (l : List Silence). now.passed ++ l) (silences_of_few left (omega (arith, few, now.size_is)))
        ∙ append-nil now.passed in
        sym (ap (λ (ss : List Silence). first_given (record_rows None 0 ss)) all ∙ packs_as_is (packed_all now.all_fit now.ascends))
