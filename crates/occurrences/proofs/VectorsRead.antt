-- What is read off the two arrays of a ring. Bit q of the vector of an edge code is set exactly when place q has the code: the word that is read for the code and a part
-- has the part's bits. Where vectors have one word it stands at the code, and where they have several a slot leads to it.
use mathlib.Core.Path.{◌≡◌, refl, sym, ◌∙◌}
use mathlib.Core.Bool.{false}
use mathlib.Core.List.{List, [], ◌∷◌}
use mathlib.Core.Logic.{dite}
use Prim.Native.Nat.{ℕ, ◌+◌, ◌*◌, ◌/◌, ◌%◌, ◌^◌, ◌≤◌, ◌<◌}
use native.Mathlib.Nat.{mod-lt}
use native.Mathlib.Decide.{dec_lt, ℕ_discrete}
use native.Mathlib.Omega.{arith}
use lib.ListN.{get_or}
use lib.Dec.{ltb, leb, eqb}
use borrow.Author.Tests.{lt-ltb, le-ltb, le-leb, lt-leb, ne_eqb}
use Rattle.lists.specs.ByPlace.{list_of}
use Rattle.lists.proofs.Cases.{by_test}
use Rattle.lists.proofs.ByPlace.{list_of_at}
use Rattle.vectors.specs.Bits.{word_bits, Vector, is_set}
use Rattle.vectors.specs.ByValue.{vector_words, vector_bits}
use Rattle.vectors.proofs.WordBits.{bit_zero}
use Rattle.vectors.proofs.WordByWord.{vector_of_is_set, vector_of_is_set_past, vector_of_vector}
use Rattle.occurrences.specs.declared.table.EdgeVectors.{EdgeVectors}
use Rattle.occurrences.specs.EdgeVectors.{byte_codes, last_part, word_place, whole_word, slot_word, word_of, vector_at}
use Rattle.occurrences.specs.Storing.{slot_count, kept_count, has_code, slot_of, part_word, kept_word}
use Rattle.occurrences.proofs.PlacesOfCode.{has_code_past}
use Rattle.occurrences.proofs.WordOfPart.{part_bit, part_none}
use Rattle.occurrences.proofs.KeptWords.{word_place_slot_lt, kept_reads}
use Rattle.occurrences.proofs.ArraysOfRing.{slots_of, kept_of, whole_of}

-- The words of a vector that is read are machine words, if the kept ones are.
pub read_vector : (table : EdgeVectors) (code count : ℕ) → Vector table.kept → Vector (vector_at table code count)
unfolding vector_at word_of whole_word slot_word
read_vector table code count vector = vector_of_vector vector_words _ (λ w h. by_test (λ (x : ℕ). x < 2 ^ word_bits) (ltb code byte_codes)
    (λ _. by_test (λ (x : ℕ). x < 2 ^ word_bits) (leb count 1)
    (λ _. by_test (λ (x : ℕ). x < 2 ^ word_bits) (eqb w 0) (λ _. vector.word_lt code) (λ _. omega arith))
    (λ _. vector.word_lt _))
    (λ _. omega arith))

module _ (table : EdgeVectors) (code count : ℕ) (is_code : code < byte_codes) where
  -- Where vectors have one word: the word at the code, written out with three zeros, is the vector.
  pub whole_words : count ≤ 1 → get_or table.kept code 0 ∷ 0 ∷ 0 ∷ 0 ∷ [] ≡ vector_at table code count
  unfolding vector_at list_of word_of whole_word
  whole_words few = rw (lt-ltb code byte_codes is_code, le-leb count 1 few) refl

  -- Where they have several: the words of the four parts, written out, are the vector.
  pub parted_words : 1 < count → slot_word table code 0 ∷ slot_word table code 1 ∷ slot_word table code 2 ∷ slot_word table code 3 ∷ [] ≡ vector_at table code count
  unfolding vector_at list_of word_of
  parted_words many = rw (lt-ltb code byte_codes is_code, lt-leb count 1 many) refl

-- For a number above 255 no bit is set.
pub no_code_bit : (table : EdgeVectors) (code count q : ℕ) → byte_codes ≤ code → is_set (vector_at table code count) q ≡ false
unfolding vector_at
no_code_bit table code count q above = dite (dec_lt q vector_bits)
    (λ h. vector_of_is_set vector_words _ q h ∙ rw (le-ltb code byte_codes above, bit_zero (q % word_bits)) refl)
    (λ past. vector_of_is_set_past vector_words _ q (omega (arith, past)))

module _ (ring : List ℕ) (n : ℕ) (most : n ≤ vector_bits) (table : EdgeVectors) (code : ℕ) (is_code : code < byte_codes) where
  -- If the word that is read for a code and each part has the part's bits, bit q is set exactly when place q has the code.
  bits_of_parts : (count : ℕ) → ((w : ℕ) → w ≤ last_part → word_of table code count w ≡ part_word ring n w code) → (q : ℕ) → is_set (vector_at table code count) q ≡ has_code ring n code q
  unfolding vector_at
  bits_of_parts count words q = dite (dec_lt q vector_bits)
      (λ h. let place : word_bits * (q / word_bits) + q % word_bits ≡ q = omega arith in
      vector_of_is_set vector_words _ q (omega arith) ∙ rw (lt-ltb code byte_codes is_code, words (q / word_bits) (omega arith))
      (part_bit ring n (q / word_bits) code (q % word_bits) (mod-lt q (omega arith)) ∙ rw place refl))
      (λ past. vector_of_is_set_past vector_words _ q (omega (arith, past)) ∙ sym (has_code_past ring n code q (omega (arith, past))))

  module _ (one : n ≤ word_bits) (kept_are : table.kept ≡ whole_of ring n) where
    -- Where vectors have one word, the word of part 0 stands at the code, and the other parts have no place.
    pub whole_read : (w : ℕ) → whole_word table code w ≡ part_word ring n w code
    unfolding whole_word whole_of
    whole_read w = dite (ℕ_discrete w 0)
        (λ first. rw (first, kept_are) (list_of_at kept_count (part_word ring n 0) code (omega arith)))
        (λ later. rw (ne_eqb w 0 later) (sym (part_none ring n w code (λ q l h. has_code_past ring n code q (omega (arith, later))))))

    -- Bit q is set exactly when place q has the code, where vectors have one word.
    pub whole_bit : (count : ℕ) → count ≤ 1 → (q : ℕ) → is_set (vector_at table code count) q ≡ has_code ring n code q
    unfolding word_of
    whole_bit count few = bits_of_parts count (λ w h. rw (le-leb count 1 few) (whole_read w))

  module _ (slots_are : table.slots ≡ slots_of ring n) where
    -- At code + 256·w stands the slot of code and part w.
    pub slot_there : (w at : ℕ) → w ≤ last_part → at ≡ code + w * byte_codes → get_or table.slots at 0 ≡ slot_of ring n w code
    unfolding slots_of
    slot_there w at h is =
        let at_w : at / byte_codes ≡ w = omega arith in
        let at_code : at % byte_codes ≡ code = omega arith in
        rw slots_are (list_of_at slot_count _ at (omega arith) ∙ rw (at_w, at_code) refl)

    module _ (kept_are : table.kept ≡ kept_of ring n) where
      -- The word that is read for an edge code and part w is that of part and code.
      pub parted_read : (w : ℕ) → w ≤ last_part → slot_word table code w ≡ part_word ring n w code
      unfolding slot_word kept_of
      parted_read w h = rw (slot_there w (code + w * byte_codes) h refl, kept_are)
          (list_of_at kept_count (kept_word ring n) (word_place w (slot_of ring n w code)) (word_place_slot_lt ring n w code h) ∙ kept_reads ring n w code h)

      -- Bit q is set exactly when place q has the code, where vectors have several words.
      pub parted_bit : (count : ℕ) → 1 < count → (q : ℕ) → is_set (vector_at table code count) q ≡ has_code ring n code q
      unfolding word_of
      parted_bit count many = bits_of_parts count (λ w h. rw (lt-leb count 1 many) (parted_read w h))
