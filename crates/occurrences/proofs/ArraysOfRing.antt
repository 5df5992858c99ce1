-- Both arrays, for each number n of places, so that the loops have them as invariants. With no place every word is 0 and every part lacks every code; with all places
-- the arrays are those of the contract.
use mathlib.Core.Path.{◌≡◌, refl, sym, ◌∙◌}
use mathlib.Core.List.{List}
use Prim.Native.Nat.{ℕ, ◌/◌, ◌%◌, ◌^◌, ◌≤◌, ◌<◌}
use native.Mathlib.Omega.{arith}
use lib.ListN.{length, get_or, replicate, length-replicate, get_or-replicate}
use lib.Dec.{eqb}
use borrow.Author.Tests.{le-leb, lt-leb}
use Rattle.lists.specs.ByPlace.{list_of}
use Rattle.lists.proofs.Cases.{by_test}
use Rattle.lists.proofs.ByPlace.{list_of_is}
use Rattle.vectors.specs.Bits.{word_bits, Vector}
use Rattle.vectors.proofs.WordByWord.{vector_of_vector, vector_of_same}
use Rattle.occurrences.specs.EdgeVectors.{byte_codes, empty_word}
use Rattle.occurrences.specs.Storing.{slot_count, kept_count, no_slots, slot_of, part_word, kept_place, place_word, kept_word, counted_places, slot_for, kept_at, slots_for, kept_for}
use Rattle.occurrences.proofs.PlacesOfCode.{has_code_past}
use Rattle.occurrences.proofs.SlotOfPart.{slot_at_first}
use Rattle.occurrences.proofs.WordOfPart.{part_lt, part_none}

-- The slots that a ring's first n places make, in a ring of several parts.
unfoldable pub slots_of : List ℕ → ℕ → List ℕ
slots_of ring n = list_of slot_count (λ i. slot_of ring n (i / byte_codes) (i % byte_codes))

-- The kept words that they make.
unfoldable pub kept_of : List ℕ → ℕ → List ℕ
kept_of ring n = list_of kept_count (kept_word ring n)

-- The kept words that they make in a ring of one part.
unfoldable pub whole_of : List ℕ → ℕ → List ℕ
whole_of ring n = list_of kept_count (part_word ring n 0)

module _ (ring : List ℕ) where
  -- What holds of 0 and of the words of all parts and codes holds of every kept word.
  kept_every : (P : ℕ → Type 0) (n : ℕ) → P 0 → ((w code : ℕ) → P (part_word ring n w code)) → (i : ℕ) → P (kept_word ring n i)
  unfolding kept_word place_word
  kept_every P n none each i = by_test P (eqb i empty_word) (λ _. none)
      (λ _. by_test P (eqb (slot_of ring n (kept_place i / word_bits) (get_or ring (kept_place i) 0)) (kept_place i)) (λ _. each _ _) (λ _. none))

  -- With no place, the word of a part and a code is 0.
  part_at_first : (w code : ℕ) → part_word ring 0 w code ≡ 0
  part_at_first w code = part_none ring 0 w code (λ q l h. has_code_past ring 0 code q (omega arith))

  -- The kept words are machine words.
  pub kept_vector : (n : ℕ) → Vector (kept_of ring n)
  unfolding kept_of
  kept_vector n = vector_of_vector kept_count _ (λ i h. kept_every (λ x. x < 2 ^ word_bits) n (omega arith) (part_lt ring n) i)

  -- The kept words of a ring of one part are machine words.
  pub whole_vector : (n : ℕ) → Vector (whole_of ring n)
  unfolding whole_of
  whole_vector n = vector_of_vector kept_count (part_word ring n 0) (λ i h. part_lt ring n 0 i)

  -- With no place, the kept words are zeros.
  pub kept_at_first : replicate kept_count 0 ≡ kept_of ring 0
  unfolding kept_of
  kept_at_first = list_of_is (replicate kept_count 0) kept_count (kept_word ring 0) (length-replicate {A = ℕ} kept_count 0)
      (λ i h. get_or-replicate {A = ℕ} kept_count i 0 0 h ∙ sym (kept_every (λ x. x ≡ 0) 0 refl part_at_first i))

  -- With no place, those of a ring of one part are zeros.
  pub whole_at_first : replicate kept_count 0 ≡ whole_of ring 0
  unfolding whole_of
  whole_at_first = list_of_is (replicate kept_count 0) kept_count (part_word ring 0 0) (length-replicate {A = ℕ} kept_count 0)
      (λ i h. get_or-replicate {A = ℕ} kept_count i 0 0 h ∙ sym (part_at_first 0 i))

  -- With no place, every part lacks every code.
  pub slots_at_first : no_slots ≡ slots_of ring 0
  unfolding no_slots slots_of
  slots_at_first = vector_of_same slot_count _ _ (λ i h. sym (slot_at_first ring (i / byte_codes) (i % byte_codes)))

  module _ (one : length ring ≤ word_bits) where
    -- Up to 64 edges every slot is that of a code that its part lacks.
    pub slots_for_one : no_slots ≡ slots_for ring
    unfolding no_slots slots_for slot_for
    slots_for_one = vector_of_same slot_count _ _ (λ i h. rw (le-leb (length ring) word_bits one) refl)

    -- Up to 64 edges the words are kept by code.
    pub kept_for_one : whole_of ring (counted_places ring) ≡ kept_for ring
    unfolding whole_of kept_for kept_at
    kept_for_one = vector_of_same kept_count _ _ (λ i h. rw (le-leb (length ring) word_bits one) refl)

  module _ (many : word_bits < length ring) where
    -- With more edges the slots are those of several parts.
    pub slots_for_parts : slots_of ring (counted_places ring) ≡ slots_for ring
    unfolding slots_of slots_for slot_for
    slots_for_parts = vector_of_same slot_count _ _ (λ i h. rw (lt-leb (length ring) word_bits many) refl)

    -- With more edges the kept words are those of several parts.
    pub kept_for_parts : kept_of ring (counted_places ring) ≡ kept_for ring
    unfolding kept_of kept_for kept_at
    kept_for_parts = vector_of_same kept_count _ _ (λ i h. rw (lt-leb (length ring) word_bits many) refl)
