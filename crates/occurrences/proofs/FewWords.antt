-- At most m words of a ring of m edges are not 0, and the word of a part and a code is 0 exactly when no place of the part has the code. Each ring place changes one
-- word, so it makes at most one more that is not 0.
use mathlib.Core.Path.{◌≡◌, refl, sym, ◌∙◌}
use mathlib.Core.Bool.{cond}
use mathlib.Core.List.{List, [], ◌∷◌}
use mathlib.Core.Logic.{dite}
use Prim.Native.Nat.{ℕ, zero, suc, ◌+◌, ◌/◌, ◌%◌, ◌≤◌, ◌<◌}
use native.Mathlib.Decide.{dec_lt}
use native.Mathlib.Numerals.{add-one}
use native.Mathlib.Omega.{arith}
use lib.ListN.{length, get_or, set, replicate}
use lib.Dec.{eqb}
use borrow.Author.Tests.{le-leb, lt-leb, eq-eqb}
use Rattle.lists.proofs.Cases.{by_test, not_passed}
use Rattle.vectors.specs.Bits.{word_bits, word_count, put_word}
use Rattle.vectors.specs.ByValue.{vector_bits}
use Rattle.occurrences.specs.declared.table.EdgeVectors.{EdgeVectors}
use Rattle.occurrences.specs.EdgeVectors.{byte_codes, last_part, word_place, word_of}
use Rattle.occurrences.specs.Storing.{kept_count, slot_of, part_word, counted_places, Occurrences, not_zero}
use Rattle.occurrences.proofs.PlacesOfCode.{has_code_is, has_code_below}
use Rattle.occurrences.proofs.WordOfPart.{part_none, part_some}
use Rattle.occurrences.proofs.ArraysOfRing.{kept_of, whole_of, kept_at_first, whole_at_first, kept_for_one, slots_for_parts, kept_for_parts}
use Rattle.occurrences.proofs.PlaceCounted.{whole_turn, whole_stays, kept_turn}
use Rattle.occurrences.proofs.VectorsRead.{whole_read, parted_read}

-- One word counts at most once.
one_at_most : (x : ℕ) → cond (eqb x 0) 0 1 ≤ 1
one_at_most x = by_test (λ (n : ℕ). n ≤ 1) (eqb x 0) (λ _. omega arith) (λ _. omega arith)

-- A word stored makes at most one word more that is not 0.
not_zero_set : (xs : List ℕ) (i x : ℕ) → not_zero (set xs i x) ≤ not_zero xs + 1
unfolding not_zero
not_zero_set [] i x = omega arith
not_zero_set (y ∷ ys) zero x = omega (arith, one_at_most x)
not_zero_set (y ∷ ys) (suc i) x = omega (arith, not_zero_set ys i x)

-- In a list of zeros no word counts.
not_zero_zeros : (n : ℕ) → not_zero (replicate n 0) ≡ 0
unfolding not_zero
not_zero_zeros zero = refl
not_zero_zeros (suc n) = omega (arith, not_zero_zeros n)

-- The first n places of a ring, at most 256, make at most n words.
few_kept : (ring : List ℕ) (n : ℕ) → n ≤ vector_bits → not_zero (kept_of ring n) ≤ n
few_kept ring zero h = rw (sym (kept_at_first ring)) (omega (arith, not_zero_zeros kept_count))
few_kept ring (suc n) h =
    let at : ℕ = word_place (n / word_bits) (slot_of ring (n + 1) (n / word_bits) (get_or ring n 0)) in
    let word : ℕ = put_word (get_or (kept_of ring n) at 0) (n % word_bits) 1 in
    rw (sym (add-one n)) (rw (sym (kept_turn ring n (n / word_bits) (get_or ring n 0) refl refl (omega arith) at refl))
    (omega (arith, not_zero_set (kept_of ring n) at word, few_kept ring n (omega arith))))

-- In a ring of one part the first n places, at most 64, make at most n words.
few_whole : (ring : List ℕ) (n : ℕ) → n ≤ word_bits → not_zero (whole_of ring n) ≤ n
few_whole ring zero h = rw (sym (whole_at_first ring)) (omega (arith, not_zero_zeros kept_count))
few_whole ring (suc n) h =
    let code : ℕ = get_or ring n 0 in
    let word : ℕ = put_word (get_or (whole_of ring n) code 0) n 1 in
    rw (sym (add-one n)) (dite (dec_lt code kept_count)
    (λ room. rw (sym (whole_turn ring n code (omega arith) refl room)) (omega (arith, not_zero_set (whole_of ring n) code word, few_whole ring n (omega arith))))
    (λ above. rw (whole_stays ring n (omega (arith, above))) (omega (arith, few_whole ring n (omega arith)))))

module _ (ring : List ℕ) (table : EdgeVectors) (is : Occurrences ring table) where
  -- Of a ring of m edges at most m kept words are not 0.
  pub few_words : not_zero table.kept ≤ length ring
  few_words = dite (dec_lt word_bits (length ring))
      (λ many. rw (is.kept_are, sym (kept_for_parts ring many)) (omega (arith, few_kept ring (counted_places ring) (omega arith))))
      (λ few. rw (is.kept_are, sym (kept_for_one ring (omega (arith, few)))) (omega (arith, few_whole ring (counted_places ring) (omega (arith, few)))))

  module _ (code w : ℕ) (is_code : code < byte_codes) (part : w ≤ last_part) where
    -- The word that is read for an edge code and part w has the bits of part and code.
    word_is : word_of table code (word_count (length ring)) w ≡ part_word ring (counted_places ring) w code
    unfolding word_of
    word_is = dite (dec_lt word_bits (length ring))
        (λ many. rw (lt-leb (word_count (length ring)) 1 (omega arith)) (parted_read ring (counted_places ring) (omega arith) table code is_code
        (is.slots_are ∙ sym (slots_for_parts ring many)) (is.kept_are ∙ sym (kept_for_parts ring many)) w part))
        (λ few. rw (le-leb (word_count (length ring)) 1 (omega (arith, few))) (whole_read ring (counted_places ring) (omega arith) table code is_code
        (omega (arith, few)) (is.kept_are ∙ sym (kept_for_one ring (omega (arith, few)))) w))

    -- If a place of part w has the code, the word that is read for code and part is not 0.
    pub word_not_zero : (q : ℕ) → q / word_bits ≡ w → q < length ring → get_or ring q 0 ≡ code → word_of table code (word_count (length ring)) w ≡ 0 → ⊥
    word_not_zero q here h edge none = part_some ring (counted_places ring) w code q here
        (has_code_below ring (counted_places ring) code q (omega arith) ∙ eq-eqb (get_or ring q 0) code edge) (sym word_is ∙ none)

    -- If no place of part w has the code, the word that is read for code and part is 0.
    pub word_zero : ((q : ℕ) → q / word_bits ≡ w → q < length ring → get_or ring q 0 ≡ code → ⊥) → word_of table code (word_count (length ring)) w ≡ 0
    word_zero lacks = word_is ∙ part_none ring (counted_places ring) w code (λ q l h. sym (not_passed _
        (λ e. let has : (q < counted_places ring) × (get_or ring q 0 ≡ code) = has_code_is ring (counted_places ring) code q e in
        lacks q (omega arith) (omega (arith, has.0)) has.1)))
