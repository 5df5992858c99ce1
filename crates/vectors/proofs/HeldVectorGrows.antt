-- The held vector grown by one edge: rotated, then AND the edge's occurrence vector. A bit of `x & y` is set exactly when it is set in both. So a bit below m is
-- set exactly when the rotated one is and the edge occurs there; from m on the rotated vector has no bit. The last two laws give the grown vector word by word.
use mathlib.Core.Path.{◌≡◌, refl, ◌∙◌}
use mathlib.Core.List.{List}
use mathlib.Core.Logic.{dite}
use Prim.Native.Nat.{ℕ, ◌+◌, ◌-◌, ◌*◌, ◌/◌, ◌%◌, ◌≤◌, ◌<◌}
use native.Mathlib.Decide.{dec_lt}
use native.Mathlib.Omega.{arith}
use lib.ListN.{length, get_or}
use lib.Bits.{bit_and}
use Rattle.vectors.specs.Bits.{word_bits, Vector, bit, put_word}
use Rattle.vectors.specs.Rotating.{shifted_word, WithinBits, rotated, Rotated}
use Rattle.vectors.specs.Holding.{both, Both, grown, Grown}
use Rattle.vectors.proofs.VectorBits.{is_set_word, is_set_past, test_and}
use Rattle.vectors.proofs.WordByWord.{vector_of_is_set, vector_of_is_set_past}
use Rattle.lists.proofs.ByPlace.{list_of_length, list_of_at}
use Rattle.vectors.proofs.WrapToLastBit.{rotated_is, rotated_length, rotated_word_inner, rotated_word_last}

module _ (xs ys : List ℕ) where
  -- `both xs ys` has as many words as xs.
  both_length : length (both xs ys) ≡ length xs
  unfolding both
  both_length = list_of_length (length xs) (λ w. bit_and (get_or xs w 0) (get_or ys w 0))

  -- Each word of `both xs ys` is the AND of the two words.
  both_word : (w : ℕ) → w < length xs → get_or (both xs ys) w 0 ≡ bit_and (get_or xs w 0) (get_or ys w 0)
  unfolding both
  both_word w h = list_of_at (length xs) (λ w. bit_and (get_or xs w 0) (get_or ys w 0)) w h

  -- A bit of `both xs ys` is set exactly when it is set in both.
  both_is : Both xs ys (both xs ys)
  unfolding both
  both_is = record {
    each = λ i. dite (dec_lt i (word_bits * length xs))
        (λ h. vector_of_is_set (length xs) (λ w. bit_and (get_or xs w 0) (get_or ys w 0)) i h
        ∙ (test_and (get_or xs (i / word_bits) 0) (get_or ys (i / word_bits) 0) (i % word_bits)
        ∙ rw (is_set_word xs i (i / word_bits) (i % word_bits) refl refl, is_set_word ys i (i / word_bits) (i % word_bits) refl refl) refl))
        (λ past. vector_of_is_set_past (length xs) (λ w. bit_and (get_or xs w 0) (get_or ys w 0)) i (omega (arith, past))
        ∙ rw (is_set_past xs i (omega (arith, past))) refl);
  }

-- A vector rotated, and then AND the occurrence vector, is grown, however it is computed.
grown_of : (m : ℕ) (occurs old mid new : List ℕ) → Rotated m old mid → Both mid occurs new → Grown m occurs old new
grown_of m occurs old mid new turn and = record {
  each = λ r h. and.each r ∙ rw (turn.next r h) refl;
  rest = λ i h. and.each i ∙ rw (turn.rest i h) refl;
}

module _ (m : ℕ) (occurs held : List ℕ) where
  -- For m of 1 or more, and a vector of m bits whose words have room for them, `grown` gives the grown vector: bit r below m is set exactly when bit (r + 1) mod m
  -- was and the edge occurs at r, and no bit from m on is set.
  pub grown_is : Vector held → 0 < m → m ≤ word_bits * length held → WithinBits m held → Grown m occurs held (grown m occurs held)
  unfolding grown
  grown_is vector some room within =
      grown_of m occurs held (rotated m held) (both (rotated m held) occurs) (rotated_is m held vector some room within) (both_is (rotated m held) occurs)

  -- The grown vector has no bit from m on.
  pub grown_within : (new : List ℕ) → Grown m occurs held new → WithinBits m new
  grown_within new g = record { rest = g.rest }

  -- The grown vector has as many words as the held one.
  pub grown_length : length (grown m occurs held) ≡ length held
  unfolding grown
  grown_length = both_length (rotated m held) occurs ∙ rotated_length m held

  -- A word of the grown vector that does not hold bit m − 1 is `(x >> 1 | next << 63) & occurs`.
  pub grown_word_inner : (w : ℕ) → w < length held → (w ≡ (m - 1) / word_bits → ⊥)
      → get_or (grown m occurs held) w 0 ≡ bit_and (shifted_word (get_or held w 0) (get_or held (w + 1) 0)) (get_or occurs w 0)
  unfolding grown
  grown_word_inner w h inner =
      both_word (rotated m held) occurs w (omega (arith, rotated_length m held)) ∙ rw (rotated_word_inner m w held h inner) refl

  -- The word of the grown vector that holds bit m − 1 is `(x >> 1 | next << 63 | first << (m - 1) % 64) & occurs`.
  pub grown_word_last : (w : ℕ) → w < length held → w ≡ (m - 1) / word_bits
      → get_or (grown m occurs held) w 0
      ≡ bit_and (put_word (shifted_word (get_or held w 0) (get_or held (w + 1) 0)) ((m - 1) % word_bits) (bit (get_or held 0 0) 0)) (get_or occurs w 0)
  unfolding grown
  grown_word_last w h last =
      both_word (rotated m held) occurs w (omega (arith, rotated_length m held)) ∙ rw (rotated_word_last m w held h last) refl
