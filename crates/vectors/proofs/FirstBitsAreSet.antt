-- The vector whose first m bits are set. The lowest m − 64·w bits of word w are set, at most all of them; so bit j of word w is set exactly when 64·w + j is
-- below m.
use mathlib.Core.Path.{◌≡◌, refl, ◌∙◌}
use mathlib.Core.List.{List}
use mathlib.Core.Logic.{dite}
use Prim.Native.Nat.{ℕ, ◌+◌, ◌-◌, ◌*◌, ◌/◌, ◌%◌, ◌^◌, ◌≤◌, ◌<◌, min}
use native.Mathlib.Nat.{mod-lt, lt_of_lt_of_le}
use native.Mathlib.Decide.{dec_lt}
use native.Mathlib.Omega.{arith}
use lib.ListN.{length}
use lib.Pow.{pow_mono, ones_lt}
use Rattle.vectors.specs.Bits.{word_bits, Vector, bit, first_word, first_bits, FirstBits}
use Rattle.vectors.specs.Rotating.{WithinBits}
use Rattle.vectors.proofs.WordBits.{bit_ones, bit_ones_past}
use Rattle.vectors.proofs.WordByWord.{vector_of_vector, vector_of_is_set, vector_of_is_set_past}
use Rattle.lists.proofs.ByPlace.{list_of_length}

-- In word w the bits whose place in the vector is below m are set.
first_word_low : (m w j : ℕ) → j < word_bits → word_bits * w + j < m → bit (first_word m w) j ≡ 1
unfolding first_word
first_word_low m w j h l = bit_ones (min word_bits (m - word_bits * w)) j (omega arith)

-- In word w the bits whose place in the vector is m or more are 0.
first_word_rest : (m w j : ℕ) → m ≤ word_bits * w + j → bit (first_word m w) j ≡ 0
unfolding first_word
first_word_rest m w j l = bit_ones_past (min word_bits (m - word_bits * w)) j (omega arith)

-- In `first_bits m count` the first m bits are set, and no other, if the words have room for m bits.
pub first_bits_is : (m count : ℕ) → m ≤ word_bits * count → FirstBits m (first_bits m count)
unfolding first_bits
first_bits_is m count room = record {
  low = λ i h. vector_of_is_set count (first_word m) i (omega arith)
      ∙ rw (first_word_low m (i / word_bits) (i % word_bits) (mod-lt i (omega arith)) (omega arith)) refl;
  rest = λ i h. dite (dec_lt i (word_bits * count))
      (λ l. vector_of_is_set count (first_word m) i l ∙ rw (first_word_rest m (i / word_bits) (i % word_bits) (omega arith)) refl)
      (λ past. vector_of_is_set_past count (first_word m) i (omega (arith, past)));
}

-- `first_bits m count` has `count` words.
pub first_bits_length : (m count : ℕ) → length (first_bits m count) ≡ count
unfolding first_bits
first_bits_length m count = list_of_length count (first_word m)

-- The words of `first_bits m count` are machine words.
pub first_bits_vector : (m count : ℕ) → Vector (first_bits m count)
unfolding first_bits first_word
first_bits_vector m count = vector_of_vector count (first_word m) (λ w h. lt_of_lt_of_le
    (ones_lt (min word_bits (m - word_bits * w))) (pow_mono {i = min word_bits (m - word_bits * w)} {j = word_bits} (omega arith)))

-- A vector whose first m bits are set, and no other, has no bit from m on.
pub first_bits_within : (m : ℕ) (ws : List ℕ) → FirstBits m ws → WithinBits m ws
first_bits_within m ws first = record { rest = first.rest }

-- The word with its lowest `left` bits set, at most all of them, is word w, if `left` is m − 64·w.
pub first_word_left : (m w left : ℕ) → left ≡ m - word_bits * w → 2 ^ min word_bits left - 1 ≡ first_word m w
unfolding first_word
first_word_left m w left is = rw is refl
