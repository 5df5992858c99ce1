-- The shift down by one. In a word shifted with its carry (`x >> 1 | next << 63`) each bit below the top is the next higher one, and the top is the next
-- word's lowest. So bit i of the shifted vector is what bit i + 1 was: within a word, between two words, and past the last.
use mathlib.Core.Path.{◌≡◌, refl, sym, ◌∙◌}
use mathlib.Core.List.{List}
use mathlib.Core.Logic.{dite}
use Prim.Native.Nat.{ℕ, ◌+◌, ◌-◌, ◌*◌, ◌/◌, ◌%◌, ◌^◌, ◌≤◌, ◌<◌}
use native.Mathlib.Nat.{mod-lt, max-zero, zero-max, add_comm}
use native.Mathlib.Decide.{dec_lt}
use native.Mathlib.Omega.{arith}
use lib.ListN.{length, get_or}
use Rattle.vectors.specs.Bits.{word_bits, Vector, bit, is_set}
use Rattle.vectors.specs.Rotating.{shifted_word, shifted, Shifted}
use Rattle.vectors.proofs.WordBits.{bit_or_lem, bit_shr, bit_mod, bit_shl_low, bit_shl_high, bit_high}
use Rattle.vectors.proofs.VectorBits.{is_set_word, is_set_past}
use Rattle.lists.proofs.ByPlace.{list_of_length, list_of_at}

module _ (x next : ℕ) where
  -- Below the top of the word each bit is the next higher one.
  carry_low : (j : ℕ) → j < word_bits - 1 → bit (shifted_word x next) j ≡ bit x (j + 1)
  carry_low j h = bit_or_lem (x / 2 ^ 1) (next * 2 ^ (word_bits - 1) % 2 ^ word_bits) j
      ∙ rw (bit_shr x 1 j, bit_mod (next * 2 ^ (word_bits - 1)) j word_bits (omega arith), bit_shl_low next (word_bits - 1) j h, max-zero, add_comm 1 j) refl

  -- The top of the word is the next word's lowest bit.
  carry_top : x < 2 ^ word_bits → bit (shifted_word x next) (word_bits - 1) ≡ bit next 0
  carry_top h = bit_or_lem (x / 2 ^ 1) (next * 2 ^ (word_bits - 1) % 2 ^ word_bits) (word_bits - 1)
      ∙ rw (
        bit_shr x 1 (word_bits - 1),
        bit_high x word_bits word_bits h (omega arith),
        bit_mod (next * 2 ^ (word_bits - 1)) (word_bits - 1) word_bits (omega arith),
        bit_shl_high next (word_bits - 1) 0,
        zero-max,
      ) refl

-- The shifted vector has as many words as before.
pub shifted_length : (ws : List ℕ) → length (shifted ws) ≡ length ws
unfolding shifted
shifted_length ws = list_of_length (length ws) (λ w. shifted_word (get_or ws w 0) (get_or ws (w + 1) 0))

-- Each word of the shifted vector is shifted with its carry.
pub shifted_word_lem : (ws : List ℕ) (w : ℕ) → w < length ws → get_or (shifted ws) w 0 ≡ shifted_word (get_or ws w 0) (get_or ws (w + 1) 0)
unfolding shifted
shifted_word_lem ws w h = list_of_at (length ws) (λ w. shifted_word (get_or ws w 0) (get_or ws (w + 1) 0)) w h

module _ (ws : List ℕ) (i : ℕ) where
  -- A bit below the top of its word comes from the same word.
  from_same_word : i < word_bits * length ws → i % word_bits < word_bits - 1 → is_set (shifted ws) i ≡ is_set ws (i + 1)
  from_same_word h low =
      is_set_word (shifted ws) i (i / word_bits) (i % word_bits) refl refl
      ∙ (rw (shifted_word_lem ws (i / word_bits) (omega arith), carry_low (get_or ws (i / word_bits) 0) (get_or ws (i / word_bits + 1) 0) (i % word_bits) low) refl
      ∙ sym (is_set_word ws (i + 1) (i / word_bits) (i % word_bits + 1) (omega arith) (omega arith)))

  -- The bit at the top of its word comes from the next word.
  from_next_word : Vector ws → i < word_bits * length ws → i % word_bits ≡ word_bits - 1 → is_set (shifted ws) i ≡ is_set ws (i + 1)
  from_next_word vector h top =
      is_set_word (shifted ws) i (i / word_bits) (word_bits - 1) refl top
      ∙ (rw (
        shifted_word_lem ws (i / word_bits) (omega arith),
        carry_top (get_or ws (i / word_bits) 0) (get_or ws (i / word_bits + 1) 0) (vector.word_lt (i / word_bits)),
      ) refl
      ∙ sym (is_set_word ws (i + 1) (i / word_bits + 1) 0 (omega arith) (omega arith)))

  -- Past the last word no bit is set, before or after.
  from_nowhere : word_bits * length ws ≤ i → is_set (shifted ws) i ≡ is_set ws (i + 1)
  from_nowhere h = is_set_past (shifted ws) i (omega (arith, shifted_length ws)) ∙ sym (is_set_past ws (i + 1) (omega arith))

-- Bit i of the shifted vector is what bit i + 1 was.
pub shifted_is : (ws : List ℕ) → Vector ws → Shifted ws (shifted ws)
shifted_is ws vector = record {
  each = λ i. dite (dec_lt i (word_bits * length ws))
      (λ h. dite (dec_lt (i % word_bits) (word_bits - 1)) (from_same_word ws i h)
      (λ top. from_next_word ws i vector h (omega (arith, top, mod-lt i {m = word_bits} (omega arith)))))
      (λ past. from_nowhere ws i (omega (arith, past)));
}
