-- One bit put into a vector. In a word, `b << j` is b at place j and 0 elsewhere. So in `x | b << j` bit j is set if it was or if b is 1, and every other bit is
-- as it was. All other words are kept.
use mathlib.Core.Path.{◌≡◌, refl, sym, ◌∙◌}
use mathlib.Core.Bool.{◌||◌, or-false}
use mathlib.Core.List.{List}
use mathlib.Core.Logic.{dite}
use Prim.Native.Nat.{ℕ, ◌*◌, ◌/◌, ◌%◌, ◌^◌, ◌<◌}
use native.Mathlib.Nat.{mod-lt}
use native.Mathlib.Decide.{ℕ_discrete}
use native.Mathlib.Omega.{arith}
use lib.ListN.{length, get_or}
use lib.Dec.{eqb}
use Rattle.vectors.specs.Bits.{word_bits, bit, put_word, put_bit, PutBit}
use Rattle.vectors.proofs.WordBits.{bit_mod, bit_lone_there, bit_lone_else}
use Rattle.vectors.proofs.VectorBits.{is_set_word, is_set_set_same, is_set_set_other, test_or}

module _ (x j b : ℕ) (bit_b : b < 2) where
  -- In the word, bit j is set if it was or if b is 1.
  pub put_word_there : j < word_bits → eqb (bit (put_word x j b) j) 1 ≡ (eqb (bit x j) 1 || eqb b 1)
  put_word_there h = test_or x (b * 2 ^ j % 2 ^ word_bits) j ∙ rw (bit_mod (b * 2 ^ j) j word_bits h, bit_lone_there b j bit_b) refl

  -- In the word, every other bit is as it was.
  pub put_word_else : (l : ℕ) → l < word_bits → (l ≡ j → ⊥) → eqb (bit (put_word x j b) l) 1 ≡ eqb (bit x l) 1
  put_word_else l h other =
      test_or x (b * 2 ^ j % 2 ^ word_bits) l ∙ rw (bit_mod (b * 2 ^ j) l word_bits h, bit_lone_else b j l bit_b other) (or-false (eqb (bit x l) 1))

-- In `put_bit ws i b`, bit i is set if it was or if b is 1, and no other bit has changed, if the vector has a bit i.
pub put_is : (ws : List ℕ) (i b : ℕ) → b < 2 → i < word_bits * length ws → PutBit ws i b (put_bit ws i b)
unfolding put_bit
put_is ws i b bit_b h =
    let within : i / word_bits < length ws = omega arith in
    let old : ℕ = get_or ws (i / word_bits) 0 in
    let new : ℕ = put_word old (i % word_bits) b in
    record {
      there = is_set_set_same ws (i / word_bits) new i refl within
          ∙ (put_word_there old (i % word_bits) b bit_b (mod-lt i (omega arith)) ∙ rw (is_set_word ws i (i / word_bits) (i % word_bits) refl refl) refl);
      others = λ l other. dite (ℕ_discrete (l / word_bits) (i / word_bits))
          (λ same. is_set_set_same ws (i / word_bits) new l same within
          ∙ (put_word_else old (i % word_bits) b bit_b (l % word_bits) (mod-lt l (omega arith)) (λ e. other (omega arith))
          ∙ sym (is_set_word ws l (i / word_bits) (l % word_bits) same refl)))
          (is_set_set_other ws (i / word_bits) new l);
    }
