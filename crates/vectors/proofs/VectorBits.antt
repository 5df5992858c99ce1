-- The bits of a vector, from the bits of its words. A bit is given by its word and its place there (`is_set_word`); past the last word none is set. As tests, the
-- smaller of two bits is `&&` and the greater is `||`. Two machine words with the same bits are equal. Proofs write the width 64 only as `word_bits`;
-- `omega` uses its value for `/` and `%`.
use mathlib.Core.Path.{◌≡◌, refl, sym, ◌∙◌}
use mathlib.Core.Bool.{false, ◌&&◌, ◌||◌}
use mathlib.Core.List.{List}
use mathlib.Core.Logic.{dite}
use Prim.Native.Nat.{ℕ, ◌+◌, ◌*◌, ◌/◌, ◌%◌, ◌^◌, ◌≤◌, ◌<◌, min, max}
use native.Mathlib.Nat.{min-eq_right, max-eq_left, zero-min, zero-max}
use native.Mathlib.Decide.{dec_lt, ℕ_discrete}
use native.Mathlib.Omega.{arith}
use lib.ListN.{length, get_or, set, get_or-eq_default}
use lib.Seq.{get_or-set_same, get_or-set_other}
use lib.Bits.{bit_and, bit_or}
use lib.Dec.{eqb}
use borrow.Author.Tests.{eqb-true, eq-eqb}
use Rattle.vectors.specs.Bits.{word_bits, bit, is_set}
use Rattle.vectors.proofs.WordBits.{bit_lt, bit_and_lem, bit_or_lem, bit_zero, bit_high, bits_unique}

-- Bit i of a vector is bit j of word w, for w = i / 64 and j = i mod 64.
pub is_set_word : (ws : List ℕ) (i w j : ℕ) → i / word_bits ≡ w → i % word_bits ≡ j → is_set ws i ≡ eqb (bit (get_or ws w 0) j) 1
unfolding is_set
is_set_word ws i w j e f = rw (e, f) refl

-- Bit j of word w is bit 64·w + j of the vector.
pub is_set_at : (ws : List ℕ) (w j : ℕ) → j < word_bits → is_set ws (word_bits * w + j) ≡ eqb (bit (get_or ws w 0) j) 1
is_set_at ws w j h = is_set_word ws (word_bits * w + j) w j (omega arith) (omega arith)

-- In a word that is 0 no bit is set.
pub is_set_zero : (ws : List ℕ) (i : ℕ) → get_or ws (i / word_bits) 0 ≡ 0 → is_set ws i ≡ false
unfolding is_set
is_set_zero ws i e = rw (e, bit_zero (i % word_bits)) refl

-- Past the last word no bit is set.
pub is_set_past : (ws : List ℕ) (i : ℕ) → word_bits * length ws ≤ i → is_set ws i ≡ false
is_set_past ws i h = is_set_zero ws i (get_or-eq_default ws 0 {n = i / word_bits} (omega arith))

module _ (ws : List ℕ) (w x i : ℕ) where
  -- After a word is stored, a bit in it is that word's.
  pub is_set_set_same : i / word_bits ≡ w → w < length ws → is_set (set ws w x) i ≡ eqb (bit x (i % word_bits)) 1
  unfolding is_set
  is_set_set_same e h = rw (e, get_or-set_same ws w x 0 h) refl

  -- After a word is stored, a bit outside it is what it was.
  pub is_set_set_other : (i / word_bits ≡ w → ⊥) → is_set (set ws w x) i ≡ is_set ws i
  unfolding is_set
  is_set_set_other other = rw (get_or-set_other ws w (i / word_bits) x 0 other) refl

-- Two bits are both 1 exactly when the smaller is.
min_test : (a b : ℕ) → a < 2 → b < 2 → eqb (min a b) 1 ≡ (eqb a 1 && eqb b 1)
min_test a b h l = dite (dec_lt a 1)
    (λ z. let e : a ≡ 0 = omega arith in rw (e, zero-min b) refl)
    (λ z. let e : a ≡ 1 = omega (arith, z) in rw (e, min-eq_right {n = b} {m = 1} (omega arith)) refl)

-- One of two bits is 1 exactly when the greater is.
max_test : (a b : ℕ) → a < 2 → b < 2 → eqb (max a b) 1 ≡ (eqb a 1 || eqb b 1)
max_test a b h l = dite (dec_lt a 1)
    (λ z. let e : a ≡ 0 = omega arith in rw (e, zero-max b) refl)
    (λ z. let e : a ≡ 1 = omega (arith, z) in rw (e, max-eq_left {n = 1} {m = b} (omega arith)) refl)

-- A bit of `x & y` is set exactly when it is set in both words.
pub test_and : (x y j : ℕ) → eqb (bit (bit_and x y) j) 1 ≡ (eqb (bit x j) 1 && eqb (bit y j) 1)
test_and x y j = rw (bit_and_lem x y j) (min_test (bit x j) (bit y j) (bit_lt x j) (bit_lt y j))

-- A bit of `x | y` is set exactly when it is set in one of the words.
pub test_or : (x y j : ℕ) → eqb (bit (bit_or x y) j) 1 ≡ (eqb (bit x j) 1 || eqb (bit y j) 1)
test_or x y j = rw (bit_or_lem x y j) (max_test (bit x j) (bit y j) (bit_lt x j) (bit_lt y j))

-- From a bit as a test to a bit as a number: two bits for which the test is the same are equal.
pub bit_of_test : (x y i j : ℕ) → eqb (bit x i) 1 ≡ eqb (bit y j) 1 → bit x i ≡ bit y j
bit_of_test x y i j e = dite (ℕ_discrete (bit x i) 1)
    (λ one. omega (arith, eqb-true (bit y j) 1 (sym e ∙ eq-eqb (bit x i) 1 one)))
    (λ not_one. dite (ℕ_discrete (bit y j) 1)
    (λ one. absurd (not_one (eqb-true (bit x i) 1 (e ∙ eq-eqb (bit y j) 1 one))))
    (λ neither. omega (arith, not_one, neither, bit_lt x i, bit_lt y j)))

-- Two machine words with the same bits are equal.
pub words_same : (x y : ℕ) → x < 2 ^ word_bits → y < 2 ^ word_bits → ((j : ℕ) → j < word_bits → eqb (bit x j) 1 ≡ eqb (bit y j) 1) → x ≡ y
words_same x y hx hy same = bits_unique x y (λ j. dite (dec_lt j word_bits)
    (λ l. bit_of_test x y j j (same j l))
    (λ past. bit_high x word_bits j hx (omega (arith, past)) ∙ sym (bit_high y word_bits j hy (omega (arith, past)))))
