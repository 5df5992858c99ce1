-- No bit is set exactly when every word is 0, and that is exactly when all words joined by `|` are 0. A word is 0 if none of its bits is set, and `a | b` is 0
-- only if a and b are (their sum is `a | b` + `a & b`). In a vector of m bits it is enough to test the words that hold m bits (`no_bit_iff`).
use mathlib.Core.Path.{◌≡◌, refl, sym, ◌∙◌}
use mathlib.Core.Bool.{Bool, true, false, true≢false}
use mathlib.Core.List.{List}
use mathlib.Core.Logic.{dite, ◌↔◌, ◌⊎◌, inl, inr, ⊎_elim}
use Prim.Native.Nat.{ℕ, zero, suc, ◌+◌, ◌*◌, ◌/◌, ◌≤◌, ◌<◌}
use native.Mathlib.Decide.{dec_lt, ℕ_discrete}
use native.Mathlib.Omega.{arith}
use lib.ListN.{get_or}
use lib.Bits.{bit_or, or_add_and, and_le_l, and_le_r}
use borrow.Author.Tests.{eqb-true, eq-eqb}
use Rattle.vectors.specs.Bits.{word_bits, word_count, Vector, bit, is_set, NoBit, or_below, no_bit}
use Rattle.vectors.specs.Rotating.{WithinBits}
use Rattle.vectors.proofs.WordBits.{bit_zero, bit_high, bits_none}
use Rattle.vectors.proofs.VectorBits.{is_set_at, is_set_zero, bit_of_test}

-- Bit j of a word is 0 if it is not set in the vector, or if a word has no such bit.
pub bit_unset : (ws : List ℕ) → Vector ws → (w j : ℕ) → (j < word_bits → is_set ws (word_bits * w + j) ≡ false) → bit (get_or ws w 0) j ≡ 0
bit_unset ws vector w j none = dite (dec_lt j word_bits)
    (λ l. bit_of_test (get_or ws w 0) 0 j j (sym (is_set_at ws w j l) ∙ (none l ∙ rw (bit_zero j) refl)) ∙ bit_zero j)
    (λ l. bit_high (get_or ws w 0) word_bits j (vector.word_lt w) (omega (arith, l)))

-- A word with none of its bits set is 0.
word_none : (ws : List ℕ) → Vector ws → (w : ℕ) → ((j : ℕ) → j < word_bits → is_set ws (word_bits * w + j) ≡ false) → get_or ws w 0 ≡ 0
word_none ws vector w none = bits_none (get_or ws w 0) (λ j. bit_unset ws vector w j (none j))

-- If no bit is set, every word is 0.
no_bit_words : (ws : List ℕ) → Vector ws → NoBit ws → (w : ℕ) → get_or ws w 0 ≡ 0
no_bit_words ws vector no_bit_is w = word_none ws vector w (λ j l. no_bit_is.none (word_bits * w + j))

-- In a vector of m bits every word behind the first `word_count m` is 0.
pub within_spare : (m : ℕ) (ws : List ℕ) → Vector ws → WithinBits m ws → (w : ℕ) → word_count m ≤ w → get_or ws w 0 ≡ 0
within_spare m ws vector within w h = word_none ws vector w (λ j l. within.rest (word_bits * w + j) (omega arith))

-- In a vector of m bits, if none of the first m bits is set, none is.
no_bit_below : (m : ℕ) (ws : List ℕ) → WithinBits m ws → ((r : ℕ) → r < m → is_set ws r ≡ false) → NoBit ws
no_bit_below m ws within below = record { none = λ i. dite (dec_lt i m) (below i) (λ l. within.rest i (omega (arith, l))) }

-- `a | b` is 0 only if both are.
or_zero : (a b : ℕ) → bit_or a b ≡ 0 → (a ≡ 0) × (b ≡ 0)
or_zero a b e = (omega (arith, or_add_and a b, and_le_l a b, and_le_r a b), omega (arith, or_add_and a b, and_le_l a b, and_le_r a b))

-- If the join of the first words is 0, so is each of them.
or_below_words : (ws : List ℕ) (count : ℕ) → or_below ws count ≡ 0 → (w : ℕ) → w < count → get_or ws w 0 ≡ 0
unfolding or_below
or_below_words ws zero e w h = absurd (omega arith)
or_below_words ws (suc count) e w h =
    let parts : (or_below ws count ≡ 0) × (get_or ws count 0 ≡ 0) = or_zero (or_below ws count) (get_or ws count 0) e in
    dite (ℕ_discrete w count) (λ z. rw z parts.1) (λ z. or_below_words ws count parts.0 w (omega (arith, z)))

-- If each of the first words is 0, so is their join.
or_below_zero : (ws : List ℕ) (count : ℕ) → ((w : ℕ) → w < count → get_or ws w 0 ≡ 0) → or_below ws count ≡ 0
unfolding or_below
or_below_zero ws zero zeros = refl
or_below_zero ws (suc count) zeros = rw (or_below_zero ws count (λ w h. zeros w (omega arith)), zeros count (omega arith)) refl

-- In a vector of m bits, the test `no_bit` of the first `word_count m` words is true exactly when none of the first m bits is set.
pub no_bit_iff : (m : ℕ) (ws : List ℕ) → Vector ws → WithinBits m ws → (no_bit ws (word_count m) ≡ true) ↔ ((r : ℕ) → r < m → is_set ws r ≡ false)
unfolding no_bit
no_bit_iff m ws vector within = (
  λ e r h. is_set_zero ws r (or_below_words ws (word_count m) (eqb-true (or_below ws (word_count m)) 0 e) (r / word_bits) (omega arith)),
  λ below. eq-eqb (or_below ws (word_count m)) 0
      (or_below_zero ws (word_count m) (λ w h. no_bit_words ws vector (no_bit_below m ws within below) w)),
)

-- Either none of the first m bits is set, or one of them is.
none_or_one : (ws : List ℕ) (m : ℕ) → ((r : ℕ) → r < m → is_set ws r ≡ false) ⊎ ((r : ℕ) × (r < m) × (is_set ws r ≡ true))
none_or_one ws zero = inl (λ r h. absurd (omega arith))
none_or_one ws (suc m) = go (is_set ws m) refl (none_or_one ws m)
  where
    go : (b : Bool) → is_set ws m ≡ b → ((r : ℕ) → r < m → is_set ws r ≡ false) ⊎ ((r : ℕ) × (r < m) × (is_set ws r ≡ true))
        → ((r : ℕ) → r < suc m → is_set ws r ≡ false) ⊎ ((r : ℕ) × (r < suc m) × (is_set ws r ≡ true))
    go b e (inr (r, h, is)) = inr (r, omega arith, is)
    go true e (inl none) = inr (m, omega arith, e)
    go false e (inl none) = inl (λ r h. dite (ℕ_discrete r m) (λ same. rw same e) (λ other. none r (omega (arith, other))))

-- In a vector of m bits, if the test `no_bit` of the first `word_count m` words is false, one of the first m bits is set.
pub no_bit_no : (m : ℕ) (ws : List ℕ) → Vector ws → WithinBits m ws → no_bit ws (word_count m) ≡ false → (r : ℕ) × (r < m) × (is_set ws r ≡ true)
no_bit_no m ws vector within e = ⊎_elim (λ none. absurd (true≢false (sym ((no_bit_iff m ws vector within).1 none) ∙ e))) (λ one. one) (none_or_one ws m)
