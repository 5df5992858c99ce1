-- The words of a vector joined by `|`, as the code joins them: all four one by one, those from the count on as 0. A word that is 0 changes nothing, so this is
-- the join of the first `asked` words, or of all four if `asked` is more. Compared with 0 it is the test `no_bit`.
use mathlib.Core.Path.{◌≡◌, refl, sym, ◌∙◌}
use mathlib.Core.Bool.{cond}
use mathlib.Core.List.{List}
use mathlib.Core.Logic.{dite}
use Prim.Native.Nat.{ℕ, zero, suc, ◌≤◌, min}
use native.Mathlib.Decide.{dec_lt, ℕ_discrete}
use native.Mathlib.Omega.{arith}
use lib.ListN.{length, get_or, get_or-eq_default}
use lib.Bits.{bit_or, or_zero_r}
use lib.Dec.{ltb, eqb}
use borrow.Author.Tests.{lt-ltb, le-ltb}
use Rattle.vectors.specs.Bits.{or_below, no_bit}
use Rattle.vectors.specs.ByValue.{vector_words}

-- A word that is 0 does not change the join.
or_below_more : (ws : List ℕ) (count : ℕ) → get_or ws count 0 ≡ 0 → or_below ws (suc count) ≡ or_below ws count
unfolding or_below
or_below_more ws count e = rw (e, or_zero_r (or_below ws count)) refl

-- Nor do words past the last.
or_below_past : (ws : List ℕ) (count : ℕ) → length ws ≤ count → or_below ws count ≡ or_below ws (length ws)
or_below_past ws zero h = let e : length ws ≡ 0 = omega arith in rw e refl
or_below_past ws (suc count) h = dite (ℕ_discrete (length ws) (suc count)) (λ e. rw e refl)
    (λ longer. or_below_more ws count (get_or-eq_default ws 0 {n = count} (omega (arith, longer))) ∙ or_below_past ws count (omega (arith, longer)))

-- Word w if it is one of the first `words`, else 0.
abbrev pub word_below : List ℕ → ℕ → ℕ → ℕ
word_below ws words w = cond (ltb w words) (get_or ws w 0) 0

module _ (ws : List ℕ) (words : ℕ) where
  -- The join of the first min(w, words) words, with word w joined, is the join of the first min(w + 1, words).
  join_more : (w : ℕ) → bit_or (or_below ws (min w words)) (word_below ws words w) ≡ or_below ws (min (suc w) words)
  unfolding or_below
  join_more w = dite (dec_lt w words)
      (λ h. let old : min w words ≡ w = omega arith in
      let new : min (suc w) words ≡ suc w = omega arith in
      rw (lt-ltb w words h, old, new) refl)
      (λ past. let old : min w words ≡ words = omega (arith, past) in
      let new : min (suc w) words ≡ words = omega (arith, past) in
      rw (le-ltb w words (omega (arith, past)), old, new) (or_zero_r (or_below ws words)))

  -- The four words, those from `words` on as 0, joined one by one and compared with 0, are the test `no_bit` of the first `asked` words; `words` is `asked`, at
  -- most 4.
  pub joined_is : (asked a b c d : ℕ) → length ws ≡ vector_words → words ≡ min asked vector_words → a ≡ word_below ws words 0 → b ≡ word_below ws words 1 → c ≡ word_below ws words 2
      → d ≡ word_below ws words 3 → eqb (bit_or (bit_or (bit_or a b) c) d) 0 ≡ no_bit ws asked
  unfolding no_bit or_below
  joined_is asked a b c d four is p q r s =
      let all : or_below ws words ≡ or_below ws asked = dite (dec_lt asked (length ws))
      (λ less. let same : words ≡ asked = omega arith in rw same refl)
      (λ more. let same : words ≡ length ws = omega (arith, more) in rw same (sym (or_below_past ws asked (omega (arith, more))))) in
      let fewer : min vector_words words ≡ words = omega arith in
      let none : min 0 words ≡ 0 = omega arith in
      let first : word_below ws words 0 ≡ or_below ws (min 1 words) = rw none at (join_more 0) in
      rw (p, q, r, s, first, join_more 1, join_more 2, join_more 3, fewer, all) refl
