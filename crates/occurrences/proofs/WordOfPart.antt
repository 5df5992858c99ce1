-- The word of a code in a part of 64 places, by its bits: bit j is set exactly when the part has the code at its place j. When place n is added, only the word of
-- its own part and code changes: bit n mod 64 is put in.
use mathlib.Core.Path.{◌≡◌, refl, sym, ◌∙◌}
use mathlib.Core.Bool.{Bool, true, false, cond, ◌&&◌, true≢false, or-true}
use mathlib.Core.List.{List}
use mathlib.Core.Logic.{dite}
use Prim.Native.Nat.{ℕ, zero, suc, ◌+◌, ◌*◌, ◌/◌, ◌%◌, ◌^◌, ◌≤◌, ◌<◌}
use native.Mathlib.Nat.{mod-lt}
use native.Mathlib.Decide.{dec_lt, ℕ_discrete}
use native.Mathlib.Omega.{arith}
use lib.ListN.{get_or}
use lib.Dec.{ltb, eqb}
use lib.Bits.{or_lt}
use lib.Pow.{pow_pos}
use borrow.Author.Tests.{lt-ltb, le-ltb}
use Rattle.vectors.specs.Bits.{word_bits, bit, put_word}
use Rattle.vectors.proofs.WordBits.{bit_zero}
use Rattle.vectors.proofs.VectorBits.{words_same}
use Rattle.vectors.proofs.OneBitPut.{put_word_there, put_word_else}
use Rattle.occurrences.specs.Storing.{has_code, word_where, part_word}
use Rattle.occurrences.proofs.PlacesOfCode.{has_code_new, has_code_same}

-- A bit put into a machine word gives a machine word.
pub put_word_lt : (x j b : ℕ) → x < 2 ^ word_bits → put_word x j b < 2 ^ word_bits
put_word_lt x j b h = or_lt word_bits x (b * 2 ^ j % 2 ^ word_bits) h (mod-lt (b * 2 ^ j) (pow_pos word_bits))

-- The bit of a test is 0 or 1.
one_or_none : (t : Bool) → cond t 1 0 < 2
one_or_none true = omega arith
one_or_none false = omega arith

-- It is 1 exactly when the test is true.
one_if_lem : (t : Bool) → eqb (cond t 1 0) 1 ≡ t
one_if_lem true = refl
one_if_lem false = refl

-- `word_where` is a machine word.
pub word_where_lt : (test : ℕ → Bool) (count : ℕ) → word_where test count < 2 ^ word_bits
unfolding word_where
word_where_lt test zero = omega arith
word_where_lt test (suc count) = put_word_lt (word_where test count) count (cond (test count) 1 0) (word_where_lt test count)

-- Bit j of `word_where test count` is set exactly when j is below `count` and passes the test.
word_where_bit : (test : ℕ → Bool) (count j : ℕ) → count ≤ word_bits → j < word_bits → eqb (bit (word_where test count) j) 1 ≡ (ltb j count && test j)
unfolding word_where
word_where_bit test zero j h l = rw (bit_zero j, le-ltb j 0 (omega arith)) refl
word_where_bit test (suc count) j h l =
    let old : ℕ = word_where test count in
    let one : ℕ = cond (test count) 1 0 in
    dite (ℕ_discrete j count)
    (λ here. rw here (put_word_there old count one (one_or_none (test count)) (omega arith)
    ∙ rw (word_where_bit test count count (omega arith) (omega arith), le-ltb count count (omega arith), lt-ltb count (suc count) (omega arith)) (one_if_lem (test count))))
    (λ other. put_word_else old count one (one_or_none (test count)) j l other ∙ (word_where_bit test count j (omega arith) l ∙ rw (below_more other) refl))
  where
    -- but for `count` itself, to be below one more is the same
    below_more : (j ≡ count → ⊥) → ltb j count ≡ ltb j (suc count)
    below_more other = dite (dec_lt j count)
        (λ below. lt-ltb j count below ∙ sym (lt-ltb j (suc count) (omega arith)))
        (λ above. le-ltb j count (omega (arith, above)) ∙ sym (le-ltb j (suc count) (omega (arith, above, other))))

-- Bit j of `word_where test 64` is set exactly when j passes the test.
pub word_bit : (test : ℕ → Bool) (j : ℕ) → j < word_bits → eqb (bit (word_where test word_bits) j) 1 ≡ test j
word_bit test j l = word_where_bit test word_bits j (omega arith) l ∙ rw (lt-ltb j word_bits l) refl

module _ (ring : List ℕ) where
  -- Bit j of the word of a code in part w is set exactly when place 64·w + j has the code.
  pub part_bit : (n w code j : ℕ) → j < word_bits → eqb (bit (part_word ring n w code) j) 1 ≡ has_code ring n code (word_bits * w + j)
  unfolding part_word
  part_bit n w code j l = word_bit (λ j. has_code ring n code (word_bits * w + j)) j l

  -- The word of a code in part w is a machine word.
  pub part_lt : (n w code : ℕ) → part_word ring n w code < 2 ^ word_bits
  unfolding part_word
  part_lt n w code = word_where_lt (λ j. has_code ring n code (word_bits * w + j)) word_bits

  -- If no place of the part has the code, the word is 0.
  pub part_none : (n w code : ℕ) → ((q : ℕ) → word_bits * w ≤ q → q < word_bits * w + word_bits → has_code ring n code q ≡ false) → part_word ring n w code ≡ 0
  part_none n w code none = words_same (part_word ring n w code) 0 (part_lt n w code) (omega arith)
      (λ j l. part_bit n w code j l ∙ (none (word_bits * w + j) (omega arith) (omega arith) ∙ rw (bit_zero j) refl))

  -- If a place of the part has the code, the word is not 0.
  pub part_some : (n w code q : ℕ) → q / word_bits ≡ w → has_code ring n code q ≡ true → part_word ring n w code ≡ 0 → ⊥
  part_some n w code q part has none =
      let place : word_bits * w + q % word_bits ≡ q = omega arith in
      let bit_of : eqb (bit (part_word ring n w code) (q % word_bits)) 1 ≡ true = part_bit n w code (q % word_bits) (mod-lt q (omega arith)) ∙ rw place has in
      true≢false (sym bit_of ∙ rw (none, bit_zero (q % word_bits)) refl)

  -- The words of other parts and codes than those of place n stay.
  pub part_other : (n w code : ℕ) → (n / word_bits ≡ w → get_or ring n 0 ≡ code → ⊥) → part_word ring (n + 1) w code ≡ part_word ring n w code
  part_other n w code other = words_same (part_word ring (n + 1) w code) (part_word ring n w code) (part_lt (n + 1) w code) (part_lt n w code)
      (λ j l. part_bit (n + 1) w code j l ∙ (has_code_same ring n code (word_bits * w + j) (λ e. other (omega arith)) ∙ sym (part_bit n w code j l)))

  -- Into the word of place n's own part and code, bit n mod 64 is put.
  pub part_own : (n w code : ℕ) → n / word_bits ≡ w → get_or ring n 0 ≡ code → part_word ring (n + 1) w code ≡ put_word (part_word ring n w code) (n % word_bits) 1
  part_own n w code part edge =
      let old : ℕ = part_word ring n w code in
      let place : ℕ = n % word_bits in
      let is : word_bits * w + place ≡ n = omega arith in
      let there : eqb (bit (put_word old place 1) place) 1 ≡ true =
      put_word_there old place 1 (omega arith) (mod-lt n (omega arith)) ∙ or-true (eqb (bit old place) 1) in
      words_same (part_word ring (n + 1) w code) (put_word old place 1) (part_lt (n + 1) w code) (put_word_lt old place 1 (part_lt n w code))
      (λ j l. part_bit (n + 1) w code j l ∙ dite (ℕ_discrete j place)
      (λ here. rw (here, is, there) (rw edge at (has_code_new ring n)))
      (λ other. has_code_same ring n code (word_bits * w + j) (λ e _. other (omega arith))
      ∙ (sym (part_bit n w code j l) ∙ sym (put_word_else old place 1 (omega arith) j l other))))
