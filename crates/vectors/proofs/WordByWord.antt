-- A vector given word by word: `list_of count f` has the word f w at place w, for w below count, and no bit past its words.
-- `vector_of_same` compares two of them by their words, and `vector_of_set` changes one word.
use mathlib.Core.Path.{◌≡◌, refl, ◌∙◌}
use mathlib.Core.Bool.{false}
use mathlib.Core.List.{List}
use mathlib.Core.Logic.{dite}
use Prim.Native.Nat.{ℕ, ◌*◌, ◌/◌, ◌%◌, ◌^◌, ◌≤◌, ◌<◌}
use native.Mathlib.Decide.{dec_lt, ℕ_discrete}
use native.Mathlib.Omega.{arith}
use lib.ListN.{set, length-set}
use lib.Seq.{get_or-set_same, get_or-set_other}
use lib.Dec.{eqb}
use Rattle.vectors.specs.Bits.{word_bits, Vector, bit, is_set}
use Rattle.lists.specs.ByPlace.{list_of}
use Rattle.lists.proofs.ByPlace.{list_of_length, list_of_at, list_of_past, list_of_is}
use Rattle.vectors.proofs.VectorBits.{is_set_word, is_set_past}

-- For i below 64·count, bit i of `list_of count f` is bit i mod 64 of the word f (i / 64).
pub vector_of_is_set : (count : ℕ) (f : ℕ → ℕ) (i : ℕ) → i < word_bits * count
    → is_set (list_of count f) i ≡ eqb (bit (f (i / word_bits)) (i % word_bits)) 1
vector_of_is_set count f i h =
    is_set_word (list_of count f) i (i / word_bits) (i % word_bits) refl refl ∙ rw (list_of_at count f (i / word_bits) (omega arith)) refl

-- Past the words of `list_of count f` no bit is set.
pub vector_of_is_set_past : (count : ℕ) (f : ℕ → ℕ) (i : ℕ) → word_bits * count ≤ i → is_set (list_of count f) i ≡ false
vector_of_is_set_past count f i h = is_set_past (list_of count f) i (omega (arith, list_of_length count f))

-- The words of `list_of count f` are machine words, if each f w is one.
pub vector_of_vector : (count : ℕ) (f : ℕ → ℕ) → ((w : ℕ) → w < count → f w < 2 ^ word_bits) → Vector (list_of count f)
vector_of_vector count f each_lt = record {
  word_lt = λ w. dite (dec_lt w count) (λ h. rw (list_of_at count f w h) (each_lt w h))
      (λ past. omega (arith, list_of_past count f w (omega (arith, past))));
}

-- Two functions that agree below `count` give the same list.
pub vector_of_same : (count : ℕ) (f g : ℕ → ℕ) → ((i : ℕ) → i < count → f i ≡ g i) → list_of count f ≡ list_of count g
vector_of_same count f g same = list_of_is (list_of count f) count g (list_of_length count f) (λ i h. list_of_at count f i h ∙ same i h)

-- `list_of count f` with x stored at one place is `list_of count g`, if x is what g has there and f and g agree elsewhere.
pub vector_of_set : (count : ℕ) (f g : ℕ → ℕ) (at x : ℕ) → at < count → x ≡ g at → ((i : ℕ) → i < count → (i ≡ at → ⊥) → f i ≡ g i)
    → set (list_of count f) at x ≡ list_of count g
vector_of_set count f g at x h is same =
    let old : List ℕ = list_of count f in
    list_of_is (set old at x) count g (length-set old at x ∙ list_of_length count f) (λ i l. dite (ℕ_discrete i at)
    (λ here. rw here (get_or-set_same old at x 0 (omega (arith, list_of_length count f)) ∙ is))
    (λ other. get_or-set_other old at i x 0 other ∙ (list_of_at count f i l ∙ same i l other)))
