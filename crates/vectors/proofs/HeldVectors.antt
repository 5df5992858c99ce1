-- What a caller of this crate's functions cites: for a vector of m bits in the fewest words that hold them, the functions return what `Bits` and `Holding` mean.
-- `first_bits` returns such a vector (`HeldVector`), and `grown` keeps it one, so it is a loop's invariant. The proofs are in the other modules; who uses this
-- one need not look at words.
use mathlib.Core.Path.{◌≡◌}
use mathlib.Core.Bool.{true, false}
use mathlib.Core.List.{List}
use mathlib.Core.Logic.{◌↔◌}
use Prim.Native.Nat.{ℕ, ◌≤◌, ◌<◌}
use Rattle.vectors.specs.Bits.{word_count, Vector, is_set, first_bits, no_bit}
use Rattle.vectors.specs.Rotating.{WithinBits}
use Rattle.vectors.specs.ByValue.{vector_words, vector_bits, HeldVector, grown_words}
use Rattle.vectors.proofs.FirstBitsAreSet.{first_bits_is, first_bits_length, first_bits_vector, first_bits_within}
use Rattle.vectors.proofs.NoBitIsSet.{no_bit_iff, no_bit_no}
use Rattle.vectors.proofs.HeldVectorGrows.{grown_within}
use Rattle.vectors.proofs.GrownWords.{grown_words_length, grown_words_vector}
use Rattle.vectors.proofs.GrownInFewestWords.{grown_words_is}

module _ (m : ℕ) (most : m ≤ vector_bits) where
  -- For m of at most 256, `first_bits` returns a vector of m bits.
  pub first_held : HeldVector m (first_bits m vector_words)
  first_held = record {
    size = first_bits_length m vector_words;
    words = first_bits_vector m vector_words;
    within = first_bits_within m (first_bits m vector_words) (first_bits_is m vector_words most);
  }

  -- For m of at most 256, each of the m bits is set in what `first_bits` returns.
  pub first_set : (r : ℕ) → r < m → is_set (first_bits m vector_words) r ≡ true
  first_set r h = (first_bits_is m vector_words most).low r h

module _ (m count : ℕ) (occurs held : List ℕ) (some : 0 < m) (most : m ≤ vector_bits) (few : count ≡ word_count m) (is : HeldVector m held) where
  -- `grown` returns a vector of m bits again, if the occurrence vector is one.
  pub grown_held : Vector occurs → WithinBits m occurs → HeldVector m (grown_words m count occurs held)
  grown_held vector inside = record {
    size = grown_words_length m count occurs held;
    words = grown_words_vector m count occurs held vector;
    within = grown_within m occurs held (grown_words m count occurs held) (grown_words_is m count occurs held some most few is vector inside);
  }

module _ (m count : ℕ) (held : List ℕ) (few : count ≡ word_count m) (is : HeldVector m held) where
  -- For a vector of m bits and the fewest words that hold them, `no_bit` returns true exactly when none of the m bits is set.
  pub no_bit_iff_lem : (no_bit held count ≡ true) ↔ ((r : ℕ) → r < m → is_set held r ≡ false)
  no_bit_iff_lem = rw few (no_bit_iff m held is.words is.within)

  -- For a vector of m bits and the fewest words that hold them: if `no_bit` returns false, one of the m bits is set.
  pub no_bit_no_lem : no_bit held count ≡ false → (r : ℕ) × (r < m) × (is_set held r ≡ true)
  no_bit_no_lem said = no_bit_no m held is.words is.within (rw few at said)
