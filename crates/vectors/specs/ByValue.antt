-- What the functions of this crate return. They take and return vectors by value, four machine words each: room for 256 bits, as many as the
-- longest ring has edges ("Ring: m edges, 1 to 256"). Every input has a result. For a vector of m bits in the fewest words that hold them, and an
-- occurrence vector of m bits, the results mean what `Bits` and `Holding` say; proofs/HeldVectors has the laws.
--     vector_words, vector_bits     a vector's words and bits            HeldVector     a vector of m bits held by value
--     last_bit_place, carry_into, grown_word, grown_words     the held vector grown by one edge, word by word
-- `first_bits` returns `first_bits` and `no_bit` returns `no_bit`, both of `Bits`.
use Rattle.std.specs.Prelude.{◌≡◌, cond, List, ℕ, ◌+◌, ◌-◌, ◌*◌, ◌/◌, ◌%◌, ◌^◌, min, length, get_or, ltb}
use Rattle.std.specs.Int.Bits.{bit_and, bit_or}
use Rattle.vectors.specs.Bits.{word_bits, Vector}
use Rattle.lists.specs.ByPlace.{list_of}
use Rattle.vectors.specs.Rotating.{WithinBits}

-- How many words a vector held by value has.
abbrev pub vector_words : ℕ
vector_words = 4

-- How many bits a vector held by value has.
abbrev pub vector_bits : ℕ
vector_bits = word_bits * vector_words

-- A vector of m bits held by value: it has `vector_words` machine words, and no bit from m on is set.
pub record HeldVector (m : ℕ) (ws : List ℕ) : Type 0 where
  pub size : length ws ≡ vector_words
  pub words : Vector ws
  pub within : WithinBits m ws

-- The place of bit m − 1 in its word; if m is 0, the top of a word.
abbrev pub last_bit_place : ℕ → ℕ
last_bit_place m = (m % word_bits + (word_bits - 1)) % word_bits

-- What comes into word w when the first `count` words are shifted down by one: the next word's lowest bit, at the top; into the last word, word 0
-- shifted up whole, so that its bit 0 comes to the place of bit m − 1. Its other bits come to stand above that place. An occurrence vector of m bits
-- has no bit there, so the AND in `grown_word` removes them, if `count` is the fewest words for m bits.
unfoldable pub carry_into : ℕ → ℕ → List ℕ → ℕ → ℕ
carry_into m count held w =
    let next : ℕ = get_or held (w + 1) 0 * 2 ^ (word_bits - 1) % 2 ^ word_bits in
    let first : ℕ = get_or held 0 0 * 2 ^ last_bit_place m % 2 ^ word_bits in
    cond (ltb (w + 1) count) next first

-- Word w of the held vector grown by one edge: `(x >> 1 | carry) & occurs`; from `count` on it is 0.
unfoldable pub grown_word : ℕ → ℕ → List ℕ → List ℕ → ℕ → ℕ
grown_word m count occurs held w =
    let word : ℕ = bit_and (bit_or (get_or held w 0 / 2 ^ 1) (carry_into m count held w)) (get_or occurs w 0) in
    cond (ltb w count) word 0

-- The held vector of m bits, kept in its first `count` words, grown by one edge. A count above `vector_words` is taken as `vector_words`.
unfoldable pub grown_words : ℕ → ℕ → List ℕ → List ℕ → List ℕ
grown_words m count occurs held = list_of vector_words (grown_word m (min count vector_words) occurs held)
