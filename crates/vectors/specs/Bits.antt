-- Vectors of bits kept in machine words, for any word count: their bits, one bit put in, the first m bits set, no bit set.
-- Document 01 names them in rule 2: "003 decides the fit with one occurrence vector of m bits per edge code, rotated at each edge".
-- `Rotating` rotates them, and `Holding` has what the scan does with them.
-- Past the end of a list of words every bit is 0, so zero words at its end change no bit.
-- The width of a word is written once, in `word_bits`. Words are numbers. The code's `>>`, `<<`, `|` and `&` are here
-- `x / 2 ^ j`, `x * 2 ^ j % 2 ^ word_bits`, `bit_or` and `bit_and`.
-- Letters: ws a vector, w the number of a word, x a word, j a place in a word, i a place in a vector, m a number of bits.
--     word_bits, word_count                  the bits of a machine word; the words of m bits
--     Vector                               a list of machine words
--     bit, is_set                           bit j of a word, 0 or 1; whether bit i of a vector is set
--     put_word, put_bit, PutBit              one bit put in: into a word, into a vector; the same as facts
--     first_word, first_bits, FirstBits      the first m bits set: one word, the vector; the same as facts
--     or_below, no_bit, NoBit                the first words joined; whether no bit of them is set; no bit is set
use Rattle.std.specs.Prelude.{◌≡◌, Bool, true, false, ◌||◌, List, ℕ, zero, suc, ◌+◌, ◌-◌, ◌*◌, ◌/◌, ◌%◌, ◌^◌, ◌≤◌, ◌<◌, min, get_or, set, eqb}
use Rattle.std.specs.Int.Bits.{bit_or}
use Rattle.lists.specs.ByPlace.{list_of}

-- How many bits a machine word has.
abbrev pub word_bits : ℕ
word_bits = 64

-- A vector is a list of machine words: each word is below 2^word_bits.
pub record Vector (ws : List ℕ) : Type 0 where
  pub word_lt : (w : ℕ) → get_or ws w 0 < 2 ^ word_bits

-- The word count of m bits: the fewest words that have room for them.
abbrev pub word_count : ℕ → ℕ
word_count m = (m + (word_bits - 1)) / word_bits

-- Bit j of a word, 0 or 1, counted from its lowest.
unfoldable pub bit : ℕ → ℕ → ℕ
bit x j = x / 2 ^ j % 2

-- Whether bit i of a vector is set: it is bit i mod 64 of word i / 64.
unfoldable pub is_set : List ℕ → ℕ → Bool
is_set ws i = eqb (bit (get_or ws (i / word_bits) 0) (i % word_bits)) 1

-- A word with the bit b put in at place j: `x | b << j`.
abbrev pub put_word : ℕ → ℕ → ℕ → ℕ
put_word x j b = bit_or x (b * 2 ^ j % 2 ^ word_bits)

-- A vector with the bit b put in at place i.
unfoldable pub put_bit : List ℕ → ℕ → ℕ → List ℕ
put_bit ws i b = set ws (i / word_bits) (put_word (get_or ws (i / word_bits) 0) (i % word_bits) b)

-- The bit b is put in at place i: that bit is now set if it was set or if b is 1, and no other bit has changed.
pub record PutBit (old : List ℕ) (i b : ℕ) (new : List ℕ) : Type 0 where
  pub there : is_set new i ≡ (is_set old i || eqb b 1)
  pub others : (p : ℕ) → (p ≡ i → ⊥) → is_set new p ≡ is_set old p

-- Word w of the vector whose first m bits are set: its lowest m − 64·w bits are set (none if m is at most 64·w, and at most all 64).
unfoldable pub first_word : ℕ → ℕ → ℕ
first_word m w = 2 ^ min word_bits (m - word_bits * w) - 1

-- The vector of `count` words whose first m bits are set.
unfoldable pub first_bits : ℕ → ℕ → List ℕ
first_bits m count = list_of count (first_word m)

-- The first m bits are set, and no other.
pub record FirstBits (m : ℕ) (ws : List ℕ) : Type 0 where
  pub low : (i : ℕ) → i < m → is_set ws i ≡ true
  pub rest : (i : ℕ) → m ≤ i → is_set ws i ≡ false

-- No bit is set.
pub record NoBit (ws : List ℕ) : Type 0 where
  pub none : (i : ℕ) → is_set ws i ≡ false

-- The first `count` words of a vector, joined by `|`.
unfoldable pub or_below : List ℕ → ℕ → ℕ
or_below ws zero = 0
or_below ws (suc count) = bit_or (or_below ws count) (get_or ws count 0)

-- Whether no bit of the first `count` words is set: joined by `|` they are 0.
unfoldable pub no_bit : List ℕ → ℕ → Bool
no_bit ws count = eqb (or_below ws count) 0
