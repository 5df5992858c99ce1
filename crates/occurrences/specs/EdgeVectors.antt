-- The occurrence vectors of a ring's edge codes, and how slots and kept words hold them. Rule 2: "003 decides the fit with one occurrence vector of m bits per edge code, rotated
-- at each edge". The definitions take any two arrays; `Storing` says which arrays are a ring's.
--     Occurs     the occurrence vector of an edge code
--     byte_codes, last_part     the number of codes that a byte can be; the last part of a ring's places
--     EdgeVectors, empty_word, word_place, whole_word, slot_word, word_of     how the vectors of all codes are stored: slots and kept words
--     vector_at, OccurrenceTable     the vector of a code; one for each code, 0 to 255
-- `vector_of` returns `vector_at`.
use Rattle.std.specs.Prelude.{◌≡◌, false, cond, List, ℕ, suc, ◌+◌, ◌-◌, ◌*◌, ◌≤◌, ◌<◌, length, get_or, ltb, leb, eqb}
use Rattle.lists.specs.ByPlace.{list_of}
use Rattle.vectors.specs.Bits.{word_bits, is_set}
use Rattle.vectors.specs.ByValue.{vector_words}
-- The code's struct of slots and kept words. "Hold vectors only for codes that occur in the ring" (document 02, ticket 5): of vectors with several words only the words
-- that have a bit are kept, and a slot for each part and code leads to the kept word.
use Rattle.occurrences.specs.declared.table.EdgeVectors.{EdgeVectors}

-- The occurrence vector of an edge code: bit r is set exactly when the ring has that code at place r, and no bit from m on is set.
pub record Occurs (ring : List ℕ) (code : ℕ) (ws : List ℕ) : Type 0 where
  pub each : (r : ℕ) → r < length ring → is_set ws r ≡ eqb (get_or ring r 0) code
  pub rest : (i : ℕ) → length ring ≤ i → is_set ws i ≡ false

-- How many codes a table has a vector for: "every byte value 0 to 255". (By document 02, ticket 2, 255 is a mark. An accepted ring
-- holds none, so no bit is set in the vector of 255.)
abbrev pub byte_codes : ℕ
byte_codes = 256

-- The number of the last part. A ring's places fall into parts of 64, one for each word of a vector: part w has the places 64·w to 64·w + 63.
abbrev pub last_part : ℕ
last_part = vector_words - 1

-- The place of the empty word: behind the words of all parts but the last. Where vectors have several words, the word there is 0.
abbrev pub empty_word : ℕ
empty_word = word_bits * last_part

-- The place of the kept word that a slot of part w leads to: the slot; in the last part one further on, past the empty word.
unfoldable pub word_place : ℕ → ℕ → ℕ
word_place w slot = cond (ltb w last_part) slot (slot + 1)

-- The word of an edge code in part w, where vectors have one word: it is kept by code.
unfoldable pub whole_word : EdgeVectors → ℕ → ℕ → ℕ
whole_word table code w = cond (eqb w 0) (get_or table.kept code 0) 0

-- The word of an edge code in part w, where vectors have several words: the slot of code and part, which stands at code + 256·w, leads to it.
unfoldable pub slot_word : EdgeVectors → ℕ → ℕ → ℕ
slot_word table code w = get_or table.kept (word_place w (get_or table.slots (code + w * byte_codes) 0)) 0

-- The word of an edge code in part w, where vectors have `count` words. A count of 0 is taken as 1.
unfoldable pub word_of : EdgeVectors → ℕ → ℕ → ℕ → ℕ
word_of table code count w =
    let whole : ℕ = whole_word table code w in
    let parted : ℕ = slot_word table code w in
    cond (leb count 1) whole parted

-- The vector of an edge code, where vectors have `count` words: four words, whatever the count. For a number above 255 no bit is set.
unfoldable pub vector_at : EdgeVectors → ℕ → ℕ → List ℕ
vector_at table code count = list_of (suc last_part) (λ w. cond (ltb code byte_codes) (word_of table code count w) 0)

-- "one occurrence vector of m bits per edge code", where vectors have `count` words.
pub record OccurrenceTable (ring : List ℕ) (count : ℕ) (table : EdgeVectors) : Type 0 where
  pub each : (code : ℕ) → Occurs ring code (vector_at table code count)
