-- What the slots and the kept words are, for every ring. Each ring place sets one bit of one word, that of its part and code. So at most m words are not 0
-- (proofs/FewWords.antt), and 256 words are room for all of them.
-- Up to 64 edges there is one part. Its words are kept by code, and no slot is read.
-- With more edges the slot of a part and a code is the first place of the part that has the code. Their word is kept at the slot; in the last part one further on. If
-- the part lacks the code, the slot is a place outside the part, and leads to the empty word. A slot is a byte, and a byte plus 1 is at most 256: there is a word for
-- each, so reading a vector needs no test.
-- Most definitions take a number n: only the ring's first n places count.
--     slot_count, kept_count                  how many slots and kept words there are
--     has_code                               whether a place has the code
--     lowest_place, no_slot, no_slots, slot_of  the slot of part and code
--     word_where, part_word                   the word of part and code
--     kept_place, place_word, kept_word        the place whose word is kept at i; the word kept for a place; the word kept at i
--     counted_places, slot_for, kept_at        how many places count; the slot and the word at each place of the arrays, for every ring
--     slots_for, kept_for                     both arrays, for every ring
--     Occurrences                           the contract of `hold`
--     IsCleared                               slots and words before any place is put in
--     not_zero                               how many words are not 0
use Rattle.std.specs.Prelude.{◌≡◌, Bool, cond, ◌&&◌, List, [], ◌∷◌, ℕ, zero, suc, ◌+◌, ◌-◌, ◌*◌, ◌/◌, ◌%◌, min, length, get_or, take, replicate, ltb, leb, eqb}
use Rattle.lists.specs.ByPlace.{list_of}
use Rattle.vectors.specs.Bits.{word_bits, word_count, put_word}
use Rattle.vectors.specs.ByValue.{vector_bits}
use Rattle.occurrences.specs.declared.table.EdgeVectors.{EdgeVectors}
use Rattle.occurrences.specs.EdgeVectors.{byte_codes, last_part, empty_word, OccurrenceTable}

-- How many slots there are: one for each part and code.
abbrev pub slot_count : ℕ
slot_count = byte_codes * suc last_part

-- How many words the array of kept words has: one for each of 256 places, and one more.
abbrev pub kept_count : ℕ
kept_count = word_bits * suc last_part + 1

-- Whether place q is one of the ring's first n places and has the code.
unfoldable pub has_code : List ℕ → ℕ → ℕ → ℕ → Bool
has_code ring n code q = ltb q n && eqb (get_or ring q 0) code

-- The lowest of the `count` places from `from` on that passes the test; `none` if none does.
unfoldable pub lowest_place : (ℕ → Bool) → ℕ → ℕ → ℕ → ℕ
lowest_place test none from zero = none
lowest_place test none from (suc count) =
    let later : ℕ = lowest_place test none (suc from) count in
    cond (test from) from later

-- The slot of a code that part w lacks: the place of the empty word; in the last part the place before it. It is no place of part w.
unfoldable pub no_slot : ℕ → ℕ
no_slot w = cond (ltb w last_part) empty_word (empty_word - 1)

-- The slots before any place is put in: every part lacks every code.
unfoldable pub no_slots : List ℕ
no_slots = list_of slot_count (λ i. no_slot (i / byte_codes))

-- The slot of a code in part w: the first place of the part that has the code; `no_slot w` if there is none.
unfoldable pub slot_of : List ℕ → ℕ → ℕ → ℕ → ℕ
slot_of ring n w code = lowest_place (has_code ring n code) (no_slot w) (word_bits * w) word_bits

-- The word whose bit j is set exactly when j is below `count` and passes the test, for a count of at most 64.
unfoldable pub word_where : (ℕ → Bool) → ℕ → ℕ
word_where test zero = 0
word_where test (suc count) = put_word (word_where test count) count (cond (test count) 1 0)

-- Word w of the code's occurrence vector: bit j, for j below 64, is set exactly when place 64·w + j is one of the first n and has the code.
unfoldable pub part_word : List ℕ → ℕ → ℕ → ℕ → ℕ
part_word ring n w code = word_where (λ j. has_code ring n code (word_bits * w + j)) word_bits

-- The ring place whose word is kept at i: i, or, past the empty word, i − 1. (The empty word has no place; `kept_word` asks for it first.)
unfoldable pub kept_place : ℕ → ℕ
kept_place i = cond (ltb i empty_word) i (i - 1)

-- The word that is kept for ring place p: if p is the slot of its own part and code, their word; if not, 0.
unfoldable pub place_word : List ℕ → ℕ → ℕ → ℕ
place_word ring n p =
    let w : ℕ = p / word_bits in
    let code : ℕ = get_or ring p 0 in
    let word : ℕ = part_word ring n w code in
    cond (eqb (slot_of ring n w code) p) word 0

-- The kept word at i. The empty word is 0.
unfoldable pub kept_word : List ℕ → ℕ → ℕ → ℕ
kept_word ring n i =
    let word : ℕ = place_word ring n (kept_place i) in
    cond (eqb i empty_word) 0 word

-- How many places of a ring count: all, but at most 256.
abbrev pub counted_places : List ℕ → ℕ
counted_places ring = min (length ring) (word_bits * suc last_part)

-- The slot at place i of the slots. Up to 64 edges it is that of a code that the part lacks.
unfoldable pub slot_for : List ℕ → ℕ → ℕ
slot_for ring i =
    let none : ℕ = no_slot (i / byte_codes) in
    let slot : ℕ = slot_of ring (counted_places ring) (i / byte_codes) (i % byte_codes) in
    cond (leb (length ring) word_bits) none slot

-- The word at place i of the kept words. Up to 64 edges it is that of code i.
unfoldable pub kept_at : List ℕ → ℕ → ℕ
kept_at ring i =
    let whole : ℕ = part_word ring (counted_places ring) 0 i in
    let word : ℕ = kept_word ring (counted_places ring) i in
    cond (leb (length ring) word_bits) whole word

-- The slots of a ring.
unfoldable pub slots_for : List ℕ → List ℕ
slots_for ring = list_of slot_count (slot_for ring)

-- The kept words of a ring.
unfoldable pub kept_for : List ℕ → List ℕ
kept_for ring = list_of kept_count (kept_at ring)

-- The contract of `hold`. `each` says what the two arrays mean: one occurrence vector for each edge code. `slots_are` and `kept_are` fix every slot and every
-- word. If the ring has more edges than a vector has bits, only the first `vector_bits` edges count.
pub record Occurrences (ring : List ℕ) (table : EdgeVectors) : Type 0 where
  pub each : OccurrenceTable (take vector_bits ring) (word_count (length ring)) table
  pub slots_are : table.slots ≡ slots_for ring
  pub kept_are : table.kept ≡ kept_for ring

-- What `clear` writes. No place counts yet: every part lacks every code, and every word is 0.
pub record IsCleared (table : EdgeVectors) : Type 0 where
  pub slots_are : table.slots ≡ no_slots
  pub kept_are : table.kept ≡ replicate kept_count 0

-- How many words of a list are not 0.
unfoldable pub not_zero : List ℕ → ℕ
not_zero [] = 0
not_zero (x ∷ xs) = cond (eqb x 0) 0 1 + not_zero xs
