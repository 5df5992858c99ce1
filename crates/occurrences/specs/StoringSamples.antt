-- The arrays of some rings, worked out by hand: for each kind of ring one table and one claim, which antt computes. A row gives a ring and an edge code;
-- then the code's slot in each of the four parts, and the vector that is read for the code. The slot of a code that a part lacks is 192, in the last part 191. Up to
-- 64 edges every slot is such a one.
use Rattle.std.specs.Prelude.{◌≡◌, refl, cond, List, [], ◌∷◌, map, ℕ, suc, ◌+◌, ◌*◌, ◌%◌, leb, eqb, length}
use Rattle.lists.specs.ByPlace.{list_of}
use Rattle.vectors.specs.Bits.{word_count}
use Rattle.occurrences.specs.EdgeVectors.{byte_codes, last_part, word_place}
use Rattle.occurrences.specs.Storing.{has_code, lowest_place, no_slot, slot_of, word_where, part_word, kept_place, place_word, kept_word, slot_for, kept_at}

-- A row of the table.
pub record StoringSample : Type 0 where
  pub ring : List ℕ
  pub code : ℕ
  pub slots : List ℕ
  pub vector : List ℕ

-- The row with its slots and its vector read off both arrays, as `word_of` reads them, but entry by entry: a whole array takes too long to compute.
unfoldable pub computed_row : StoringSample → StoringSample
computed_row s =
    let slot : ℕ → ℕ = λ w. slot_for s.ring (s.code + w * byte_codes) in
    let whole : ℕ → ℕ = λ w. cond (eqb w 0) (kept_at s.ring s.code) 0 in
    let parted : ℕ → ℕ = λ w. kept_at s.ring (word_place w (slot w)) in
    record {
      ring = s.ring;
      code = s.code;
      slots = list_of (suc last_part) slot;
      vector = list_of (suc last_part) (λ w. cond (leb (word_count (length s.ring)) 1) (whole w) (parted w));
    }

-- The word with every bit set.
abbrev full : ℕ
full = 0xffff_ffff_ffff_ffff

-- 256 different codes: place p has the code p.
unfoldable pub different : List ℕ
different = list_of 256 (λ p. p)

-- A ring of m edges of code 7.
unfoldable pub sevens : ℕ → List ℕ
sevens m = list_of m (λ p. 7)

-- 256 edges, code 0 and code 254 by turns.
unfoldable pub turns : List ℕ
turns = list_of 256 (λ p. cond (eqb (p % 2) 0) 0 254)

-- Each of 256 different codes has one bit in one word.
abbrev different_rows : List StoringSample
different_rows =
    record { ring = different; code = 0; slots = 0 ∷ 192 ∷ 192 ∷ 191 ∷ []; vector = 1 ∷ 0 ∷ 0 ∷ 0 ∷ [] }
    ∷ record { ring = different; code = 63; slots = 63 ∷ 192 ∷ 192 ∷ 191 ∷ []; vector = 0x8000_0000_0000_0000 ∷ 0 ∷ 0 ∷ 0 ∷ [] }
    ∷ record { ring = different; code = 64; slots = 192 ∷ 64 ∷ 192 ∷ 191 ∷ []; vector = 0 ∷ 1 ∷ 0 ∷ 0 ∷ [] }
    ∷ record { ring = different; code = 191; slots = 192 ∷ 192 ∷ 191 ∷ 191 ∷ []; vector = 0 ∷ 0 ∷ 0x8000_0000_0000_0000 ∷ 0 ∷ [] }
    ∷ record { ring = different; code = 192; slots = 192 ∷ 192 ∷ 192 ∷ 192 ∷ []; vector = 0 ∷ 0 ∷ 0 ∷ 1 ∷ [] }
    ∷ record { ring = different; code = 255; slots = 192 ∷ 192 ∷ 192 ∷ 255 ∷ []; vector = 0 ∷ 0 ∷ 0 ∷ 0x8000_0000_0000_0000 ∷ [] }
    ∷ []

-- Two codes by turns share every part but no word; a code that does not occur has none.
abbrev turns_rows : List StoringSample
turns_rows =
    record { ring = turns; code = 0; slots = 0 ∷ 64 ∷ 128 ∷ 192 ∷ []; vector = 0x5555_5555_5555_5555 ∷ 0x5555_5555_5555_5555 ∷ 0x5555_5555_5555_5555 ∷ 0x5555_5555_5555_5555 ∷ [] }
    ∷ record { ring = turns; code = 254; slots = 1 ∷ 65 ∷ 129 ∷ 193 ∷ []; vector = 0xaaaa_aaaa_aaaa_aaaa ∷ 0xaaaa_aaaa_aaaa_aaaa ∷ 0xaaaa_aaaa_aaaa_aaaa ∷ 0xaaaa_aaaa_aaaa_aaaa ∷ [] }
    ∷ record { ring = turns; code = 1; slots = 192 ∷ 192 ∷ 192 ∷ 191 ∷ []; vector = 0 ∷ 0 ∷ 0 ∷ 0 ∷ [] }
    ∷ record { ring = turns; code = 255; slots = 192 ∷ 192 ∷ 192 ∷ 191 ∷ []; vector = 0 ∷ 0 ∷ 0 ∷ 0 ∷ [] }
    ∷ []

-- One code only, for each length around 64, 128, 192 and 256. Of 257 edges the last does not count.
abbrev sevens_rows : List StoringSample
sevens_rows =
    record { ring = []; code = 7; slots = 192 ∷ 192 ∷ 192 ∷ 191 ∷ []; vector = 0 ∷ 0 ∷ 0 ∷ 0 ∷ [] }
    ∷ record { ring = sevens 1; code = 7; slots = 192 ∷ 192 ∷ 192 ∷ 191 ∷ []; vector = 1 ∷ 0 ∷ 0 ∷ 0 ∷ [] }
    ∷ record { ring = sevens 63; code = 7; slots = 192 ∷ 192 ∷ 192 ∷ 191 ∷ []; vector = 0x7fff_ffff_ffff_ffff ∷ 0 ∷ 0 ∷ 0 ∷ [] }
    ∷ record { ring = sevens 64; code = 7; slots = 192 ∷ 192 ∷ 192 ∷ 191 ∷ []; vector = full ∷ 0 ∷ 0 ∷ 0 ∷ [] }
    ∷ record { ring = sevens 65; code = 7; slots = 0 ∷ 64 ∷ 192 ∷ 191 ∷ []; vector = full ∷ 1 ∷ 0 ∷ 0 ∷ [] }
    ∷ record { ring = sevens 127; code = 7; slots = 0 ∷ 64 ∷ 192 ∷ 191 ∷ []; vector = full ∷ 0x7fff_ffff_ffff_ffff ∷ 0 ∷ 0 ∷ [] }
    ∷ record { ring = sevens 128; code = 7; slots = 0 ∷ 64 ∷ 192 ∷ 191 ∷ []; vector = full ∷ full ∷ 0 ∷ 0 ∷ [] }
    ∷ record { ring = sevens 129; code = 7; slots = 0 ∷ 64 ∷ 128 ∷ 191 ∷ []; vector = full ∷ full ∷ 1 ∷ 0 ∷ [] }
    ∷ record { ring = sevens 191; code = 7; slots = 0 ∷ 64 ∷ 128 ∷ 191 ∷ []; vector = full ∷ full ∷ 0x7fff_ffff_ffff_ffff ∷ 0 ∷ [] }
    ∷ record { ring = sevens 192; code = 7; slots = 0 ∷ 64 ∷ 128 ∷ 191 ∷ []; vector = full ∷ full ∷ full ∷ 0 ∷ [] }
    ∷ record { ring = sevens 193; code = 7; slots = 0 ∷ 64 ∷ 128 ∷ 192 ∷ []; vector = full ∷ full ∷ full ∷ 1 ∷ [] }
    ∷ record { ring = sevens 255; code = 7; slots = 0 ∷ 64 ∷ 128 ∷ 192 ∷ []; vector = full ∷ full ∷ full ∷ 0x7fff_ffff_ffff_ffff ∷ [] }
    ∷ record { ring = sevens 256; code = 7; slots = 0 ∷ 64 ∷ 128 ∷ 192 ∷ []; vector = full ∷ full ∷ full ∷ full ∷ [] }
    ∷ record { ring = sevens 257; code = 7; slots = 0 ∷ 64 ∷ 128 ∷ 192 ∷ []; vector = full ∷ full ∷ full ∷ full ∷ [] }
    ∷ record { ring = sevens 256; code = 8; slots = 192 ∷ 192 ∷ 192 ∷ 191 ∷ []; vector = 0 ∷ 0 ∷ 0 ∷ 0 ∷ [] }
    ∷ []

-- Computed from the definitions, every row of 256 different codes is right.
pub all_different_right : map computed_row different_rows ≡ different_rows
unfolding computed_row different list_of has_code lowest_place no_slot slot_of word_where part_word kept_place place_word kept_word slot_for kept_at word_place
all_different_right = refl

-- Every row of two codes by turns is right.
pub all_turns_right : map computed_row turns_rows ≡ turns_rows
unfolding computed_row turns list_of has_code lowest_place no_slot slot_of word_where part_word kept_place place_word kept_word slot_for kept_at word_place
all_turns_right = refl

-- Every row of one code is right.
pub all_sevens_right : map computed_row sevens_rows ≡ sevens_rows
unfolding computed_row sevens list_of has_code lowest_place no_slot slot_of word_where part_word kept_place place_word kept_word slot_for kept_at word_place
all_sevens_right = refl
