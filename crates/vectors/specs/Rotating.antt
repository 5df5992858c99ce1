-- A vector of m bits rotated by one place, in words: shifted down by one with the carry between words, and what was bit 0 put in at bit m − 1.
-- m need not be a multiple of the word's width. `rotated` satisfies `Rotated` if m is at least 1, the words have room for m bits and the
-- bits from m on are 0 (`rotated_is` of proofs/WrapToLastBit.antt).
--     shifted_word, shifted, Shifted      down by one        WithinBits      no bit from m on
--     rotated, Rotated                   rotated by one place
use Rattle.std.specs.Prelude.{◌≡◌, false, List, ℕ, ◌+◌, ◌-◌, ◌*◌, ◌/◌, ◌%◌, ◌^◌, ◌≤◌, ◌<◌, length, get_or}
use Rattle.std.specs.Int.Bits.{bit_or}
use Rattle.vectors.specs.Bits.{word_bits, bit, is_set, put_bit}
use Rattle.lists.specs.ByPlace.{list_of}

-- A word shifted down by one, with the next word's lowest bit coming in at its top: `x >> 1 | next << 63`.
abbrev pub shifted_word : ℕ → ℕ → ℕ
shifted_word x next = bit_or (x / 2 ^ 1) (next * 2 ^ (word_bits - 1) % 2 ^ word_bits)

-- A vector shifted down by one, word by word.
unfoldable pub shifted : List ℕ → List ℕ
shifted ws = list_of (length ws) (λ w. shifted_word (get_or ws w 0) (get_or ws (w + 1) 0))

-- Shifted down by one: each bit is what the next higher one was.
pub record Shifted (old new : List ℕ) : Type 0 where
  pub each : (i : ℕ) → is_set new i ≡ is_set old (i + 1)

-- No bit from m on is set: the vector has m bits.
pub record WithinBits (m : ℕ) (ws : List ℕ) : Type 0 where
  pub rest : (i : ℕ) → m ≤ i → is_set ws i ≡ false

-- A vector of m bits rotated by one place: shifted down by one, and what was bit 0 put in at bit m − 1.
unfoldable pub rotated : ℕ → List ℕ → List ℕ
rotated m ws = put_bit (shifted ws) (m - 1) (bit (get_or ws 0 0) 0)

-- Rotated by one place: bit r is what bit (r + 1) mod m was, and no bit from m on is set.
pub record Rotated (m : ℕ) (old new : List ℕ) : Type 0 where
  pub next : (r : ℕ) → r < m → is_set new r ≡ is_set old ((r + 1) % m)
  pub rest : (i : ℕ) → m ≤ i → is_set new i ≡ false
