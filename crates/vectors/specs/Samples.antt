-- Vectors of one to four words, worked out by hand: one table of named rows under one claim, which antt computes. Then calls with unusual counts.
-- A row gives m, the held vector and an edge's occurrence vector; then the held vector rotated and the places of its set bits, the held vector
-- grown and whether no bit of it is set, and the vector of the same word count with its first m bits set.
use Rattle.std.specs.Prelude.{◌≡◌, refl, Bool, true, false, cond, List, [], ◌∷◌, ◌++◌, map, ℕ, zero, suc, length}
use Rattle.vectors.specs.Bits.{bit, is_set, put_bit, first_word, first_bits, or_below, no_bit}
use Rattle.lists.specs.ByPlace.{list_of}
use Rattle.vectors.specs.Rotating.{shifted, rotated}
use Rattle.vectors.specs.Holding.{both, grown}
use Rattle.vectors.specs.ByValue.{carry_into, grown_word, grown_words}

-- A row of the table.
pub record VectorSample : Type 0 where
  pub m : ℕ
  pub held : List ℕ
  pub occurs : List ℕ
  pub rotated : List ℕ
  pub places : List ℕ
  pub grown : List ℕ
  pub no_bit : Bool
  pub first_bits : List ℕ

-- The places below n whose bits are set, rising.
unfoldable pub places_below : List ℕ → ℕ → List ℕ
places_below ws zero = []
places_below ws (suc n) = places_below ws n ++ cond (is_set ws n) (n ∷ []) []

-- The row with its results computed from the definitions.
unfoldable pub computed : VectorSample → VectorSample
computed s = record {
  m = s.m;
  held = s.held;
  occurs = s.occurs;
  rotated = rotated s.m s.held;
  places = places_below (rotated s.m s.held) s.m;
  grown = grown s.m s.occurs s.held;
  no_bit = no_bit (grown s.m s.occurs s.held) (length s.held);
  first_bits = first_bits s.m (length s.held);
}

-- One bit: it stays where it is.
abbrev one_bit : VectorSample
one_bit = record { m = 1; held = 1 ∷ []; occurs = 0 ∷ []; rotated = 1 ∷ []; places = 0 ∷ []; grown = 0 ∷ []; no_bit = true; first_bits = 1 ∷ [] }

-- Five bits in one word: bits 0, 1 and 4 become bits 4, 0 and 3.
abbrev part_of_a_word : VectorSample
part_of_a_word = record {
  m = 5;
  held = 0b10011 ∷ [];
  occurs = 0b01010 ∷ [];
  rotated = 0b11001 ∷ [];
  places = 0 ∷ 3 ∷ 4 ∷ [];
  grown = 0b01000 ∷ [];
  no_bit = false;
  first_bits = 0b11111 ∷ [];
}

-- A whole word: bit 0 becomes bit 63.
abbrev whole_word : VectorSample
whole_word = record {
  m = 64;
  held = 1 ∷ [];
  occurs = 0x7fff_ffff_ffff_ffff ∷ [];
  rotated = 0x8000_0000_0000_0000 ∷ [];
  places = 63 ∷ [];
  grown = 0 ∷ [];
  no_bit = true;
  first_bits = 0xffff_ffff_ffff_ffff ∷ [];
}

-- Seventy bits in two words: bits 0, 64 and 69 become bits 69, 63 and 68. Bit 64 crosses from one word to the other.
abbrev carry_between_words : VectorSample
carry_between_words = record {
  m = 70;
  held = 1 ∷ 0x21 ∷ [];
  occurs = 0 ∷ 0x10 ∷ [];
  rotated = 0x8000_0000_0000_0000 ∷ 0x30 ∷ [];
  places = 63 ∷ 68 ∷ 69 ∷ [];
  grown = 0 ∷ 0x10 ∷ [];
  no_bit = false;
  first_bits = 0xffff_ffff_ffff_ffff ∷ 0x3f ∷ [];
}

-- 130 bits in three words: bits 64, 128 and 129 become bits 63, 127 and 128.
abbrev three_words : VectorSample
three_words = record {
  m = 130;
  held = 0 ∷ 1 ∷ 3 ∷ [];
  occurs = 0x8000_0000_0000_0000 ∷ 0 ∷ 1 ∷ [];
  rotated = 0x8000_0000_0000_0000 ∷ 0x8000_0000_0000_0000 ∷ 1 ∷ [];
  places = 63 ∷ 127 ∷ 128 ∷ [];
  grown = 0x8000_0000_0000_0000 ∷ 0 ∷ 1 ∷ [];
  no_bit = false;
  first_bits = 0xffff_ffff_ffff_ffff ∷ 0xffff_ffff_ffff_ffff ∷ 3 ∷ [];
}

-- Seventy bits with two words to spare, which stay 0.
abbrev words_to_spare : VectorSample
words_to_spare = record {
  m = 70;
  held = 3 ∷ 0 ∷ 0 ∷ 0 ∷ [];
  occurs = 1 ∷ 0x20 ∷ 0 ∷ 0 ∷ [];
  rotated = 1 ∷ 0x20 ∷ 0 ∷ 0 ∷ [];
  places = 0 ∷ 69 ∷ [];
  grown = 1 ∷ 0x20 ∷ 0 ∷ 0 ∷ [];
  no_bit = false;
  first_bits = 0xffff_ffff_ffff_ffff ∷ 0x3f ∷ 0 ∷ 0 ∷ [];
}

-- The table.
abbrev pub samples : List VectorSample
samples = one_bit ∷ part_of_a_word ∷ whole_word ∷ carry_between_words ∷ three_words ∷ words_to_spare ∷ []

-- Computed from the definitions, every row is right.
pub all_samples_right : map computed samples ≡ samples
unfolding computed places_below rotated shifted put_bit list_of bit is_set both grown or_below no_bit first_bits first_word
all_samples_right = refl

-- The vector with only bit 0 set.
abbrev bit_zero : List ℕ
bit_zero = 1 ∷ 0 ∷ 0 ∷ 0 ∷ []

-- The vector with every bit set.
abbrev every_bit : List ℕ
every_bit = 0xffff_ffff_ffff_ffff ∷ 0xffff_ffff_ffff_ffff ∷ 0xffff_ffff_ffff_ffff ∷ 0xffff_ffff_ffff_ffff ∷ []

-- Five bits with bits 0 and 1 set, grown as the code does it. By an occurrence vector of five bits they become bits 4 and 0. By one that also has bits from 5
-- on, as no ring of five edges gives, bit 5 is set too.
pub bits_past_m_right : grown_words 5 1 (0x1f ∷ 0 ∷ 0 ∷ 0 ∷ []) (3 ∷ 0 ∷ 0 ∷ 0 ∷ []) ∷ grown_words 5 1 every_bit (3 ∷ 0 ∷ 0 ∷ 0 ∷ []) ∷ []
    ≡ (0x11 ∷ 0 ∷ 0 ∷ 0 ∷ []) ∷ (0x31 ∷ 0 ∷ 0 ∷ 0 ∷ []) ∷ []
unfolding grown_words grown_word carry_into list_of
bits_past_m_right = refl

-- Word counts and bit counts that no scan uses: count 0; count 7, which is taken as 4; and m = 0.
pub other_counts_right : grown_words 5 0 every_bit bit_zero ∷ grown_words 256 7 every_bit bit_zero ∷ grown_words 0 1 every_bit bit_zero ∷ []
    ≡ (0 ∷ 0 ∷ 0 ∷ 0 ∷ []) ∷ (0 ∷ 0 ∷ 0 ∷ 0x8000_0000_0000_0000 ∷ []) ∷ (0x8000_0000_0000_0000 ∷ 0 ∷ 0 ∷ 0 ∷ []) ∷ []
unfolding grown_words grown_word carry_into list_of
other_counts_right = refl
