-- The bits of one word under `&`, `|`, `>>`, `<<` and the cut to a width (mod 2^width). Bit j is the lowest binary digit of the word shifted down by j, so each
-- law is the kit's law for the shift, and then one for lowest digits. The width is an argument everywhere. `bits_none` and `bits_unique` say that a word is
-- determined by its bits, by induction on binary digits; the last law compares two words by them.
use mathlib.Core.Path.{◌≡◌, refl, sym, ◌∙◌}
use mathlib.Core.Logic.{dite}
use Prim.Native.Nat.{ℕ, suc, ◌+◌, ◌-◌, ◌*◌, ◌/◌, ◌%◌, ◌^◌, ◌≤◌, ◌<◌, min, max}
use native.Mathlib.Nat.{mod-lt, min-le_left, max-le, div-eq_of_lt, mul_assoc, div-one, lt_of_lt_of_le, mod-eq_of_lt, add-zero}
use native.Mathlib.Decide.{dec_lt}
use native.Mathlib.Numerals.{add-one}
use native.Mathlib.Omega.{arith}
use lib.Bits.{bit_and, bit_or, and_step, or_step, and_shr, or_shr, shifted_even}
use lib.Pow.{pow_mono, pow_pos, pow-add, shr-shr, shl-shr, field, mod-mod-pow, high, ones_lt, ones_split}
use lib.Arith.{digits_mod, bin_ind}
use Rattle.vectors.specs.Bits.{bit}

-- A bit is 0 or 1.
pub bit_lt : (x j : ℕ) → bit x j < 2
unfolding bit
bit_lt x j = mod-lt (x / 2 ^ j) (omega arith)

-- The lowest bit is the word's remainder by 2.
bit_first : (x : ℕ) → bit x 0 ≡ x % 2
unfolding bit
bit_first x = rw (div-one x) refl

-- The lowest bit of `a & b` is the smaller of the two lowest bits.
and_low : (a b : ℕ) → bit_and a b % 2 ≡ min (a % 2) (b % 2)
and_low a b =
    rw (and_step a b) (digits_mod (bit_and (a / 2) (b / 2)) (omega (arith, min-le_left (a % 2) (b % 2), mod-lt a {m = 2} (omega arith))))

-- The lowest bit of `a | b` is the greater of the two lowest bits.
or_low : (a b : ℕ) → bit_or a b % 2 ≡ max (a % 2) (b % 2)
or_low a b =
    let a_lt : a % 2 < 2 = mod-lt a (omega arith) in
    let b_lt : b % 2 < 2 = mod-lt b (omega arith) in
    rw (or_step a b) (digits_mod (bit_or (a / 2) (b / 2)) (omega (arith, max-le {a = a % 2} {b = b % 2} {k = 1} (omega arith) (omega arith))))

-- A bit of `a & b` is the smaller of the two bits.
pub bit_and_lem : (a b j : ℕ) → bit (bit_and a b) j ≡ min (bit a j) (bit b j)
unfolding bit
bit_and_lem a b j = rw (and_shr a b j) (and_low (a / 2 ^ j) (b / 2 ^ j))

-- A bit of `a | b` is the greater of the two bits.
pub bit_or_lem : (a b j : ℕ) → bit (bit_or a b) j ≡ max (bit a j) (bit b j)
unfolding bit
bit_or_lem a b j = rw (or_shr a b j) (or_low (a / 2 ^ j) (b / 2 ^ j))

-- A bit of `x >> s` is the bit s places higher.
pub bit_shr : (x s j : ℕ) → bit (x / 2 ^ s) j ≡ bit x (s + j)
unfolding bit
bit_shr x s j = rw (shr-shr x s j)

-- No bit below s is set in `x · 2^s`.
pub bit_shl_low : (x s j : ℕ) → j < s → bit (x * 2 ^ s) j ≡ 0
unfolding bit
bit_shl_low x s j h =
    let e : suc (s - suc j) + j ≡ s = omega arith in
    rw (sym e)
    (rw (pow-add 2 (suc (s - suc j)) j, sym (mul_assoc x (2 ^ suc (s - suc j)) (2 ^ j)), shl-shr (x * 2 ^ suc (s - suc j)) j)
    (shifted_even x (s - suc j)))

-- Bit s + j of `x · 2^s` is bit j of x.
pub bit_shl_high : (x s j : ℕ) → bit (x * 2 ^ s) (s + j) ≡ bit x j
unfolding bit
bit_shl_high x s j = rw (sym (shr-shr (x * 2 ^ s) s j)) (rw (shl-shr x s) refl)

-- The cut to a width of 1 or more leaves the lowest bit.
mod_low : (x j : ℕ) → x % 2 ^ suc j % 2 ≡ x % 2
mod_low x j = rw (sym (add-one j)) (mod-mod-pow x j 1)

-- The cut to a width leaves the bits below it.
pub bit_mod : (x j width : ℕ) → j < width → bit (x % 2 ^ width) j ≡ bit x j
unfolding bit
bit_mod x j width h =
    let e : suc (width - suc j) + j ≡ width = omega arith in
    rw (sym e) (rw (field x (suc (width - suc j)) j) (mod_low (x / 2 ^ j) (width - suc j)))

-- A number below 2^width has no bit from that width on.
pub bit_high : (x width j : ℕ) → x < 2 ^ width → width ≤ j → bit x j ≡ 0
unfolding bit
bit_high x width j h l = rw (div-eq_of_lt (lt_of_lt_of_le h (pow_mono {i = width} {j = j} l))) refl

-- Zero has no bit set.
pub bit_zero : (j : ℕ) → bit 0 j ≡ 0
bit_zero j = bit_high 0 0 j (pow_pos 0) (omega arith)

-- In 2^s − 1 the lowest bit is set, for s of 1 or more.
ones_odd : (s : ℕ) → (2 ^ suc s - 1) % 2 ≡ 1
ones_odd s = rw (sym (add-one s)) (rw (ones_split s 1) (digits_mod (2 ^ s - 1) {m = 2} {r = 1} (omega arith)))

-- The bits below s of 2^s − 1 are all set.
pub bit_ones : (s j : ℕ) → j < s → bit (2 ^ s - 1) j ≡ 1
unfolding bit
bit_ones s j h =
    let e : suc (s - suc j) + j ≡ s = omega arith in
    rw (sym e) (rw (ones_split (suc (s - suc j)) j, high (2 ^ suc (s - suc j) - 1) j (ones_lt j)) (ones_odd (s - suc j)))

-- The bits of 2^s − 1 from s on are all 0.
pub bit_ones_past : (s j : ℕ) → s ≤ j → bit (2 ^ s - 1) j ≡ 0
bit_ones_past s j h = bit_high (2 ^ s - 1) s j (ones_lt s) h

-- One bit b, shifted up by s, is b at place s.
pub bit_lone_there : (b s : ℕ) → b < 2 → bit (b * 2 ^ s) s ≡ b
bit_lone_there b s h = rw (add-zero s) at (bit_shl_high b s 0) ∙ (bit_first b ∙ mod-eq_of_lt h)

-- One bit b, shifted up by s, is 0 at every other place.
pub bit_lone_else : (b s j : ℕ) → b < 2 → (j ≡ s → ⊥) → bit (b * 2 ^ s) j ≡ 0
bit_lone_else b s j h other = dite (dec_lt j s) (bit_shl_low b s j)
    (λ l. let e : s + suc (j - suc s) ≡ j = omega (arith, l, other) in
    (rw e at (bit_shl_high b s (suc (j - suc s)))) ∙ bit_high b 1 (suc (j - suc s)) h (omega arith))

-- A word with no bit set is 0.
pub bits_none : (x : ℕ) → ((j : ℕ) → bit x j ≡ 0) → x ≡ 0
bits_none = bin_ind (λ (x : ℕ). ((j : ℕ) → bit x j ≡ 0) → x ≡ 0) (λ none. refl)
    (λ x halves_none none.
    let half : x / 2 ≡ 0 = halves_none (λ j. bit_shr x 1 j ∙ none (1 + j)) in
    let low : x % 2 ≡ 0 = sym (bit_first x) ∙ none 0 in
    omega arith)

-- Two words with the same bits are equal.
pub bits_unique : (x y : ℕ) → ((j : ℕ) → bit x j ≡ bit y j) → x ≡ y
bits_unique = bin_ind (λ (x : ℕ). (y : ℕ) → ((j : ℕ) → bit x j ≡ bit y j) → x ≡ y)
    (λ y same. sym (bits_none y (λ j. sym (same j) ∙ bit_zero j)))
    (λ x halves_unique y same.
    let halves : x / 2 ≡ y / 2 = halves_unique (y / 2) (λ j. bit_shr x 1 j ∙ (same (1 + j) ∙ sym (bit_shr y 1 j))) in
    let lows : x % 2 ≡ y % 2 = sym (bit_first x) ∙ (same 0 ∙ bit_first y) in
    omega arith)

-- In `(a | x << s) & o`, if o has no bit above s, only the lowest bit of x counts.
pub and_first_only : (a x o s width : ℕ) → s < width → ((j : ℕ) → s < j → bit o j ≡ 0)
    → bit_and (bit_or a (x * 2 ^ s % 2 ^ width)) o ≡ bit_and (bit_or a (bit x 0 * 2 ^ s % 2 ^ width)) o
and_first_only a x o s width inside none = bits_unique _ _ (λ j. dite (dec_lt s j) (above j) (λ low. within j (omega (arith, low))))
  where
    -- bit j of the whole, for whatever is shifted up
    bit_whole : (y j : ℕ) → bit (bit_and (bit_or a (y * 2 ^ s % 2 ^ width)) o) j ≡ min (max (bit a j) (bit (y * 2 ^ s % 2 ^ width) j)) (bit o j)
    bit_whole y j = bit_and_lem (bit_or a (y * 2 ^ s % 2 ^ width)) o j ∙ rw (bit_or_lem a (y * 2 ^ s % 2 ^ width) j) refl

    -- above s, o has no bit
    above : (j : ℕ) → s < j → bit (bit_and (bit_or a (x * 2 ^ s % 2 ^ width)) o) j ≡ bit (bit_and (bit_or a (bit x 0 * 2 ^ s % 2 ^ width)) o) j
    above j h = bit_whole x j ∙ (rw (none j h) (omega arith) ∙ sym (bit_whole (bit x 0) j))

    -- up to s, only the lowest bit comes in, at s
    shifted_same : (j : ℕ) → j ≤ s → bit (x * 2 ^ s % 2 ^ width) j ≡ bit (bit x 0 * 2 ^ s % 2 ^ width) j
    shifted_same j h = bit_mod (x * 2 ^ s) j width (omega arith) ∙ (dite (dec_lt j s)
        (λ below. bit_shl_low x s j below ∙ sym (bit_shl_low (bit x 0) s j below))
        (λ at. let e : j ≡ s = omega (arith, at) in rw e (rw (add-zero s) at (bit_shl_high x s 0) ∙ sym (bit_lone_there (bit x 0) s (bit_lt x 0))))
        ∙ sym (bit_mod (bit x 0 * 2 ^ s) j width (omega arith)))

    within : (j : ℕ) → j ≤ s → bit (bit_and (bit_or a (x * 2 ^ s % 2 ^ width)) o) j ≡ bit (bit_and (bit_or a (bit x 0 * 2 ^ s % 2 ^ width)) o) j
    within j h = bit_whole x j ∙ (rw (shifted_same j h) refl ∙ sym (bit_whole (bit x 0) j))
