-- The loop of `number_at`: it reads a number byte by byte, high byte first. After `done` bytes the number is the one in these bytes, and below 256^done; so with
-- at most four bytes no turn overflows 32 bits. For more bytes, or bytes that reach past the end, 0 is returned.
use Prim.Native.Nat.{ℕ, ◌+◌, ◌-◌, ◌*◌, ◌^◌, ◌≤◌, ◌<◌}
use mathlib.Core.Path.{◌≡◌, refl, sym, ap, ◌∙◌}
use mathlib.Core.List.{List}
use native.Mathlib.Nat.{pow-suc, pow-le-pow_right}
use native.Mathlib.Numerals.{add-one}
use native.Mathlib.Omega.{arith}
use lib.ListN.{length, get_or, drop}
use Rattle.std.proofs.lemmas.List.{get_or-take}
use lib.Seq.{get_or-drop}
use Rattle.std.specs.List.{slice_range}
use Rattle.fields.specs.Numbers.{number_at, most_number_bytes, IsNumberRead}
use Rattle.fields.proofs.NumberWithin.{number_within_is, number_within_many, number_within_past}

-- The invariant: `number` is the number in the first `done` of `count` bytes.
pub record Numbered (bytes : List ℕ) (at count number done : ℕ) : Type 0 where
  pub turn_le : done ≤ count
  pub is : number ≡ number_at done bytes at
  pub lt : number < 256 ^ done

-- The number in one byte more.
number_at_step : (done : ℕ) (bytes : List ℕ) (at : ℕ) → number_at (done + 1) bytes at ≡ number_at done bytes at * 256 + get_or bytes (at + done) 0
unfolding number_at
number_at_step done bytes at = rw (add-one done)

-- The bytes that are read are those from byte offset `at` on.
pub digit_at : (bytes : List ℕ) {rest digits : List ℕ} (at : ℕ) {count : ℕ} (i : ℕ) → rest ≡ slice_range bytes at (length bytes) → digits ≡ slice_range rest 0 count
    → i < count → at + count ≤ length bytes → get_or digits i 0 ≡ get_or bytes (at + i) 0
digit_at bytes {rest} {digits} at {count} i rest_is digits_is left within =
    ap (λ (l : List ℕ). get_or l i 0) digits_is ∙ get_or-take (count - 0) rest i 0 (omega arith)
    ∙ ap (λ (l : List ℕ). get_or l i 0) rest_is ∙ get_or-take (length bytes - at) (drop at bytes) i 0 (omega arith) ∙ get_or-drop at bytes i 0

module _ (bytes : List ℕ) (at count : ℕ) where
  -- 0 fits any count of bytes.
  zero_fits : 0 < 256 ^ count
  zero_fits = omega (arith, pow-le-pow_right {n = 256} (omega arith) {i = 0} {j = count} (omega arith))

  -- For more than 4 bytes, 0 meets the contract of `number_at`.
  pub number_many : most_number_bytes < count → IsNumberRead bytes at count 0
  number_many many = record { is = sym (number_within_many count bytes at many); lt = zero_fits }

  -- For bytes that reach past the end, 0 meets the contract of `number_at`.
  pub number_past : length bytes < at + count → IsNumberRead bytes at count 0
  number_past past = record { is = sym (number_within_past count bytes at past); lt = zero_fits }

  -- The invariant holds before the first byte, with number 0.
  pub number_start : Numbered bytes at count 0 0
  unfolding number_at
  number_start = record { turn_le = omega arith; is = refl; lt = omega arith }

  module _ (number done : ℕ) (inv : Numbered bytes at count number done) where
    -- A turn reads one byte more: the number times 256, plus the byte.
    pub number_turn : (byte : ℕ) → done < count → byte ≡ get_or bytes (at + done) 0 → byte < 256 → Numbered bytes at count (number * 256 + byte) (done + 1)
    number_turn byte left is_byte_lem small =
        record {
          turn_le = omega arith;
          is = omega (arith, number_at_step done bytes at, inv.is);
          lt = rw (add-one done) (omega (arith, pow-suc 256 done, inv.lt));
        }

    -- With fewer than four bytes read the number is below 2^24, so one byte more fits 32 bits.
    pub number_lt : done < most_number_bytes → number < 2 ^ 24
    number_lt few = omega (arith, inv.lt, pow-le-pow_right {n = 256} (omega arith) {i = done} {j = 3} (omega arith))

    -- After the last byte the number meets the contract, if there are at most 4 bytes and they all lie within those given.
    pub number_end : count ≤ done → count ≤ most_number_bytes → at + count ≤ length bytes → IsNumberRead bytes at count number
    number_end last few within =
        let all : done ≡ count = omega arith in
        record { is = rw all at inv.is ∙ sym (number_within_is count bytes at few within); lt = rw all at inv.lt }
