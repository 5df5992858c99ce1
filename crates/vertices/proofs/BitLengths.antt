-- The bit length of a number, and the length class. A number n above 0 lies between two neighbouring powers of two, 2^j ≤ n < 2^(j+1) (`top_bit`), and its bit length is
-- j + 1: each halving takes j one down (`bit_length_is`). So the length class c of a size is the only number up to 30 with 2^c ≤ size, and size < 2^(c+1) unless c is 30
-- (`class_least`, `class_most`, `class_by`).
use Prim.Native.Nat.{ℕ, zero, suc, ◌-◌, ◌/◌, ◌^◌, ◌≤◌, ◌<◌, min}
use mathlib.Core.Path.{◌≡◌, refl, sym, ap, subst, ◌∙◌}
use mathlib.Core.Logic.{◌↔◌, ⊎_elim}
use native.Mathlib.Nat.{pow-suc}
use native.Mathlib.Omega.{arith}
use lib.Pow.{pow_mono}
use lib.Count.{count_leading_zeros, leading_top}
use borrow.Author.Tests.{ne_eqb}
use Rattle.lists.proofs.Cases.{le_or_lt}
use Rattle.vertices.specs.Steps.{halvings, bit_length, last_class, class_of_size}

-- 2^j ≤ n < 2^(j+1): bit j is the highest of n that is set.
pub record IsTopBit (n j : ℕ) : Type 0 where
  pub least : 2 ^ j ≤ n
  pub most : n < 2 ^ suc j

-- j is below 2^j.
below_power : (j : ℕ) → j < 2 ^ j
below_power zero = omega arith
below_power (suc j) = omega (arith, below_power j, pow-suc 2 j)

-- Every number above 0 has a top bit.
pub top_bit : (n : ℕ) → 0 < n → (j : ℕ) × IsTopBit n j
top_bit n some = let top = leading_top n n some (below_power n) in (top.0, record { least = top.2; most = top.3 })

-- 0 is not halved.
halvings_zero : (most : ℕ) → halvings most 0 ≡ 0
unfolding halvings
halvings_zero zero = refl
halvings_zero (suc most) = refl

-- A number with top bit j is halved j + 1 times, if the limit allows it.
halvings_are : (j most n : ℕ) → j < most → IsTopBit n j → halvings most n ≡ suc j
unfolding halvings
halvings_are j zero n allowed top = absurd (omega arith)
halvings_are zero (suc most) n allowed top =
    let none_left : n / 2 ≡ 0 = omega (arith, top.least, top.most) in
    rw (ne_eqb n 0 (λ e. absurd (omega (arith, top.least)))) (ap suc (ap (halvings most) none_left ∙ halvings_zero most))
halvings_are (suc j) (suc most) n allowed top =
    let half : IsTopBit (n / 2) j = record {
      least = omega (arith, top.least, pow-suc 2 j);
      most = omega (arith, top.most, pow-suc 2 (suc j));
    } in
    rw (ne_eqb n 0 (λ e. absurd (omega (arith, top.least, pow-suc 2 j, below_power j)))) (ap suc (halvings_are j most (n / 2) (omega arith) half))

-- The bit length of a number with top bit j is j + 1.
pub bit_length_is : {n j : ℕ} → IsTopBit n j → bit_length n ≡ suc j
unfolding bit_length
bit_length_is {n} {j} top = halvings_are j n n (omega (arith, below_power j, top.least)) top

-- In 64 bits, the top bit of a number above 0 is 63 less the number of leading zeros, and so is its bit length less one.
pub top_of_64 : (n : ℕ) → 0 < n → n < 2 ^ 64 → (count_leading_zeros 64 n ≤ 63) × (63 - count_leading_zeros 64 n ≡ bit_length n - 1)
top_of_64 n some fits =
    let top = leading_top 64 n some fits in
    let length_is : bit_length n ≡ suc top.0 = bit_length_is (record { least = top.2; most = top.3 }) in
    (omega (arith, top.1), omega (arith, top.1))

-- A larger bit has a larger power: if 2^a ≤ n < 2^(b+1), then a ≤ b.
pub power_le : {n : ℕ} (a b : ℕ) → 2 ^ a ≤ n → n < 2 ^ suc b → a ≤ b
power_le {n} a b least most =
    ⊎_elim (λ le. le) (λ lt. absurd (omega (arith, pow_mono {i = suc b} {j = a} (omega arith)))) (le_or_lt a b)

-- A size with top bit j has class j, and 30 where j is above 30.
pub class_is : {size j : ℕ} → IsTopBit size j → class_of_size size ≡ min last_class j
class_is top = omega (arith, bit_length_is top)

module _ (size : ℕ) (some : 0 < size) where
  -- The class is at most 30.
  pub class_le : class_of_size size ≤ last_class
  class_le = omega arith

  -- A size of class c is at least 2^c.
  pub class_least : 2 ^ class_of_size size ≤ size
  class_least =
      let top = top_bit size some in
      let below : class_of_size size ≤ top.0 = omega (arith, class_is top.1) in
      omega (arith, pow_mono {i = class_of_size size} {j = top.0} below, top.1.least)

  -- Below class 30, a size of class c is below 2^(c+1).
  pub class_most : class_of_size size < last_class → size < 2 ^ suc (class_of_size size)
  class_most below =
      let top = top_bit size some in
      let same : top.0 ≡ class_of_size size = omega (arith, class_is top.1) in
      subst (λ (c : ℕ). size < 2 ^ suc c) same top.1.most

  -- No other number has these properties.
  pub class_by : (c : ℕ) → c ≤ last_class → 2 ^ c ≤ size → (c < last_class → size < 2 ^ suc c) → c ≡ class_of_size size
  class_by c last least most =
      let top = top_bit size some in
      let up_to : c ≤ top.0 = power_le c top.0 least top.1.most in
      ⊎_elim
      (λ is_last. omega (arith, class_is top.1))
      (λ below. omega (arith, class_is top.1, power_le top.0 c top.1.least (most below)))
      (le_or_lt last_class c)

  -- "the bit length .. less one": class c below 30 is where 2^c ≤ size < 2^(c+1).
  pub class_iff : (c : ℕ) → c < last_class → (class_of_size size ≡ c) ↔ ((2 ^ c ≤ size) × (size < 2 ^ suc c))
  class_iff c below = (
    λ e. subst (λ (d : ℕ). (2 ^ d ≤ size) × (size < 2 ^ suc d)) e (class_least, class_most (omega arith)),
    λ h. sym (class_by c (omega arith) h.0 (λ _. h.1)),
  )

  -- "with 31 taken as 30": class 30 is where the size is at least 2^30.
  pub class_30_iff : (class_of_size size ≡ 30) ↔ (2 ^ 30 ≤ size)
  class_30_iff = (λ e. subst (λ (c : ℕ). 2 ^ c ≤ size) e class_least, λ h. sym (class_by 30 (omega arith) h (λ below. absurd (omega arith))))

-- 0 has no bits.
no_bits : bit_length 0 ≡ 0
unfolding bit_length
no_bits = halvings_zero 0

-- A size below 2^32 has at most 32 bits. The steps between numbers of 32 bits have such sizes (`difference_size` of MachineNumbers), so the bit length less one is at
-- most 31, and 31 is the only class that is taken as 30.
pub bit_length_most : (size : ℕ) → size < 2 ^ 32 → bit_length size ≤ 32
bit_length_most size below =
    ⊎_elim
    (λ none.
    let zero_is : size ≡ 0 = omega arith in
    omega (arith, ap bit_length zero_is, no_bits))
    (λ some.
    let top = top_bit size some in
    omega (arith, bit_length_is top.1, power_le top.0 31 top.1.least below))
    (le_or_lt size 0)
