-- Laws of `around`: for m = 0 it is 0, and for m > 0 it is the remainder mod m. For a sum it is the sum of the two remainders, less m if that sum reaches m: the
-- sum of two numbers below m is below 2·m, so m is subtracted at most once.
use Prim.Native.Nat.{ℕ, ◌+◌, ◌-◌, ◌%◌, ◌≤◌, ◌<◌}
use mathlib.Core.Path.{◌≡◌, sym, ◌∙◌}
use native.Mathlib.Nat.{mod-lt, mod-eq_of_lt, add-mod, mod-eq-sub-mod}
use native.Mathlib.Omega.{arith}
use borrow.Author.Tests.{eq-eqb, ne_eqb}
use Rattle.answers.specs.Places.{around}

-- For m = 0, `around m x` is 0.
pub around_none : (m x : ℕ) → m ≡ 0 → 0 ≡ around m x
unfolding around
around_none m x e = simp (eq-eqb m 0 e)

-- For m > 0, `around m x` is x mod m.
pub around_is : (m x : ℕ) → 0 < m → around m x ≡ x % m
unfolding around
around_is m x h = simp (ne_eqb m 0 (λ e. omega arith))

-- For m > 0, `around m x` is below m.
pub around_lt : (m x : ℕ) → 0 < m → around m x < m
around_lt m x h = omega (arith, around_is m x h, mod-lt x h)

module _ (m a b : ℕ) (h : 0 < m) where
  -- If the sum of the two remainders stays below m, it is the sum mod m.
  pub around_sum_lt : a % m < m - b % m → a % m + b % m ≡ around m (a + b)
  around_sum_lt l = sym (around_is m (a + b) h ∙ add-mod a b m ∙ mod-eq_of_lt (omega arith))

  -- If the sum of the two remainders reaches m, the sum mod m is that sum less m.
  pub around_sum_ge : m - b % m ≤ a % m → a % m - (m - b % m) ≡ around m (a + b)
  around_sum_ge l =
      let x_lt : a % m < m = mod-lt a h in
      let y_lt : b % m < m = mod-lt b h in
      let less : a % m - (m - b % m) ≡ a % m + b % m - m = omega arith in
      less ∙ sym (around_is m (a + b) h ∙ add-mod a b m ∙ mod-eq-sub-mod (omega arith) ∙ mod-eq_of_lt (omega arith))
