-- Proofs by cases: on the result of a test, on a conjunction of tests, on the order of two numbers.
use Prim.Native.Nat.{ℕ, suc, ◌≤◌, ◌<◌}
use mathlib.Core.Path.{◌≡◌, refl, sym, subst}
use mathlib.Core.Bool.{Bool, true, false, cond, ◌&&◌, false≢true}
use mathlib.Core.Logic.{◌⊎◌, inl, inr, ⊎_elim}
use native.Mathlib.Nat.{eq-or-lt_of_le, le_of_suc-le-suc}
use lib.Dec.{leb, eqb}
use borrow.Author.Tests.{leb-true, leb-false, eqb-true, eqb-false, eq-eqb, ne_eqb}

-- P holds for `cond t x y` if it holds for x where t is true, and for y where t is false.
pub by_test {ℓ} : {A : Type 0} (P : A → Type ℓ) (t : Bool) {x y : A} → (t ≡ true → P x) → (t ≡ false → P y) → P (cond t x y)
by_test P true a b = a refl
by_test P false a b = b refl

-- If a conjunction of two tests is true, both tests are true.
pub and_true : (a b : Bool) → (a && b) ≡ true → (a ≡ true) × (b ≡ true)
and_true true b e = (refl, e)
and_true false b e = absurd (false≢true e)

-- If the first test is true, the conjunction equals the second test.
pub and_yes : (a b : Bool) → a ≡ true → (a && b) ≡ b
and_yes true b e = refl
and_yes false b e = absurd (false≢true e)

-- A number is at most another, or above it.
pub le_or_lt : (a b : ℕ) → (a ≤ b) ⊎ (b < a)
le_or_lt a b = go (leb a b) refl
  where
    go : (t : Bool) → leb a b ≡ t → (a ≤ b) ⊎ (b < a)
    go true e = inl (leb-true a b e)
    go false e = inr (leb-false a b e)

-- If P holds for every number below n, and for n, it holds for every number below n + 1.
pub below_suc : (P : ℕ → Type 0) (n : ℕ) → ((s : ℕ) → s < n → P s) → P n → (s : ℕ) → s < suc n → P s
below_suc P n h e s l = ⊎_elim (λ q. subst P (sym q) e) (h s) (eq-or-lt_of_le (le_of_suc-le-suc l))

-- The test for equality gives the same result with its numbers swapped.
pub eqb_sym : (a b : ℕ) → eqb a b ≡ eqb b a
eqb_sym a b = go (eqb b a) refl
  where
    go : (t : Bool) → eqb b a ≡ t → eqb a b ≡ t
    go true e = eq-eqb a b (sym (eqb-true b a e))
    go false e = ne_eqb a b (λ q. eqb-false b a e (sym q))

-- A test that cannot be true is false.
pub not_passed : (t : Bool) → (t ≡ true → ⊥) → false ≡ t
not_passed true can_not = absurd (can_not refl)
not_passed false can_not = refl
