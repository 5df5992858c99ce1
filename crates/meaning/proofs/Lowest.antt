-- For n > 0, `lowest f n` is the lowest number below n at which f is least. Induction on n. There is only one such number: of two, neither can be lower.
use Prim.Native.Nat.{ℕ, zero, suc, ◌≤◌, ◌<◌}
use mathlib.Core.Path.{◌≡◌, refl}
use mathlib.Core.Bool.{Bool, true, false, cond}
use native.Mathlib.Omega.{arith}
use lib.Dec.{ltb}
use borrow.Author.Tests.{ltb-true, ltb-false}
use Rattle.meaning.specs.Counting.{lowest}
use Rattle.lists.proofs.Cases.{below_suc}

-- r is the lowest number below n at which f is least: f is nowhere less below n, and greater at every number lower than r.
pub record IsLowest (f : ℕ → ℕ) (n r : ℕ) : Type 0 where
  pub below : r < n
  pub least : (s : ℕ) → s < n → f r ≤ f s
  pub first : (s : ℕ) → s < r → f r < f s

module _ (f : ℕ → ℕ) where
  -- Below 1 there is only 0.
  lowest_one : IsLowest f 1 0
  lowest_one = record {
    below = omega arith;
    least = below_suc (λ s. f 0 ≤ f s) 0 (λ s l. omega arith) (omega arith);
    first = λ s l. omega arith;
  }

  -- With one number more, the lowest is the new one if f is less there, and else as before.
  lowest_more : (n b : ℕ) → IsLowest f n b → (t : Bool) → ltb (f n) (f b) ≡ t → IsLowest f (suc n) (cond t n b)
  lowest_more n b h true e = record {
    below = omega arith;
    least = below_suc (λ s. f n ≤ f s) n (λ s l. omega (arith, h.least s l, ltb-true (f n) (f b) e)) (omega arith);
    first = λ s l. omega (arith, h.least s l, ltb-true (f n) (f b) e);
  }
  lowest_more n b h false e = record {
    below = omega (arith, h.below);
    least = below_suc (λ s. f b ≤ f s) n h.least (ltb-false (f n) (f b) e);
    first = h.first;
  }

  -- Either way it is 0.
  cond_same : (t : Bool) → ◌≡◌ {A = ℕ} (cond t 0 0) 0
  cond_same true = refl
  cond_same false = refl

  -- For n > 0, `lowest f n` is the lowest number below n at which f is least.
  pub lowest_is : (n : ℕ) → 0 < n → IsLowest f n (lowest f n)
  unfolding lowest
  lowest_is zero h = omega arith
  lowest_is (suc zero) h = rw (cond_same (ltb (f 0) (f 0))) lowest_one
  lowest_is (suc (suc n)) h =
      lowest_more (suc n) (lowest f (suc n)) (lowest_is (suc n) (omega arith)) (ltb (f (suc n)) (f (lowest f (suc n)))) refl

  -- There is only one lowest number at which f is least.
  pub lowest_unique : (n r s : ℕ) → IsLowest f n r → IsLowest f n s → r ≡ s
  lowest_unique n r s h g =
      let a : ¬ (s < r) = λ l. omega (arith, h.first s l, g.least r h.below) in
      let b : ¬ (r < s) = λ l. omega (arith, g.first r l, h.least s g.below) in
      omega arith
