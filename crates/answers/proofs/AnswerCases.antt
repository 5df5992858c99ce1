-- An answer is not both accepted and refused, and an accepted answer has one result.
use Prim.Native.Nat.{ℕ}
use mathlib.Core.Path.{◌≡◌}
use native.Mathlib.Omega.{arith}
use Rattle.answers.specs.declared.refusals.Refusal.{Refusal}
use Rattle.answers.specs.Paper.{Answer, accepted, refused}

module _ {A : Type 0} where
  -- An accepted answer is not refused.
  pub accepted_not_refused : {a : Answer A} {x : A} {r : Refusal} → a ≡ accepted x → a ≡ refused r → ⊥
  accepted_not_refused e f = let z : ◌≡◌ {A = ℕ} 0 1 = cc in omega arith

  -- An answer is accepted with one result only.
  pub accepted_unique : {a : Answer A} {x y : A} → a ≡ accepted x → a ≡ accepted y → x ≡ y
  accepted_unique e f = cc
