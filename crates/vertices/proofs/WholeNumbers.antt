-- Whole numbers: sizes, differences, and the tests of their order. Differences follow from the group laws of the kit's `lib.IntN`.
use Prim.Native.Nat.{zero, suc}
use mathlib.Core.Path.{◌≡◌, refl, sym, ap, subst, ◌∙◌}
use mathlib.Core.Bool.{Bool, true, false, not}
use mathlib.Core.Logic.{◌↔◌}
use native.Mathlib.Omega.{arith}
use lib.Dec.{T}
use lib.IntN.{ℤ, pos, negsuc, neg_ℤ, nat_abs, ◌+ℤ◌, ◌-ℤ◌, neg_ℤ-neg_ℤ, +ℤ_idl, +ℤ_assoc, +ℤ_comm, neg_ℤ-+ℤ, +ℤ-neg_ℤ_cancel, -ℤ-+ℤ_cancel}
use lib.Signed.{◌<ℤ◌, ◌≤ℤ◌, lt_z, le_z, lt_z_yes, le_z_yes, lt_z_no, clash_ℤ}
use borrow.Author.Tests.{le-ltb, le-leb}
use Rattle.lists.proofs.Cases.{not_passed}
use Rattle.vertices.specs.Sizes.{is_negative}

-- A number and its negative have the same size.
pub size_negated : (x : ℤ) → nat_abs (neg_ℤ x) ≡ nat_abs x
size_negated (pos zero) = refl
size_negated (pos (suc n)) = refl
size_negated (negsuc n) = refl

-- Only 0 has size 0.
zero_size : (x : ℤ) → nat_abs x ≡ 0 → x ≡ pos 0
zero_size (pos n) e = ap pos e
zero_size (negsuc n) e = absurd (omega arith)

-- Two numbers whose difference has size 0 are equal.
pub equal_by_difference : (x y : ℤ) → nat_abs (y -ℤ x) ≡ 0 → x ≡ y
equal_by_difference x y e = sym (+ℤ_idl x) ∙ ap (λ (z : ℤ). z +ℤ x) (sym (zero_size (y -ℤ x) e)) ∙ -ℤ-+ℤ_cancel y x

-- The difference taken the other way is the negative.
pub difference_opposite : (x y : ℤ) → x -ℤ y ≡ neg_ℤ (y -ℤ x)
difference_opposite x y = sym (neg_ℤ-+ℤ y (neg_ℤ x) ∙ ap (λ (z : ℤ). neg_ℤ y +ℤ z) (neg_ℤ-neg_ℤ x) ∙ +ℤ_comm (neg_ℤ y) x)

-- Adding the same to both numbers does not change their difference.
pub difference_moved : (x y t : ℤ) → (y +ℤ t) -ℤ (x +ℤ t) ≡ y -ℤ x
difference_moved x y t =
    ap (λ (z : ℤ). (y +ℤ t) +ℤ z) (neg_ℤ-+ℤ x t ∙ +ℤ_comm (neg_ℤ x) (neg_ℤ t))
    ∙ sym (+ℤ_assoc (y +ℤ t) (neg_ℤ t) (neg_ℤ x))
    ∙ ap (λ (z : ℤ). z +ℤ neg_ℤ x) (+ℤ-neg_ℤ_cancel y t)

-- A test that holds is true.
holds_true : (t : Bool) → T t → t ≡ true
holds_true true h = refl
holds_true false h = absurd h

module _ {a b : ℤ} where
  -- The test `lt_z` passes exactly when a < b.
  pub below_iff : (lt_z a b ≡ true) ↔ (a <ℤ b)
  below_iff = (λ e. lt_z_yes (subst T (sym e) tt), λ h. holds_true (lt_z a b) h.lt)

  -- The test `le_z` passes exactly when a ≤ b.
  pub at_most_iff : (le_z a b ≡ true) ↔ (a ≤ℤ b)
  at_most_iff = (λ e. le_z_yes (subst T (sym e) tt), λ h. holds_true (le_z a b) h.le)

  -- The test `lt_z` fails exactly when b ≤ a.
  pub not_below_iff : (lt_z a b ≡ false) ↔ (b ≤ℤ a)
  not_below_iff = (
    λ e. lt_z_no {a = a} {b = b} (subst (λ (t : Bool). T (not t)) (sym e) tt),
    λ h. sym (not_passed (lt_z a b) (λ e. clash_ℤ (below_iff.0 e) h)),
  )

-- A number above 0 is at least 0.
pub above_zero_le : (x : ℤ) → pos 0 <ℤ x → pos 0 ≤ℤ x
above_zero_le (pos n) h = at_most_iff.0 (le-leb 0 n (omega arith))
above_zero_le (negsuc n) h = absurd h.lt

-- `x < 0` tests the sign.
pub negative_is : (x : ℤ) → lt_z x (pos 0) ≡ is_negative x
negative_is (pos n) = le-ltb n 0 (omega arith)
negative_is (negsuc n) = refl
