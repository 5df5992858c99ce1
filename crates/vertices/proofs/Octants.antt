-- The octant in the document's words. The computed octant is 0 exactly where dn > 0 and 0 ≤ de < dn, and 1 exactly where dn > 0 and dn ≤ de (`octant_0_iff`,
-- `octant_1_iff`): those are the two halves of the first quarter, and in each other quarter it is 2 or more. "and so on clockwise": a quarter turn leads each octant to
-- the one two further on (`quarter_turn`), so each of the eight is fixed (`octant_iff`). Every two steps but (0, 0) lie in exactly one (`one_octant`).
use Prim.Native.Nat.{ℕ, zero, suc, ◌+◌, ◌%◌, ◌≤◌, ◌<◌}
use mathlib.Core.Path.{◌≡◌, refl, sym, ap, ◌∙◌}
use mathlib.Core.Bool.{true}
use mathlib.Core.Logic.Iff
use mathlib.Core.Logic.{◌↔◌}
use native.Mathlib.Omega.{arith}
use lib.IntN.{ℤ, pos, neg_ℤ, neg_ℤ-neg_ℤ}
use lib.Signed.{lt_z, le_z, <ℤ-≤ℤ_trans}
use Rattle.lists.proofs.Cases.{by_test, and_true}
use Rattle.vertices.specs.Steps.{IsStep, InOctant, in_quarter, octant_in, step_octant}
use Rattle.vertices.proofs.WholeNumbers.{below_iff, at_most_iff, not_below_iff, above_zero_le}
use Rattle.vertices.proofs.OctantBySizes.{quarter_turn, step_turned_back}

module _ (dn de : ℤ) where
  -- What the computed octant o says: it is below 8, and where it is 0 or 1 the steps lie in octant 0 or 1.
  record Says (o : ℕ) : Type 0 where
    below : o < 8
    first : o ≡ 0 → InOctant 0 dn de
    second : o ≡ 1 → InOctant 1 dn de

  -- Octants 2 to 7 say no more than that they are below 8.
  later : (o : ℕ) → 2 ≤ o → o < 8 → Says o
  later o least most = record { below = most; first = λ e. absurd (omega arith); second = λ e. absurd (omega arith) }

  -- So do the two octants of a quarter that is not the first.
  later_quarter : (first : ℕ) (lead side : ℤ) → 2 ≤ first → first < 7 → Says (octant_in first lead side)
  later_quarter first lead side least most =
      by_test Says (lt_z side lead) (λ _. later first least (omega arith)) (λ _. later (suc first) (omega arith) (omega arith))

  -- In the first quarter, octant 0 is where de < dn, and octant 1 where dn ≤ de.
  first_quarter : in_quarter dn de ≡ true → Says (octant_in 0 dn de)
  first_quarter within =
      let tests = and_true (lt_z (pos 0) dn) (le_z (pos 0) de) within in
      by_test Says (lt_z de dn)
      (λ l. record {
        below = omega arith;
        first = λ _. (below_iff.0 tests.0, (at_most_iff.0 tests.1, below_iff.0 l));
        second = λ e. absurd (omega arith);
      })
      (λ l. record { below = omega arith; first = λ e. absurd (omega arith); second = λ _. (below_iff.0 tests.0, not_below_iff.0 l) })

  -- Quarter by quarter.
  octant_says : Says (step_octant dn de)
  unfolding step_octant
  octant_says =
      by_test Says (in_quarter dn de) first_quarter
      (λ _. by_test Says (in_quarter de (neg_ℤ dn)) (λ _. later_quarter 2 de (neg_ℤ dn) (omega arith) (omega arith))
      (λ _. by_test Says (in_quarter (neg_ℤ dn) (neg_ℤ de)) (λ _. later_quarter 4 (neg_ℤ dn) (neg_ℤ de) (omega arith) (omega arith))
      (λ _. later_quarter 6 (neg_ℤ de) dn (omega arith) (omega arith))))

  -- There are eight octants, 0 to 7.
  pub octant_lt : step_octant dn de < 8
  octant_lt = octant_says.below

  -- "0 where dn > 0 and 0 ≤ de < dn", and nowhere else.
  pub octant_0_iff : InOctant 0 dn de ↔ (step_octant dn de ≡ 0)
  unfolding step_octant
  octant_0_iff = (λ h. simp (below_iff.1 h.0, at_most_iff.1 h.1.0, below_iff.1 h.1.1), octant_says.first)

  -- Octant 1 is where dn > 0 and dn ≤ de, and nowhere else.
  pub octant_1_iff : InOctant 1 dn de ↔ (step_octant dn de ≡ 1)
  unfolding step_octant
  octant_1_iff = (λ h. simp (below_iff.1 h.0, at_most_iff.1 (above_zero_le de (<ℤ-≤ℤ_trans h.0 h.1)), not_below_iff.1 h.1), octant_says.second)

-- "and so on clockwise": the steps lie in an octant exactly when it is the computed one. A quarter turn anticlockwise leads to the octant two before.
pub octant_iff : (o : ℕ) → o < 8 → (dn de : ℤ) → IsStep dn de → InOctant o dn de ↔ (step_octant dn de ≡ o)
octant_iff zero below dn de step = octant_0_iff dn de
octant_iff (suc zero) below dn de step = octant_1_iff dn de
octant_iff (suc (suc o)) below dn de step =
    let back : ℕ = step_octant de (neg_ℤ dn) in
    let turned : step_octant dn de ≡ (back + 2) % 8 = ap (λ (n : ℤ). step_octant n de) (sym (neg_ℤ-neg_ℤ dn)) ∙ quarter_turn de (neg_ℤ dn) (step_turned_back step) in
    Iff.trans (octant_iff o (omega arith) de (neg_ℤ dn) (step_turned_back step))
    (λ e. omega (arith, octant_lt de (neg_ℤ dn)), λ e. omega (arith, octant_lt de (neg_ℤ dn)))

-- Two steps that are not both 0 lie in one of the eight octants, and in no other.
pub one_octant : (dn de : ℤ) → IsStep dn de → (o : ℕ) × (o < 8) × InOctant o dn de × ((p : ℕ) → p < 8 → InOctant p dn de → p ≡ o)
one_octant dn de step = (
  step_octant dn de,
  octant_lt dn de,
  (octant_iff (step_octant dn de) (octant_lt dn de) dn de step).1 refl,
  λ p below inside. sym ((octant_iff p below dn de step).0 inside),
)
