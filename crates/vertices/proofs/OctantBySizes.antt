-- The octant by signs and sizes is the octant of the steps (`octant_by_sizes_lem`), by the signs of both steps. A quarter turn clockwise takes the steps (dn, de) to
-- (−de, dn), and each octant two further on (`quarter_turn`). The turn swaps the two sizes, so the same two sizes are compared before and after it.
use Prim.Native.Nat.{ℕ, zero, suc, ◌+◌, ◌%◌, ◌≤◌, ◌<◌}
use mathlib.Core.Path.{◌≡◌, refl, sym, ap, ◌∙◌}
use mathlib.Core.Bool.{true, false}
use mathlib.Core.Logic.{⊎_elim}
use native.Mathlib.Omega.{arith}
use lib.Dec.{ltb, leb, eqb}
use lib.IntN.{ℤ, pos, negsuc, neg_ℤ, nat_abs}
use lib.Signed.{lt_z}
use borrow.Author.Tests.{lt-ltb, le-ltb, le-leb, ne_eqb}
use Rattle.lists.proofs.Cases.{le_or_lt}
use Rattle.vertices.specs.Steps.{IsStep, step_octant}
use Rattle.vertices.specs.Sizes.{is_negative, octant_by_sizes}
use Rattle.vertices.proofs.WholeNumbers.{size_negated, negative_is}

-- A number above 0 is not 0, and is above 0.
not_zero_lem : (n : ℕ) → eqb (suc n) 0 ≡ false
not_zero_lem n = ne_eqb (suc n) 0 (λ e. absurd (omega arith))

above_zero : (n : ℕ) → ltb 0 (suc n) ≡ true
above_zero n = lt-ltb 0 (suc n) (omega arith)

at_least_zero : (n : ℕ) → leb 0 n ≡ true
at_least_zero n = le-leb 0 n (omega arith)

-- The octant by the signs and sizes of two steps.
abbrev pub by_sizes : ℤ → ℤ → ℕ
by_sizes dn de = octant_by_sizes (is_negative dn) (nat_abs dn) (is_negative de) (nat_abs de)

-- It is the octant of the steps.
pub octant_by_sizes_lem : (dn de : ℤ) → IsStep dn de → by_sizes dn de ≡ step_octant dn de
unfolding octant_by_sizes step_octant
octant_by_sizes_lem (pos zero) (pos zero) step = absurd (omega (arith, step.some))
octant_by_sizes_lem (pos zero) (pos (suc e)) step = simp (above_zero e)
octant_by_sizes_lem (pos zero) (negsuc e) step = simp (above_zero e)
octant_by_sizes_lem (pos (suc n)) (pos zero) step = simp (above_zero n, not_zero_lem n)
octant_by_sizes_lem (pos (suc n)) (pos (suc e)) step = simp (above_zero n, not_zero_lem n, at_least_zero (suc e))
octant_by_sizes_lem (pos (suc n)) (negsuc e) step = simp (above_zero n)
octant_by_sizes_lem (negsuc n) (pos zero) step = simp (above_zero n)
octant_by_sizes_lem (negsuc n) (pos (suc e)) step = simp (above_zero e, not_zero_lem e, at_least_zero (suc n))
octant_by_sizes_lem (negsuc n) (negsuc e) step = simp (above_zero n, at_least_zero (suc e))

-- The same, with the tests of the signs.
pub octant_by_signs : (dn de : ℤ) → IsStep dn de → octant_by_sizes (lt_z dn (pos 0)) (nat_abs dn) (lt_z de (pos 0)) (nat_abs de) ≡ step_octant dn de
octant_by_signs dn de step = rw (negative_is dn, negative_is de) (octant_by_sizes_lem dn de step)

-- P holds if it holds where a < b and where b ≤ a.
by_order : (a b : ℕ) {P : Type 0} → (a < b → P) → (b ≤ a → P) → P
by_order a b less more = ⊎_elim more less (le_or_lt b a)

-- By sizes: a quarter turn clockwise takes each octant two further on.
quarter_by_sizes : (dn de : ℤ) → IsStep dn de → by_sizes (neg_ℤ de) dn ≡ (by_sizes dn de + 2) % 8
unfolding octant_by_sizes
quarter_by_sizes (pos zero) (pos zero) step = absurd (omega (arith, step.some))
quarter_by_sizes (pos (suc n)) (pos zero) step = simp (not_zero_lem n, above_zero n)
quarter_by_sizes (pos zero) (pos (suc e)) step = refl
quarter_by_sizes (pos (suc n)) (pos (suc e)) step =
    by_order (suc e) (suc n) (λ l. simp (not_zero_lem n, lt-ltb (suc e) (suc n) l)) (λ l. simp (not_zero_lem n, le-ltb (suc e) (suc n) l))
quarter_by_sizes (pos n) (negsuc e) step = by_order n (suc e) (λ l. simp (not_zero_lem e, lt-ltb n (suc e) l)) (λ l. simp (not_zero_lem e, le-ltb n (suc e) l))
quarter_by_sizes (negsuc n) (pos zero) step = simp (above_zero n)
quarter_by_sizes (negsuc n) (pos (suc e)) step =
    by_order (suc n) (suc e) (λ l. simp (not_zero_lem e, lt-ltb (suc n) (suc e) l)) (λ l. simp (not_zero_lem e, le-ltb (suc n) (suc e) l))
quarter_by_sizes (negsuc n) (negsuc e) step = by_order (suc e) (suc n) (λ l. simp (lt-ltb (suc e) (suc n) l)) (λ l. simp (le-ltb (suc e) (suc n) l))

-- Steps that are not both 0 stay so under a quarter turn clockwise.
pub step_turned : {dn de : ℤ} → IsStep dn de → IsStep (neg_ℤ de) dn
step_turned {dn} {de} step = record { some = omega (arith, step.some, size_negated de) }

-- And under a quarter turn anticlockwise.
pub step_turned_back : {dn de : ℤ} → IsStep dn de → IsStep de (neg_ℤ dn)
step_turned_back {dn} {de} step = record { some = omega (arith, step.some, size_negated dn) }

-- A quarter turn clockwise takes the steps (dn, de) to (−de, dn), and the octant two further on.
pub quarter_turn : (dn de : ℤ) → IsStep dn de → step_octant (neg_ℤ de) dn ≡ (step_octant dn de + 2) % 8
quarter_turn dn de step =
    sym (octant_by_sizes_lem (neg_ℤ de) dn (step_turned step)) ∙ quarter_by_sizes dn de step ∙ ap (λ (o : ℕ). (o + 2) % 8) (octant_by_sizes_lem dn de step)

-- Half a turn takes (dn, de) to (−dn, −de), and the octant four further on.
pub half_turn_lem : (dn de : ℤ) → IsStep dn de → step_octant (neg_ℤ dn) (neg_ℤ de) ≡ (step_octant dn de + 4) % 8
half_turn_lem dn de step = omega (arith, quarter_turn (neg_ℤ de) dn (step_turned step), quarter_turn dn de step)
