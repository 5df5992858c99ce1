-- The order of addresses is strict and total: no address is below itself, the order is transitive, and of two addresses that differ one is below the other. By
-- cases of the first number in which they differ. Then the same for the test `is_below`.
use Prim.Native.Nat.{◌≤◌, ◌<◌}
use mathlib.Core.Logic.{◌↔◌}
use mathlib.Core.Path.{◌≡◌, refl, sym, subst, ◌∙◌}
use mathlib.Core.Bool.{Bool, true, false, false≢true, not-eq-not}
use native.Mathlib.Omega.{arith}
use Rattle.silences.specs.Silences.{Address, is_below, Below, by_cell, by_ring_number, by_start, is_same}
use Rattle.silences.proofs.SilenceOrder.{is_below_iff, is_same_iff}

-- nothing is below itself
below_irreflexive : (a : Address) → Below a a → ⊥
below_irreflexive a (by_cell c) = omega arith
below_irreflexive a (by_ring_number c r) = omega arith
below_irreflexive a (by_start c r s) = omega arith

-- The order is transitive.
pub below_trans : (a b c : Address) → Below a b → Below b c → Below a c
below_trans a b c (by_cell p) (by_cell q) = by_cell (omega arith)
below_trans a b c (by_cell p) (by_ring_number q r) = by_cell (omega arith)
below_trans a b c (by_cell p) (by_start q r s) = by_cell (omega arith)
below_trans a b c (by_ring_number p o) (by_cell q) = by_cell (omega arith)
below_trans a b c (by_ring_number p o) (by_ring_number q r) = by_ring_number (omega arith) (omega arith)
below_trans a b c (by_ring_number p o) (by_start q r s) = by_ring_number (omega arith) (omega arith)
below_trans a b c (by_start p o n) (by_cell q) = by_cell (omega arith)
below_trans a b c (by_start p o n) (by_ring_number q r) = by_ring_number (omega arith) (omega arith)
below_trans a b c (by_start p o n) (by_start q r s) = by_start (omega arith) (omega arith) (omega arith)

-- of two addresses that differ one is below the other
below_total : (a b : Address) → (Below a b → ⊥) → (Below b a → ⊥) → a ≡ b
below_total a b not_ab not_ba =
    let cell_ge : a.cell < b.cell → ⊥ = λ l. not_ab (by_cell l) in
    let cell_le : b.cell < a.cell → ⊥ = λ l. not_ba (by_cell l) in
    let cell_is : a.cell ≡ b.cell = omega arith in
    let ring_ge : a.ring_number < b.ring_number → ⊥ = λ l. not_ab (by_ring_number cell_is l) in
    let ring_le : b.ring_number < a.ring_number → ⊥ = λ l. not_ba (by_ring_number (sym cell_is) l) in
    let ring_is : a.ring_number ≡ b.ring_number = omega arith in
    let start_ge : a.start < b.start → ⊥ = λ l. not_ab (by_start cell_is ring_is l) in
    let start_le : b.start < a.start → ⊥ = λ l. not_ba (by_start (sym cell_is) (sym ring_is) l) in
    let start_is : a.start ≡ b.start = omega arith in
    λ i. record { cell = cell_is i; ring_number = ring_is i; start = start_is i }

-- The test `is_below` fails exactly when a is not below b.
pub not_below_iff : (a b : Address) → (is_below a b ≡ false) ↔ (Below a b → ⊥)
not_below_iff a b = (λ e h. false≢true (sym e ∙ (is_below_iff a b).1 h), λ h. (not-eq-not {b = false}).0 (λ e. h ((is_below_iff a b).0 e)))

-- If b is below a, the test that a is below b fails.
pub above_is_below : (a b : Address) → Below b a → is_below a b ≡ false
above_is_below a b h = (not_below_iff a b).1 (λ l. below_irreflexive a (below_trans a b a l h))

-- If a is below b, the test `is_same` fails for a and b, and for b and a.
pub below_not_same : (a b : Address) → Below a b → (is_same a b ≡ false) × (is_same b a ≡ false)
below_not_same a b h = (
  (not-eq-not {b = false}).0 (λ e. below_irreflexive b (subst (λ (c : Address). Below c b) ((is_same_iff a b).0 e) h)),
  (not-eq-not {b = false}).0 (λ e. below_irreflexive b (subst (λ (c : Address). Below c b) (sym ((is_same_iff b a).0 e)) h)),
)

-- If s is below a and b is not below a, then s is below b. So a field that is passed in seeking a is passed in seeking b.
pub below_not_below : (s a b : Address) → Below s a → (Below b a → ⊥) → Below s b
below_not_below s a b h not_below = go (is_below a b) refl
  where
    go : (t : Bool) → is_below a b ≡ t → Below s b
    go true e = below_trans s a b h ((is_below_iff a b).0 e)
    go false e = subst (Below s) (below_total a b ((not_below_iff a b).0 e) not_below) h

-- If b is below c and not below a, then a is below c. So what comes after a field that is not below a is above a.
pub above_not_below : (b c a : Address) → Below b c → (Below b a → ⊥) → Below a c
above_not_below b c a h not_below = go (is_below a c) refl
  where
    go : (t : Bool) → is_below a c ≡ t → Below a c
    go true e = (is_below_iff a c).0 e
    go false e = absurd (not_below (below_not_below b c a h ((not_below_iff a c).0 e)))

-- If a and b have equal cells and equal ring numbers and a's start is at most b's, then b is not below a.
pub start_not_below : (a b : Address) → a.cell ≡ b.cell → a.ring_number ≡ b.ring_number → a.start ≤ b.start → Below b a → ⊥
start_not_below a b same_cell same_ring h (by_cell c) = omega arith
start_not_below a b same_cell same_ring h (by_ring_number c r) = omega arith
start_not_below a b same_cell same_ring h (by_start c r s) = omega arith
