-- Tests of sizes. Code computes a conjunction of comparisons, and a record states the same conditions as facts. `lt_iff`, `le_iff`, `eq_iff`, `and_iff`,
-- `or_iff` and `not_iff` join a test with its condition. Code returns false at the first comparison that fails (`test_fails`); otherwise it returns its last
-- comparison, which by then decides the whole test (`test_same`).
use Prim.Native.Nat.{ℕ, ◌≤◌, ◌<◌}
use mathlib.Core.Path.{◌≡◌, refl, sym, ◌∙◌}
use mathlib.Core.Bool.{Bool, true, false, not, ◌&&◌, ◌||◌, false≢true}
use mathlib.Core.Logic.{◌↔◌, ◌⊎◌, inl, inr, ⊎_elim}
use lib.Dec.{ltb, leb, eqb}
use borrow.Author.Tests.{ltb-true, leb-true, eqb-true, lt-ltb, le-leb, eq-eqb}
use Rattle.lists.proofs.Cases.{and_true, and_yes, not_passed}

-- The test `ltb a b` passes exactly when a is below b.
pub lt_iff : (a b : ℕ) → (ltb a b ≡ true) ↔ (a < b)
lt_iff a b = (ltb-true a b, lt-ltb a b)

-- The test `leb a b` passes exactly when a is at most b.
pub le_iff : (a b : ℕ) → (leb a b ≡ true) ↔ (a ≤ b)
le_iff a b = (leb-true a b, le-leb a b)

-- The test `eqb a b` passes exactly when a equals b.
pub eq_iff : (a b : ℕ) → (eqb a b ≡ true) ↔ (a ≡ b)
eq_iff a b = (eqb-true a b, eq-eqb a b)

-- A disjunction of tests passes exactly when one of the two conditions holds.
pub or_iff : {s t : Bool} {P Q : Type 0} → ((s ≡ true) ↔ P) → ((t ≡ true) ↔ Q) → ((s || t) ≡ true) ↔ (P ⊎ Q)
or_iff {s = true} first second = (λ e. inl (first.0 refl), λ h. refl)
or_iff {s = false} first second = (λ e. inr (second.0 e), ⊎_elim (λ h. absurd (false≢true (first.1 h))) second.1)

-- A conjunction of tests passes exactly when both conditions hold.
pub and_iff : {s t : Bool} {P Q : Type 0} → ((s ≡ true) ↔ P) → ((t ≡ true) ↔ Q) → ((s && t) ≡ true) ↔ (P × Q)
and_iff {s = s} {t = t} first second = (
  λ e. let both = and_true s t e in (first.0 both.0, second.0 both.1),
  λ h. and_yes s t (first.1 h.0) ∙ second.1 h.1,
)

-- The negation of a test passes exactly when the condition does not hold.
pub not_iff : {t : Bool} {P : Type 0} → ((t ≡ true) ↔ P) → (not t ≡ true) ↔ (P → ⊥)
not_iff {t = true} passes = (λ e. absurd (false≢true e), λ h. absurd (h (passes.0 refl)))
not_iff {t = false} passes = (λ e p. false≢true (passes.1 p), λ h. refl)

-- If the condition of a test does not hold, the test is false.
pub test_fails : {t : Bool} {P : Type 0} → ((t ≡ true) ↔ P) → (P → ⊥) → false ≡ t
test_fails {t = t} passes lacks = not_passed t (λ e. lacks (passes.0 e))

-- Two tests with equivalent conditions are equal.
pub test_same : {s t : Bool} {P Q : Type 0} → ((s ≡ true) ↔ P) → ((t ≡ true) ↔ Q) → (P ↔ Q) → s ≡ t
test_same {s = true} one other same = sym (other.1 (same.0 (one.0 refl)))
test_same {s = false} {t = t} one other same = not_passed t (λ e. absurd (false≢true (one.1 (same.1 (other.0 e)))))
