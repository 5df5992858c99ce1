-- The first number below n that passes a test: no number before it passes, and it passes itself unless it is n (`first_below_lem`, by induction on how many numbers
-- are asked). No other number has these properties (`first_unique`). So a number before which none passes (`NoneBefore`), and which passes itself or is n, is the
-- first that passes (`first_by`).
use Prim.Native.Nat.{ℕ, zero, suc, ◌+◌, ◌≤◌, ◌<◌}
use mathlib.Core.Path.{◌≡◌, sym, ap, ◌∙◌}
use mathlib.Core.Bool.{Bool, true, false, true≢false}
use mathlib.Core.Logic.{⊎_elim}
use native.Mathlib.Nat.{eq-or-lt_of_le}
use native.Mathlib.Omega.{arith}
use Rattle.lists.proofs.Cases.{by_test}
use Rattle.meaning.specs.Counting.{first_from, first_below}

-- Of the n numbers from a on, first is the first that passes, or a + n, past them all.
record IsFirstFrom (p : ℕ → Bool) (a n first : ℕ) : Type 0 where
  from_le : a ≤ first
  to_le : first ≤ a + n
  fails : (r : ℕ) → a ≤ r → r < first → p r ≡ false
  passes : first < a + n → p first ≡ true

-- If the number a fails, the first from a + 1 on is the first from a on.
past_failed : {p : ℕ → Bool} {a n first : ℕ} → p a ≡ false → IsFirstFrom p (suc a) n first → IsFirstFrom p a (suc n) first
past_failed {p} {a} failed later = record {
  from_le = omega (arith, later.from_le);
  to_le = omega (arith, later.to_le);
  fails = λ r from l. ⊎_elim (λ here. ap p (sym here) ∙ failed) (λ after. later.fails r after l) (eq-or-lt_of_le from);
  passes = λ l. later.passes (omega arith);
}

-- `first_from` is the first from a on that passes.
first_from_lem : (p : ℕ → Bool) (n a : ℕ) → IsFirstFrom p a n (first_from p a n)
unfolding first_from
first_from_lem p zero a = record { from_le = omega arith; to_le = omega arith; fails = λ r from l. absurd (omega arith); passes = λ l. absurd (omega arith) }
first_from_lem p (suc n) a =
    by_test (IsFirstFrom p a (suc n)) (p a)
    (λ e. record { from_le = omega arith; to_le = omega arith; fails = λ r from l. absurd (omega arith); passes = λ _. e })
    (λ e. past_failed e (first_from_lem p n (suc a)))

-- q is at most n, and no number below q passes.
pub record NoneBefore (p : ℕ → Bool) (n q : ℕ) : Type 0 where
  pub place_le : q ≤ n
  pub fails : (r : ℕ) → r < q → p r ≡ false

-- The first number below n that passes, or n: no number before it passes, and below n it passes itself.
pub record IsFirstBelow (p : ℕ → Bool) (n first : ℕ) : Type 0 where
  pub none_before : NoneBefore p n first
  pub passes : first < n → p first ≡ true

module _ {p : ℕ → Bool} {n : ℕ} where
  -- `first_below` is the first number below n that passes.
  pub first_below_lem : IsFirstBelow p n (first_below p n)
  first_below_lem =
      let first = first_from_lem p n 0 in
      record {
        none_before = record { place_le = omega (arith, first.to_le); fails = λ r l. first.fails r (omega arith) l };
        passes = λ l. first.passes (omega arith);
      }

  -- A number before which none passes is not above one that passes.
  not_above : {q first : ℕ} → NoneBefore p n q → (first < n → p first ≡ true) → first < q → ⊥
  not_above {first = first} before passes l = true≢false (sym (passes (omega (arith, before.place_le))) ∙ before.fails first l)

  -- There is one first number only.
  pub first_unique : {a b : ℕ} → IsFirstBelow p n a → IsFirstBelow p n b → a ≡ b
  first_unique {a} {b} first other =
      let not_less : a < b → ⊥ = not_above other.none_before first.passes in
      let not_more : b < a → ⊥ = not_above first.none_before other.passes in
      omega arith

  -- There is no number before 0.
  pub none_start : NoneBefore p n 0
  none_start = record { place_le = omega arith; fails = λ r l. absurd (omega arith) }

  -- If q fails, no number before q + 1 passes.
  pub none_turn : {q : ℕ} → NoneBefore p n q → q < n → p q ≡ false → NoneBefore p n (q + 1)
  none_turn {q} before below failed = record {
    place_le = omega arith;
    fails = λ r l. ⊎_elim (λ here. ap p here ∙ failed) (λ earlier. before.fails r earlier) (eq-or-lt_of_le (omega arith));
  }

  -- If no number before q passes, and q passes or is n, q is the first.
  pub first_by : {q : ℕ} → NoneBefore p n q → (q < n → p q ≡ true) → q ≡ first_below p n
  first_by before passes = first_unique (record { none_before = before; passes = passes }) first_below_lem

-- Two tests that agree on every number below n have the same first number.
pub first_same : {p p' : ℕ → Bool} {n : ℕ} → ((r : ℕ) → r < n → p r ≡ p' r) → first_below p n ≡ first_below p' n
first_same {p} {p'} {n} same =
    let first : IsFirstBelow p n (first_below p n) = first_below_lem in
    first_unique
    (record {
      none_before = record {
        place_le = first.none_before.place_le;
        fails = λ r l. sym (same r (omega (arith, first.none_before.place_le))) ∙ first.none_before.fails r l;
      };
      passes = λ l. sym (same (first_below p n) l) ∙ first.passes l;
    })
    first_below_lem
