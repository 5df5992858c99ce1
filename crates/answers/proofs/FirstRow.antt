-- The first row of a list that is given. `first_given` has a refusal exactly when `IsFirst` holds for it (`first_iff`), and none exactly when no row is given
-- (`none_iff`). Either no row is given or exactly one refusal is the first (`one_or_none`, `first_unique`, `first_some`). In a list of two parts the first part
-- decides if it has a row that is given, else the second (`first_append_some`, `first_append_none`). Induction on the list.
use Prim.Native.Nat.{ℕ}
use mathlib.Core.Path.{◌≡◌, refl, sym, ap, ◌∙◌}
use mathlib.Core.Bool.{Bool, true, false}
use mathlib.Core.Logic.{◌↔◌, ◌⊎◌, inl, inr}
use mathlib.Core.List.{List, [], ◌∷◌, ◌++◌}
use Rattle.std.specs.Prelude.{Option, None, Some}
use native.Mathlib.Omega.{arith}
use Rattle.answers.specs.declared.refusals.Refusal.{Refusal}
use Rattle.answers.specs.Rows.{row, first_given, NoneGiven, IsFirst}

-- `none` is not `some q`.
pub none_some : {q : Refusal} → None ≡ Some q → ⊥
none_some e = let z : ◌≡◌ {A = ℕ} 0 1 = cc in omega arith

-- A row gives the refusal r exactly when its test is true and r is its refusal.
pub row_iff : (test : Bool) (refusal r : Refusal) → (row test refusal ≡ Some r) ↔ ((test ≡ true) × (r ≡ refusal))
row_iff true refusal r = (λ e. (refl, cc), λ h. cc)
row_iff false refusal r = (λ e. absurd (none_some e), λ h. absurd (let z : ◌≡◌ {A = ℕ} 0 1 = cc in omega arith))

-- If no row of the first part of a list is given, the second part decides.
pub first_append_none : (a b : List (Option Refusal)) → first_given a ≡ None → first_given (a ++ b) ≡ first_given b
unfolding first_given
first_append_none [] b e = refl
first_append_none (None ∷ a) b e = first_append_none a b e
first_append_none (Some r ∷ a) b e = absurd (none_some (sym e))

-- If a row of the first part of a list is given, the first part decides.
pub first_append_some : (a b : List (Option Refusal)) {r : Refusal} → first_given a ≡ Some r → first_given (a ++ b) ≡ Some r
unfolding first_given
first_append_some [] b e = absurd (none_some e)
first_append_some (None ∷ a) b e = first_append_some a b e
first_append_some (Some r ∷ a) b e = e

-- `first_given` has none exactly when no row of the list is given.
pub none_iff : (rows : List (Option Refusal)) → (first_given rows ≡ None) ↔ NoneGiven rows
unfolding first_given
none_iff [] = (λ e. tt, λ h. refl)
none_iff (None ∷ rows) = (λ e. (refl, (none_iff rows).0 e), λ h. (none_iff rows).1 h.1)
none_iff (Some r ∷ rows) = (λ e. absurd (none_some (sym e)), λ h. absurd (none_some (sym h.0)))

-- If `first_given` has r, the list splits into the rows before it, none of them given, the row with r, and the rows after it.
first_is : (rows : List (Option Refusal)) {r : Refusal} → first_given rows ≡ Some r → IsFirst rows r
unfolding first_given
first_is [] e = absurd (none_some e)
first_is (None ∷ rows) e =
    let is = first_is rows e in
    record { earlier = None ∷ is.earlier; later = is.later; rows_are = ap (λ (l : List (Option Refusal)). None ∷ l) is.rows_are; none_before = (refl, is.none_before) }
first_is (Some q ∷ rows) e =
    record { earlier = []; later = rows; rows_are = ap (λ (o : Option Refusal). o ∷ rows) e; none_before = tt }

-- `first_given` gives a refusal exactly when a row of the list does and no row before it is given.
pub first_iff : (rows : List (Option Refusal)) (r : Refusal) → (first_given rows ≡ Some r) ↔ IsFirst rows r
unfolding first_given
first_iff rows r = (first_is rows, back)
  where
    back : IsFirst rows r → first_given rows ≡ Some r
    back is =
        ap first_given is.rows_are ∙ first_append_none is.earlier (Some r ∷ is.later) ((none_iff is.earlier).1 is.none_before)

-- Either no row of the list is given, or some refusal is the first.
pub one_or_none : (rows : List (Option Refusal)) → NoneGiven rows ⊎ ((r : Refusal) × IsFirst rows r)
one_or_none rows = go (first_given rows) refl
  where
    go : (o : Option Refusal) → first_given rows ≡ o → NoneGiven rows ⊎ ((r : Refusal) × IsFirst rows r)
    go None e = inl ((none_iff rows).0 e)
    go (Some r) e = inr (r, first_is rows e)

-- Two refusals that are the first of a list are equal.
pub first_unique : {rows : List (Option Refusal)} {q r : Refusal} → IsFirst rows q → IsFirst rows r → q ≡ r
first_unique {rows} {q} {r} one other = let p = (first_iff rows q).1 one in let s = (first_iff rows r).1 other in cc

-- A list in which some refusal is the first has a row that is given.
pub first_some : {rows : List (Option Refusal)} {r : Refusal} → IsFirst rows r → NoneGiven rows → ⊥
first_some {rows} {r} one no_row = none_some (sym ((none_iff rows).1 no_row) ∙ (first_iff rows r).1 one)
