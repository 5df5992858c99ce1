-- Exactly when each row of a call's list is the first that is given: when it is given itself ("Given exactly when") and no row before it is. A call states for
-- each row when it is given and when it is not (`IsRow`). Its laws follow row by row: `past_row` for each row before, `at_row` for the row itself, and `no_row`
-- for the case that none is given. Two rows of a list differ by their numbers (`OtherNumber`).
use Prim.Native.Nat.{ℕ, ◌<◌}
use mathlib.Core.Path.{◌≡◌, refl, sym, ap, subst, ◌∙◌}
use mathlib.Core.Bool.{Bool, true, false, false≢true}
use mathlib.Core.Logic.Iff
use mathlib.Core.Logic.{◌↔◌}
use mathlib.Core.List.{List, [], ◌∷◌, ◌++◌}
use Rattle.std.specs.Prelude.{Option, None, Some}
use native.Mathlib.Omega.{arith}
use lib.Dec.{ltb}
use borrow.Author.Tests.{ltb-true, lt-ltb}
use Rattle.answers.specs.declared.refusals.Refusal.{Refusal}
use Rattle.answers.specs.Refusals.{number_of, place_of}
use Rattle.answers.specs.Rows.{row, first_given}
use Rattle.answers.proofs.FirstRow.{none_some, row_iff, first_append_none, first_append_some}

-- The first row given in the list has this refusal exactly when P holds.
pub record FirstExactly (rows : List (Option Refusal)) (refusal : Refusal) (P : Type 0) : Type 0 where
  pub exactly : (first_given rows ≡ Some refusal) ↔ P

-- No row of the list is given exactly when P holds.
pub record NoneExactly (rows : List (Option Refusal)) (P : Type 0) : Type 0 where
  pub exactly : (first_given rows ≡ None) ↔ P

-- The two refusals have different numbers.
abbrev pub OtherNumber : Refusal → Refusal → Type 0
OtherNumber q refusal = number_of refusal ≡ number_of q → ⊥

-- The row gives its refusal exactly when `Yes` holds, gives none exactly when `No` holds, and gives no other refusal.
pub record IsRow (o : Option Refusal) (refusal : Refusal) (Yes No : Type 0) : Type 0 where
  pub yes : (o ≡ Some refusal) ↔ Yes
  pub no : (o ≡ None) ↔ No
  pub only : (q : Refusal) → o ≡ Some q → q ≡ refusal

-- A row with a test meets `IsRow`, if the test passes exactly when `Yes` holds, and `No` holds exactly when `Yes` does not.
pub is_row : {test : Bool} {refusal : Refusal} {Yes No : Type 0} → ((test ≡ true) ↔ Yes) → (No → Yes → ⊥) → ((Yes → ⊥) → No)
    → IsRow (row test refusal) refusal Yes No
is_row {test = true} passes not_both one_of_lem = record {
  yes = (λ e. passes.0 refl, λ h. refl);
  no = (λ e. absurd (none_some (sym e)), λ h. absurd (not_both h (passes.0 refl)));
  only = λ q e. cc;
}
is_row {test = false} passes not_both one_of_lem = record {
  yes = (λ e. absurd (none_some e), λ h. absurd (false≢true (passes.1 h)));
  no = (λ e. one_of_lem (λ h. false≢true (passes.1 h)), λ h. refl);
  only = λ q e. absurd (none_some e);
}

-- A row whose place is the first of its kind: f is the first if it is below n, and the row's test is whether it is. The row gives the refusal with place p exactly when p is
-- the first.
pub first_place_iff : {f n : ℕ} {First : ℕ → Type 0} (at : ℕ → Refusal) → ((p : ℕ) → place_of (at p) ≡ p) → (f < n → First f)
    → ((p : ℕ) → First p → (p ≡ f) × (p < n)) → (p : ℕ) → (row (ltb f n) (at f) ≡ Some (at p)) ↔ First p
first_place_iff {f} {n} {First} at place_is is_first only p = (
  λ e.
      let given = (row_iff (ltb f n) (at f) (at p)).0 e in
      let same : p ≡ f = sym (place_is p) ∙ ap place_of given.1 ∙ place_is f in
      subst First (sym same) (is_first (ltb-true f n given.0)),
  λ first.
      let is = only p first in
      (row_iff (ltb f n) (at f) (at p)).1 (lt-ltb f n (omega (arith, is.0, is.1)), ap at is.0),
)

-- P holds for the refusal of every row of the list that is given.
pub data EachRow (P : Refusal → Type 0) : List (Option Refusal) → Type 0 where
  end : EachRow P []
  each : {o : Option Refusal} {rows : List (Option Refusal)} → ((q : Refusal) → o ≡ Some q → P q) → EachRow P rows → EachRow P (o ∷ rows)

-- If P holds for every row that is given, it holds for the first of them.
pub first_has : {P : Refusal → Type 0} {rows : List (Option Refusal)} → EachRow P rows → (q : Refusal) → first_given rows ≡ Some q → P q
unfolding first_given
first_has end q e = absurd (none_some e)
first_has (each {o = None} this others) q e = first_has others q e
first_has (each {o = Some r} this others) q e = this q e

-- The row o is the first with q exactly when it gives q, if no later row gives q first.
here_iff : (o : Option Refusal) (rows : List (Option Refusal)) (q : Refusal) → (first_given rows ≡ Some q → ⊥)
    → (first_given (o ∷ rows) ≡ Some q) ↔ (o ≡ Some q)
unfolding first_given
here_iff None rows q no_later = (λ e. absurd (no_later e), λ e. absurd (none_some e))
here_iff (Some r) rows q no_later = Iff.rfl

-- A later row is the first with q exactly when o is not given and that row is the first of the others, if o does not give q.
later_iff : (o : Option Refusal) (rows : List (Option Refusal)) (q : Refusal) → (o ≡ Some q → ⊥)
    → (first_given (o ∷ rows) ≡ Some q) ↔ ((o ≡ None) × (first_given rows ≡ Some q))
unfolding first_given
later_iff None rows q not_this = (λ e. (refl, e), λ h. h.1)
later_iff (Some r) rows q not_this = (λ e. absurd (not_this e), λ h. absurd (none_some (sym h.0)))

-- No row is given exactly when o is not and none of the others is.
none_given_iff : (o : Option Refusal) (rows : List (Option Refusal)) → (first_given (o ∷ rows) ≡ None) ↔ ((o ≡ None) × (first_given rows ≡ None))
unfolding first_given
none_given_iff None rows = (λ e. (refl, e), λ h. h.1)
none_given_iff (Some r) rows = (λ e. absurd (none_some (sym e)), λ h. absurd (none_some (sym h.0)))

-- A row o that can give several refusals, as the first faulty field or record does. When it gives q, and when it gives none, are two separate hypotheses.
module _ {o : Option Refusal} {rows : List (Option Refusal)} where
  -- The row o is the first with q exactly when it gives q, if no later row has q's number.
  pub at_fault : {q : Refusal} {Yes : Type 0} → ((o ≡ Some q) ↔ Yes) → EachRow (OtherNumber q) rows → FirstExactly (o ∷ rows) q Yes
  at_fault {q} given others = record { exactly = Iff.trans (here_iff o rows q (λ e. first_has others q e refl)) given }

  -- A later row is the first with q exactly when o is not given and that row is the first of the others, if o does not give q.
  pub past_fault : {q : Refusal} {No P : Type 0} → ((o ≡ None) ↔ No) → (o ≡ Some q → ⊥) → FirstExactly rows q P → FirstExactly (o ∷ rows) q (No × P)
  past_fault {q} not_given other rest = record { exactly = Iff.trans (later_iff o rows q other) (Iff.and not_given rest.exactly) }

  -- No row is given exactly when o is not and none of the others is.
  pub no_fault : {No P : Type 0} → ((o ≡ None) ↔ No) → NoneExactly rows P → NoneExactly (o ∷ rows) (No × P)
  no_fault not_given rest = record { exactly = Iff.trans (none_given_iff o rows) (Iff.and not_given rest.exactly) }

module _ {o : Option Refusal} {refusal : Refusal} {Yes No : Type 0} (is : IsRow o refusal Yes No) where
  -- If P holds for the row's refusal and for every other row that is given, it holds for every row of the list that is given.
  pub row_has : {P : Refusal → Type 0} {rows : List (Option Refusal)} → P refusal → EachRow P rows → EachRow P (o ∷ rows)
  row_has {P} h others = each (λ q e. subst P (sym (is.only q e)) h) others

  -- The row is the first exactly when it is given, if no later row has its number.
  pub at_row : {rows : List (Option Refusal)} → EachRow (OtherNumber refusal) rows → FirstExactly (o ∷ rows) refusal Yes
  at_row others = at_fault is.yes others

  -- A later row is the first exactly when this row is not given and that row is the first of the others, if their numbers differ.
  pub past_row : {rows : List (Option Refusal)} {q : Refusal} {P : Type 0} → OtherNumber q refusal → FirstExactly rows q P → FirstExactly (o ∷ rows) q (No × P)
  past_row {q = q} other rest = past_fault is.no (λ e. other (sym (ap number_of (is.only q e)))) rest

  -- No row is given exactly when this row is not and none of the others is.
  pub no_row : {rows : List (Option Refusal)} {P : Type 0} → NoneExactly rows P → NoneExactly (o ∷ rows) (No × P)
  no_row rest = no_fault is.no rest

  -- In a list of this row alone, no row is given exactly when `No` holds.
  pub no_last_row : NoneExactly (o ∷ []) No
  unfolding first_given
  no_last_row = record { exactly = Iff.trans (none_given_iff o []) (λ h. is.no.0 h.0, λ h. (is.no.1 h, refl)) }

-- In a list of two parts, a row of the first part is the first with q exactly when it is so in that part, if the second part does not give q first.
pub early_iff : (a b : List (Option Refusal)) (q : Refusal) → (first_given b ≡ Some q → ⊥) → (first_given (a ++ b) ≡ Some q) ↔ (first_given a ≡ Some q)
early_iff a b q not_late = (λ e. back (first_given a) refl e, first_append_some a b)
  where
    back : (o : Option Refusal) → first_given a ≡ o → first_given (a ++ b) ≡ Some q → first_given a ≡ Some q
    back None h e = absurd (not_late (sym (first_append_none a b h) ∙ e))
    back (Some r) h e = h ∙ sym (first_append_some a b h) ∙ e

-- In a list of two parts, a row of the second part is the first with q exactly when no row of the first part is given and it is the first of its own part, if
-- the first part does not give q first.
pub late_iff : (a b : List (Option Refusal)) (q : Refusal) → (first_given a ≡ Some q → ⊥)
    → (first_given (a ++ b) ≡ Some q) ↔ ((first_given a ≡ None) × (first_given b ≡ Some q))
late_iff a b q not_early = (λ e. back (first_given a) refl e, λ h. first_append_none a b h.0 ∙ h.1)
  where
    back : (o : Option Refusal) → first_given a ≡ o → first_given (a ++ b) ≡ Some q → (first_given a ≡ None) × (first_given b ≡ Some q)
    back None h e = (h, sym (first_append_none a b h) ∙ e)
    back (Some r) h e = absurd (not_early (h ∙ sym (first_append_some a b h) ∙ e))

-- In a list of two parts no row is given exactly when none is given in either part.
pub none_append_iff : (a b : List (Option Refusal)) → (first_given (a ++ b) ≡ None) ↔ ((first_given a ≡ None) × (first_given b ≡ None))
none_append_iff a b = (λ e. back (first_given a) refl e, λ h. first_append_none a b h.0 ∙ h.1)
  where
    back : (o : Option Refusal) → first_given a ≡ o → first_given (a ++ b) ≡ None → (first_given a ≡ None) × (first_given b ≡ None)
    back None h e = (h, sym (first_append_none a b h) ∙ e)
    back (Some r) h e = absurd (none_some (sym e ∙ first_append_some a b h))
