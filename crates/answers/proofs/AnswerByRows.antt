-- A call's answer is decided by o, the first row that is given. Its paper has a refusal's number and place exactly when o is that refusal, and number 0 exactly
-- when no row is given. A refusal has "zero in every count" and leaves a lent area as it was. By cases of o, and the laws of RefusalNumbers.
use Prim.Native.Nat.{ℕ, ◌<◌}
use mathlib.Core.Path.{◌≡◌, refl, sym, ap, ◌∙◌}
use mathlib.Core.Logic.Iff
use mathlib.Core.Logic.{◌↔◌}
use mathlib.Core.List.{List}
use Rattle.std.specs.Prelude.{Option, None, Some}
use native.Mathlib.Omega.{arith}
use Rattle.answers.specs.declared.refusals.Refusal.{Refusal}
use Rattle.answers.specs.Refusals.{number_of, place_of}
use Rattle.answers.specs.Paper.{accepted, refused, Paper, answer_paper}
use Rattle.answers.specs.Rows.{answer_by, area_by}
use Rattle.answers.proofs.OneAnswer.{number_in}
use Rattle.answers.proofs.RefusalNumbers.{HasNoPlace, refusal_iff, refusal_number_iff}

-- The answer is the refusal q exactly when the first row that is given has q.
pub answer_refused_iff : {A : Type 0} (a : A) (o : Option Refusal) (q : Refusal) → (answer_by o a ≡ refused q) ↔ (o ≡ Some q)
answer_refused_iff a None q = (
  λ h. absurd (let z : ◌≡◌ {A = ℕ} 0 1 = cc in omega arith),
  λ h. absurd (let z : ◌≡◌ {A = ℕ} 0 1 = cc in omega arith),
)
answer_refused_iff a (Some p) q = (λ h. cc, λ h. cc)

-- The answer is accepted with b exactly when no row is given and the call's result is b.
pub answer_gives_iff : {A : Type 0} (a b : A) (o : Option Refusal) → (answer_by o a ≡ accepted b) ↔ ((o ≡ None) × (a ≡ b))
answer_gives_iff a b None = (λ h. (refl, cc), λ h. ap accepted h.1)
answer_gives_iff a b (Some p) = (
  λ h. absurd (let z : ◌≡◌ {A = ℕ} 0 1 = cc in omega arith),
  λ h. absurd (let e : Some p ≡ None = h.0 in let z : ◌≡◌ {A = ℕ} 0 1 = cc in omega arith),
)

-- The paper, by cases of o.
module _ {C : Type 0} (zeros counts : C) where
  -- The number is 0 exactly when no row is given, because no row has number 0.
  number_zero_iff : (o : Option Refusal) → ((answer_paper zeros (answer_by o counts)).number ≡ 0) ↔ (o ≡ None)
  number_zero_iff None = (λ e. refl, λ e. refl)
  number_zero_iff (Some q) = (
    λ e. absurd (omega (arith, (number_in q).0)),
    λ h. absurd (let z : ◌≡◌ {A = ℕ} 0 1 = cc in omega arith),
  )

  -- A refusal's counts are zero.
  counts_zero : (o : Option Refusal) → 0 < (answer_paper zeros (answer_by o counts)).number → (answer_paper zeros (answer_by o counts)).counts ≡ zeros
  counts_zero None l = absurd (omega arith)
  counts_zero (Some q) l = refl

  -- A refusal leaves an area as it was.
  area_kept : (o : Option Refusal) (new old : List ℕ) → 0 < (answer_paper zeros (answer_by o counts)).number → area_by o new old ≡ old
  area_kept None new old l = absurd (omega arith)
  area_kept (Some q) new old l = refl

-- The paper p of an answer that o decides, whatever its counts are.
module _ {C : Type 0} (zeros counts : C) (o : Option Refusal) {p : Paper C} (paper : p ≡ answer_paper zeros (answer_by o counts)) where
  -- The paper's number is the answer's.
  number_is : p.number ≡ (answer_paper zeros (answer_by o counts)).number
  number_is = ap (λ (x : Paper C). x.number) paper

  -- The paper has the number and place of q exactly when the first row that is given has q.
  pub row_place_iff : (q : Refusal) → ((p.number ≡ number_of q) × (p.place ≡ place_of q)) ↔ (o ≡ Some q)
  row_place_iff q = Iff.trans (refusal_iff zeros (answer_by o counts) paper q) (answer_refused_iff counts o q)

  -- If the table's place for q is always 0, the number alone decides: the paper has q's number exactly when the first row that is given has q.
  pub row_number_iff : (q : Refusal) → HasNoPlace (number_of q) → (p.number ≡ number_of q) ↔ (o ≡ Some q)
  row_number_iff q no_place = Iff.trans (refusal_number_iff zeros (answer_by o counts) paper q no_place) (answer_refused_iff counts o q)

  -- The paper has number 0 exactly when no row is given.
  pub accepted_number_iff : (p.number ≡ 0) ↔ (o ≡ None)
  accepted_number_iff = Iff.trans (λ e. sym number_is ∙ e, λ e. number_is ∙ e) (number_zero_iff zeros counts o)

  -- If no row is given, the counts are the call's.
  pub accepted_counts : o ≡ None → p.counts ≡ counts
  accepted_counts e = ap (λ (x : Paper C). x.counts) paper ∙ rw e refl

  -- A refusal has "zero in every count".
  pub refused_counts : 0 < p.number → p.counts ≡ zeros
  refused_counts l = ap (λ (x : Paper C). x.counts) paper ∙ counts_zero zeros counts o (omega (arith, number_is))

  -- A refusal "writes nothing to any lent area".
  pub refused_area : (new old : List ℕ) {out : List ℕ} → out ≡ area_by o new old → 0 < p.number → out ≡ old
  refused_area new old e l = e ∙ area_kept zeros counts o new old (omega (arith, number_is))

  -- If no row is given, the area has the new content.
  pub accepted_area : (new old : List ℕ) {out : List ℕ} → out ≡ area_by o new old → o ≡ None → out ≡ new
  accepted_area new old e accepted_is = e ∙ rw accepted_is refl

  -- If P holds for 0 and for the number of every row that can be given, it holds for the paper's number.
  pub number_by : (P : ℕ → Type 0) → P 0 → ((q : Refusal) → o ≡ Some q → P (number_of q)) → P p.number
  number_by P zero_has each = rw number_is (by_row P zero_has o each)
    where
      by_row : (P : ℕ → Type 0) → P 0 → (o : Option Refusal) → ((q : Refusal) → o ≡ Some q → P (number_of q)) → P (answer_paper zeros (answer_by o counts)).number
      by_row P zero_has None each = zero_has
      by_row P zero_has (Some q) each = each q refl

  -- If every row that can be given has place 0, so has the paper.
  pub place_by : ((q : Refusal) → o ≡ Some q → place_of q ≡ 0) → p.place ≡ 0
  place_by each = ap (λ (x : Paper C). x.place) paper ∙ by_row o each
    where
      by_row : (o : Option Refusal) → ((q : Refusal) → o ≡ Some q → place_of q ≡ 0) → (answer_paper zeros (answer_by o counts)).place ≡ 0
      by_row None each = refl
      by_row (Some q) each = each q refl

  -- If every row that can be given has place 0, except those with one number, an answer with another number has place 0.
  pub place_unless : (its_number : ℕ) → ((q : Refusal) → o ≡ Some q → (number_of q ≡ its_number → ⊥) → place_of q ≡ 0) → (p.number ≡ its_number → ⊥) → p.place ≡ 0
  place_unless its_number each other = ap (λ (x : Paper C). x.place) paper ∙ by_row o each (λ is. other (number_is ∙ is))
    where
      by_row : (o : Option Refusal) → ((q : Refusal) → o ≡ Some q → (number_of q ≡ its_number → ⊥) → place_of q ≡ 0)
          → ((answer_paper zeros (answer_by o counts)).number ≡ its_number → ⊥) → (answer_paper zeros (answer_by o counts)).place ≡ 0
      by_row None each other = refl
      by_row (Some q) each other = each q refl other
