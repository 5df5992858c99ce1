-- From numbers and places to refusals, for any answer, whatever its counts are. A paper has a refusal's number and place exactly when the answer is that
-- refusal; if the table's place is always 0, the number alone decides. The rows of every call are stated through these laws.
use Prim.Native.Nat.{ℕ}
use mathlib.Core.Logic.{◌↔◌}
use mathlib.Core.Path.{◌≡◌, refl, sym, ap, subst, ◌∙◌}
use native.Mathlib.Omega.{arith}
use Rattle.answers.specs.declared.refusals.Refusal.{Refusal}
use Rattle.answers.specs.declared.refusals.Refusal.TheVariants.{Ring, Allowance, Line, FindingsRoom, BookLength, Field, NotAbove, WordCount, NumberInRecord, OutputRoom, Input, RingMark, RingCode, VertexCount, EqualNeighbours}
use Rattle.answers.specs.Refusals.{number_of, place_of}
use Rattle.answers.specs.Paper.{Answer, accepted, refused, Paper, answer_paper}
use Rattle.answers.proofs.OneAnswer.{refusal_unique, number_in}

-- The table's place for this number is always 0: only rows 6, 7, 9, 11, 14 and 16 give another place.
pub record HasNoPlace (number : ℕ) : Type 0 where
  pub not_6 : number ≡ 6 → ⊥
  pub not_7 : number ≡ 7 → ⊥
  pub not_9 : number ≡ 9 → ⊥
  pub not_11 : number ≡ 11 → ⊥
  pub not_14 : number ≡ 14 → ⊥
  pub not_16 : number ≡ 16 → ⊥

-- Such a refusal has place 0.
place_zero : (r : Refusal) → HasNoPlace (number_of r) → place_of r ≡ 0
place_zero Ring h = refl
place_zero Allowance h = refl
place_zero Line h = refl
place_zero FindingsRoom h = refl
place_zero BookLength h = refl
place_zero (Field place) h = absurd (h.not_6 refl)
place_zero (NotAbove place) h = absurd (h.not_7 refl)
place_zero WordCount h = refl
place_zero (NumberInRecord place) h = absurd (h.not_9 refl)
place_zero OutputRoom h = refl
place_zero (Input place) h = absurd (h.not_11 refl)
place_zero RingMark h = refl
place_zero (RingCode place) h = absurd (h.not_14 refl)
place_zero VertexCount h = refl
place_zero (EqualNeighbours place) h = absurd (h.not_16 refl)

module _ {C : Type 0} (zeros : C) where
  -- If the paper of an answer has the number and place of q, the answer is the refusal q.
  row_back : (a : Answer C) (q : Refusal) → (answer_paper zeros a).number ≡ number_of q → (answer_paper zeros a).place ≡ place_of q → a ≡ refused q
  row_back (accepted counts) q number place = absurd (omega (arith, (number_in q).0))
  row_back (refused p) q number place = ap refused (refusal_unique p q number place)

  -- If the paper of an answer has q's number, and q has no place, it has q's place too: both are 0.
  number_place : (a : Answer C) (q : Refusal) → HasNoPlace (number_of q) → (answer_paper zeros a).number ≡ number_of q → (answer_paper zeros a).place ≡ place_of q
  number_place (accepted counts) q none number = absurd (omega (arith, (number_in q).0))
  number_place (refused p) q none number = place_zero p (subst HasNoPlace (sym number) none) ∙ sym (place_zero q none)

-- The paper p of an answer a, whatever its counts are.
module _ {C : Type 0} (zeros : C) (a : Answer C) {p : Paper C} (paper : p ≡ answer_paper zeros a) where
  -- The paper's number is the answer's.
  number_is : p.number ≡ (answer_paper zeros a).number
  number_is = ap (λ (x : Paper C). x.number) paper

  -- The paper's place is the answer's.
  place_is : p.place ≡ (answer_paper zeros a).place
  place_is = ap (λ (x : Paper C). x.place) paper

  -- The paper has the number and place of q exactly when the answer is the refusal q.
  pub refusal_iff : (q : Refusal) → ((p.number ≡ number_of q) × (p.place ≡ place_of q)) ↔ (a ≡ refused q)
  refusal_iff q = (
    λ e. row_back zeros a q (sym number_is ∙ e.0) (sym place_is ∙ e.1),
    λ e. (number_is ∙ ap (λ (b : Answer C). (answer_paper zeros b).number) e, place_is ∙ ap (λ (b : Answer C). (answer_paper zeros b).place) e),
  )

  module _ (q : Refusal) (none : HasNoPlace (number_of q)) where
    -- If the table's place for q is always 0, the number alone decides: the paper has q's number exactly when the answer is the refusal q.
    pub refusal_number_iff : (p.number ≡ number_of q) ↔ (a ≡ refused q)
    refusal_number_iff = (λ e. row_back zeros a q (sym number_is ∙ e) (number_place zeros a q none (sym number_is ∙ e)), λ e. ((refusal_iff q).1 e).0)

    -- If the table's place for q is always 0 and the paper has q's number, the paper's place is 0.
    pub refusal_place_is : p.number ≡ number_of q → p.place ≡ 0
    refusal_place_is e = ((refusal_iff q).1 (refusal_number_iff.0 e)).1 ∙ place_zero q none
