-- Number and place determine the refusal, and the paper determines the answer, whatever its counts are. `refusal_of` and `answer_with` compute the refusal and
-- the answer back, so two with the same paper are equal. So any two answers that meet a contract on the paper are equal. The last four laws are about the
-- functions of this crate, whose contracts are one equation each.
use Prim.Native.Nat.{ℕ, ◌≤◌}
use mathlib.Core.Path.{◌≡◌, refl, sym, ap, ap₂, ◌∙◌}
use mathlib.Core.Bool.{cond}
use native.Mathlib.Omega.{arith}
use lib.Dec.{eqb}
use borrow.Author.Tests.{ne_eqb}
use Rattle.answers.specs.declared.refusals.Refusal.{Refusal}
use Rattle.answers.specs.declared.refusals.Refusal.TheVariants.{Ring, Allowance, Line, FindingsRoom, BookLength, Field, NotAbove, WordCount, NumberInRecord, OutputRoom, Input, RingMark, RingCode, VertexCount, EqualNeighbours}
use Rattle.answers.specs.declared.places.RingPlace.{RingPlace}
use Rattle.answers.specs.declared.places.LinePlace.{LinePlace}
use Rattle.answers.specs.Refusals.{number_of, place_of, IsNumber, IsPlace}
use Rattle.answers.specs.Places.{IsRingPlace, IsLinePlace}
use Rattle.answers.specs.Paper.{Answer, accepted, refused, Paper, answer_paper}

-- The refusal that has this number and this place, for a number of the table.
unfoldable refusal_of : ℕ → ℕ → Refusal
refusal_of number place =
    cond (eqb number 1) Ring
    (cond (eqb number 2) Allowance
    (cond (eqb number 3) Line
    (cond (eqb number 4) FindingsRoom
    (cond (eqb number 5) BookLength
    (cond (eqb number 6) (Field place)
    (cond (eqb number 7) (NotAbove place)
    (cond (eqb number 8) WordCount
    (cond (eqb number 9) (NumberInRecord place)
    (cond (eqb number 10) OutputRoom
    (cond (eqb number 11) (Input place)
    (cond (eqb number 12) RingMark
    (cond (eqb number 14) (RingCode place)
    (cond (eqb number 15) VertexCount (EqualNeighbours place))))))))))))))

-- From its number and place a refusal is computed back.
refusal_back : (r : Refusal) → refusal_of (number_of r) (place_of r) ≡ r
unfolding refusal_of
refusal_back Ring = refl
refusal_back Allowance = refl
refusal_back Line = refl
refusal_back FindingsRoom = refl
refusal_back BookLength = refl
refusal_back (Field place) = refl
refusal_back (NotAbove place) = refl
refusal_back WordCount = refl
refusal_back (NumberInRecord place) = refl
refusal_back OutputRoom = refl
refusal_back (Input place) = refl
refusal_back RingMark = refl
refusal_back (RingCode place) = refl
refusal_back VertexCount = refl
refusal_back (EqualNeighbours place) = refl

-- Number and place determine the refusal.
pub refusal_unique : (a b : Refusal) → number_of a ≡ number_of b → place_of a ≡ place_of b → a ≡ b
refusal_unique a b n p = sym (refusal_back a) ∙ ap₂ refusal_of n p ∙ refusal_back b

-- The numbers of refusals are among 1 to 16.
pub number_in : (r : Refusal) → (1 ≤ number_of r) × (number_of r ≤ 16)
number_in Ring = omega arith
number_in Allowance = omega arith
number_in Line = omega arith
number_in FindingsRoom = omega arith
number_in BookLength = omega arith
number_in (Field place) = omega arith
number_in (NotAbove place) = omega arith
number_in WordCount = omega arith
number_in (NumberInRecord place) = omega arith
number_in OutputRoom = omega arith
number_in (Input place) = omega arith
number_in RingMark = omega arith
number_in (RingCode place) = omega arith
number_in VertexCount = omega arith
number_in (EqualNeighbours place) = omega arith

module _ {C : Type 0} (zeros : C) where
  -- The answer that has this paper.
  unfoldable answer_with : Paper C → Answer C
  answer_with p = cond (eqb p.number 0) (accepted p.counts) (refused (refusal_of p.number p.place))

  -- From its paper an answer is computed back.
  answer_back_lem : (a : Answer C) → answer_with (answer_paper zeros a) ≡ a
  unfolding answer_with
  answer_back_lem (accepted counts) = refl
  answer_back_lem (refused r) = rw (ne_eqb (number_of r) 0 (λ e. omega (arith, (number_in r).0))) (ap refused (refusal_back r))

  -- The paper determines the answer.
  pub answer_unique : (a b : Answer C) → answer_paper zeros a ≡ answer_paper zeros b → a ≡ b
  answer_unique a b e = sym (answer_back_lem a) ∙ ap answer_with e ∙ answer_back_lem b

-- Any two answers of `Refusal::number` are equal.
pub number_of_unique : (refusal : Refusal) (a b : ℕ) → IsNumber refusal a → IsNumber refusal b → a ≡ b
number_of_unique refusal a b s t = s.is ∙ sym t.is

-- Any two answers of `Refusal::place` are equal.
pub place_of_unique : (refusal : Refusal) (a b : ℕ) → IsPlace refusal a → IsPlace refusal b → a ≡ b
place_of_unique refusal a b s t = s.is ∙ sym t.is

-- Any two answers of `to_ring` are equal.
pub to_ring_unique : (place start : LinePlace) (rotation : RingPlace) (m : ℕ) (a b : RingPlace) → IsRingPlace place start rotation m a
    → IsRingPlace place start rotation m b → a ≡ b
to_ring_unique place start rotation m a b s t = s.is ∙ sym t.is

-- Any two answers of `to_line` are equal.
pub to_line_unique : (place : RingPlace) (start : LinePlace) (rotation : RingPlace) (m : ℕ) (a b : LinePlace) → IsLinePlace place start rotation m a
    → IsLinePlace place start rotation m b → a ≡ b
to_line_unique place start rotation m a b s t = s.is ∙ sym t.is
