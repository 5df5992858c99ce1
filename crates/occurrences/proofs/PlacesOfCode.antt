-- Which places have a code, among a ring's first n + 1 places: the same as among the first n, and place n if it has the code.
use mathlib.Core.Path.{◌≡◌, refl, ◌∙◌}
use mathlib.Core.Bool.{true, false}
use mathlib.Core.List.{List}
use mathlib.Core.Logic.{dite}
use Prim.Native.Nat.{ℕ, ◌+◌, ◌≤◌, ◌<◌}
use native.Mathlib.Decide.{dec_lt, ℕ_discrete}
use native.Mathlib.Omega.{arith}
use lib.ListN.{get_or}
use lib.Dec.{ltb, eqb}
use borrow.Author.Tests.{ltb-true, lt-ltb, le-ltb, eqb-true, eq-eqb, ne_eqb}
use Rattle.lists.proofs.Cases.{and_true}
use Rattle.occurrences.specs.Storing.{has_code}

module _ (ring : List ℕ) where
  -- A place that has the code is one of the first n, and its edge is the code.
  pub has_code_is : (n code q : ℕ) → has_code ring n code q ≡ true → (q < n) × (get_or ring q 0 ≡ code)
  unfolding has_code
  has_code_is n code q e =
      let both : (ltb q n ≡ true) × (eqb (get_or ring q 0) code ≡ true) = and_true (ltb q n) (eqb (get_or ring q 0) code) e in
      (ltb-true q n both.0, eqb-true (get_or ring q 0) code both.1)

  -- Among the first n places, whether a place has the code is whether its edge is the code.
  pub has_code_below : (n code q : ℕ) → q < n → has_code ring n code q ≡ eqb (get_or ring q 0) code
  unfolding has_code
  has_code_below n code q h = rw (lt-ltb q n h) refl

  -- From n on no place has a code.
  pub has_code_past : (n code q : ℕ) → n ≤ q → has_code ring n code q ≡ false
  unfolding has_code
  has_code_past n code q h = rw (le-ltb q n h) refl

  -- Among n + 1 places, place n has its own code.
  pub has_code_new : (n : ℕ) → has_code ring (n + 1) (get_or ring n 0) n ≡ true
  has_code_new n = has_code_below (n + 1) (get_or ring n 0) n (omega arith) ∙ eq-eqb (get_or ring n 0) (get_or ring n 0) refl

  -- For any other place or code nothing changes.
  pub has_code_same : (n code q : ℕ) → (q ≡ n → get_or ring n 0 ≡ code → ⊥) → has_code ring (n + 1) code q ≡ has_code ring n code q
  has_code_same n code q other = dite (dec_lt q n)
      (λ below. rw (has_code_below (n + 1) code q (omega arith), has_code_below n code q below) refl)
      (λ above. rw (has_code_past n code q (omega (arith, above))) (dite (ℕ_discrete q n)
      (λ here. rw here (has_code_below (n + 1) code n (omega arith) ∙ ne_eqb (get_or ring n 0) code (other here)))
      (λ past. has_code_past (n + 1) code q (omega (arith, above, past)))))
