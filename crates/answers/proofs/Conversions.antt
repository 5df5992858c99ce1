-- What `to_ring` and `to_line` return is what their definitions give: one law for each `return`.
use Prim.Native.Nat.{ℕ, ◌+◌, ◌-◌, ◌%◌, ◌≤◌, min}
use mathlib.Core.Path.{◌≡◌, ap, ◌∙◌}
use native.Mathlib.Omega.{arith}
use Rattle.answers.specs.declared.places.RingPlace.{RingPlace}
use Rattle.answers.specs.declared.places.LinePlace.{LinePlace}
use Rattle.answers.specs.Places.{around, last_place, ring_place_of, line_place_of, IsRingPlace, IsLinePlace}
use Rattle.answers.proofs.AroundRing.{around_none}

module _ (place start : LinePlace) (rotation : RingPlace) (m r : ℕ) where
  -- The return of `to_ring`.
  pub ring_place_from : r ≡ around m (rotation.0 + (place.0 - start.0)) → IsRingPlace place start rotation m (record { 0 = r })
  unfolding ring_place_of
  ring_place_from e = record { is = ap (λ (n : ℕ). record { 0 = n }) e }

module _ (place : RingPlace) (start : LinePlace) (rotation : RingPlace) (m : ℕ) (fits : start.0 ≤ last_place) where
  -- A number that is the definition's meets the contract of `to_line`.
  line_place_of_lem : (r : ℕ) → r ≡ min (start.0 + around m (place.0 + (m - rotation.0 % m))) last_place → IsLinePlace place start rotation m (record { 0 = r })
  unfolding line_place_of
  line_place_of_lem r e = record { is = ap (λ (n : ℕ). record { 0 = n }) e }

  -- The return of `to_line` for m = 0.
  pub line_place_none : m ≡ 0 → IsLinePlace place start rotation m (record { 0 = start.0 })
  line_place_none e = line_place_of_lem start.0 (omega (arith, around_none m (place.0 + (m - rotation.0 % m)) e))

  -- The return of `to_line` for m above 0.
  pub line_place_along : {along r : ℕ} → along ≡ around m (place.0 + (m - rotation.0 % m)) → r ≡ min (start.0 + along) last_place
      → IsLinePlace place start rotation m (record { 0 = r })
  line_place_along {along} {r} e is = line_place_of_lem r (is ∙ ap (λ (q : ℕ). min (start.0 + q) last_place) e)
