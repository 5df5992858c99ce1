-- A place converted and converted back is the same place, both ways. Window place q becomes the ring place (r + q) mod m. Adding m − r gives (q + m) mod m,
-- which is q. Required: the rotation is below m, the place is in the window or the ring, and start + m is at most the largest usize. Every window of document
-- 01 meets this, because its lines have at most 65,536 edges.
use Prim.Native.Nat.{ℕ, ◌+◌, ◌-◌, ◌%◌, ◌≤◌, ◌<◌, min}
use mathlib.Core.Path.{◌≡◌, ap, ◌∙◌}
use native.Mathlib.Nat.{mod-eq_of_lt, mod-add-mod, add-mod-mod, add-mod_right}
use native.Mathlib.Omega.{arith}
use Rattle.answers.specs.declared.places.RingPlace.{RingPlace}
use Rattle.answers.specs.declared.places.LinePlace.{LinePlace}
use Rattle.answers.specs.Places.{around, last_place, ring_place_of, line_place_of}
use Rattle.answers.proofs.AroundRing.{around_is, around_lt}

-- Two ring places with the same number are equal.
ring_place_eq : (a b : RingPlace) → a.0 ≡ b.0 → a ≡ b
ring_place_eq a b e = ap (λ (n : ℕ). record { 0 = n }) e

-- Two line places with the same number are equal.
line_place_eq : (a b : LinePlace) → a.0 ≡ b.0 → a ≡ b
line_place_eq a b e = ap (λ (n : ℕ). record { 0 = n }) e

module _ (start : LinePlace) (rotation : RingPlace) (m : ℕ) (turned : rotation.0 < m) where
  -- The document's rule: place q of the window is over the ring place (rotation + q) mod m.
  pub ring_place_is : (place : LinePlace) (q : ℕ) → place.0 ≡ start.0 + q → (ring_place_of place start rotation m).0 ≡ (rotation.0 + q) % m
  unfolding ring_place_of
  ring_place_is place q e =
      let along : place.0 - start.0 ≡ q = omega arith in
      ap (λ (n : ℕ). around m (rotation.0 + n)) along ∙ around_is m (rotation.0 + q) (omega arith)

  -- Every line place becomes a ring place below m.
  pub ring_place_lt : (place : LinePlace) → (ring_place_of place start rotation m).0 < m
  unfolding ring_place_of
  ring_place_lt place = around_lt m (rotation.0 + (place.0 - start.0)) (omega arith)

module _ (start : LinePlace) (rotation : RingPlace) (m : ℕ) (turned : rotation.0 < m) (ends : start.0 + m ≤ last_place) where
  -- The place within the window of a ring place.
  way : RingPlace → ℕ
  way place = around m (place.0 + (m - rotation.0))

  -- It is below m.
  way_lt : (place : RingPlace) → way place < m
  unfolding way
  way_lt place = around_lt m (place.0 + (m - rotation.0)) (omega arith)

  -- (z + m) mod m is z, for z below m.
  whole_turn : (a z : ℕ) → a ≡ z + m → z < m → a % m ≡ z
  whole_turn a z e h = ap (λ (n : ℕ). n % m) e ∙ add-mod_right z m ∙ mod-eq_of_lt h

  -- Window place q, to the ring and back, is q.
  way_of_sum : (q : ℕ) → q < m → around m (around m (rotation.0 + q) + (m - rotation.0)) ≡ q
  way_of_sum q h =
      let r : ℕ = rotation.0 in
      around_is m (around m (r + q) + (m - r)) (omega arith)
      ∙ ap (λ (n : ℕ). (n + (m - r)) % m) (around_is m (r + q) (omega arith))
      ∙ mod-add-mod (r + q) m (m - r)
      ∙ whole_turn (r + q + (m - r)) q (omega arith) h

  -- Ring place z, to the window and back, is z.
  sum_of_way : (z : ℕ) → z < m → around m (rotation.0 + around m (z + (m - rotation.0))) ≡ z
  sum_of_way z h =
      let r : ℕ = rotation.0 in
      around_is m (r + around m (z + (m - r))) (omega arith)
      ∙ ap (λ (n : ℕ). (r + n) % m) (around_is m (z + (m - r)) (omega arith))
      ∙ add-mod-mod r (z + (m - r)) m
      ∙ whole_turn (r + (z + (m - r))) z (omega arith) h

  -- A ring place becomes the line place start + its place within the window; no cap is needed.
  line_place_is : (place : RingPlace) → (line_place_of place start rotation m).0 ≡ start.0 + way place
  unfolding line_place_of way
  line_place_is place =
      ap (λ (n : ℕ). min (start.0 + around m (place.0 + (m - n))) last_place) (mod-eq_of_lt turned) ∙ omega (arith, way_lt place)

  -- A line place of the window, turned into a ring place and back, is the same line place.
  pub line_of_ring : (place : LinePlace) → start.0 ≤ place.0 → place.0 < start.0 + m → line_place_of (ring_place_of place start rotation m) start rotation m ≡ place
  unfolding ring_place_of way
  line_of_ring place from below =
      line_place_eq (line_place_of (ring_place_of place start rotation m) start rotation m) place
      (line_place_is (ring_place_of place start rotation m)
      ∙ ap (λ (n : ℕ). start.0 + n) (way_of_sum (place.0 - start.0) (omega arith))
      ∙ omega arith)

  -- A ring place below m, turned into a line place and back, is the same ring place.
  pub ring_of_line : (place : RingPlace) → place.0 < m → ring_place_of (line_place_of place start rotation m) start rotation m ≡ place
  unfolding ring_place_of way
  ring_of_line place below =
      let along : (line_place_of place start rotation m).0 - start.0 ≡ around m (place.0 + (m - rotation.0)) = omega (arith, line_place_is place) in
      ring_place_eq (ring_place_of (line_place_of place start rotation m) start rotation m) place
      (ap (λ (n : ℕ). around m (rotation.0 + n)) along ∙ sum_of_way place.0 below)

  -- Every ring place becomes a line place of the window.
  pub line_place_in : (place : RingPlace) → (start.0 ≤ (line_place_of place start rotation m).0) × ((line_place_of place start rotation m).0 < start.0 + m)
  line_place_in place = (omega (arith, line_place_is place), omega (arith, line_place_is place, way_lt place))
