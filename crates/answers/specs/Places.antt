-- Document 01, "Meanings": "Ring places and line places are each counted from zero and are never added or compared directly;
-- only the rules below turn one into the other." The rule used is "Rotation r of the ring .. has at its place q the ring's edge (r + q) mod m",
-- for the window at a start: place q of the window is the line place start + q.
--
--   around                     a number mod m
--   last_place                 the largest place, 2^64 − 1
--   ring_place_of              ring place = (rotation + (line place − start)) mod m
--   line_place_of              line place = start + (ring place − rotation) mod m
--   IsRingPlace, IsLinePlace   the contracts of `to_ring` and `to_line`
--
-- In the document m is above 0, a rotation is below m, and a place is within the window or the ring. Here every input has a value. With m = 0 a
-- number mod m is 0. A line place before the start counts as the start. A line place past the window goes round the ring again. A rotation or a
-- ring place of m or more counts mod m. A line place too large for a usize counts as the largest.
use Rattle.std.specs.Prelude.{ℕ, ◌+◌, ◌-◌, ◌^◌, ◌%◌, min, pred, ◌≡◌, cond, eqb}
use Rattle.answers.specs.declared.places.RingPlace.{RingPlace}
use Rattle.answers.specs.declared.places.LinePlace.{LinePlace}

-- A number mod m, and 0 if m is 0.
unfoldable pub around : ℕ → ℕ → ℕ
around m x = cond (eqb m 0) 0 (x % m)

-- The largest place that a usize holds.
abbrev pub last_place : ℕ
last_place = pred (2 ^ 64)

-- The ring place under a line place: "(r + q) mod m", where q is the line place minus the start.
unfoldable pub ring_place_of : LinePlace → LinePlace → RingPlace → ℕ → RingPlace
ring_place_of place start rotation m = record { 0 = around m (rotation.0 + (place.0 - start.0)) }

-- The line place over a ring place: start + (ring place − rotation) mod m, and at most `last_place`. Numbers here are never negative, so the
-- definition adds m − rotation instead of subtracting the rotation.
unfoldable pub line_place_of : RingPlace → LinePlace → RingPlace → ℕ → LinePlace
line_place_of place start rotation m = record { 0 = min (start.0 + around m (place.0 + (m - rotation.0 % m))) last_place }

-- The contract of `to_ring`, which returns r.
pub record IsRingPlace (place start : LinePlace) (rotation : RingPlace) (m : ℕ) (r : RingPlace) : Type 0 where
  pub is : r ≡ ring_place_of place start rotation m

-- The contract of `to_line`, which returns r.
pub record IsLinePlace (place : RingPlace) (start : LinePlace) (rotation : RingPlace) (m : ℕ) (r : LinePlace) : Type 0 where
  pub is : r ≡ line_place_of place start rotation m
