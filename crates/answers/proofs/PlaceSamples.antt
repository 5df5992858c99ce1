-- The two conversions of a place, computed on a window that crosses the ring's seam and on kinds of input that document 01 leaves open.
use Prim.Native.Nat.{ℕ}
use mathlib.Core.Path.{◌≡◌, refl}
use Rattle.answers.specs.declared.places.RingPlace.{RingPlace}
use Rattle.answers.specs.declared.places.LinePlace.{LinePlace}
use Rattle.answers.specs.Places.{around, last_place, ring_place_of, line_place_of}

-- The ring place with this number.
abbrev ring_place : ℕ → RingPlace
ring_place n = record { 0 = n }

-- The line place with this number.
abbrev line_place : ℕ → LinePlace
line_place n = record { 0 = n }

-- A ring of 4 edges, rotation 3, the window at 10: line places 10, 11 and 13 become the ring places 3, 0 and 2.
ring_places : (ring_place_of (line_place 10) (line_place 10) (ring_place 3) 4 ≡ ring_place 3)
    × (ring_place_of (line_place 11) (line_place 10) (ring_place 3) 4 ≡ ring_place 0)
    × (ring_place_of (line_place 13) (line_place 10) (ring_place 3) 4 ≡ ring_place 2)
unfolding ring_place_of around
ring_places = (refl, refl, refl)

-- And back: ring places 3, 0 and 2 become the line places 10, 11 and 13.
line_places : (line_place_of (ring_place 3) (line_place 10) (ring_place 3) 4 ≡ line_place 10)
    × (line_place_of (ring_place 0) (line_place 10) (ring_place 3) 4 ≡ line_place 11)
    × (line_place_of (ring_place 2) (line_place 10) (ring_place 3) 4 ≡ line_place 13)
unfolding line_place_of around
line_places = (refl, refl, refl)

-- m = 0; a line place before the start; a rotation above m.
ring_places_beyond : (ring_place_of (line_place 11) (line_place 10) (ring_place 3) 0 ≡ ring_place 0)
    × (ring_place_of (line_place 9) (line_place 10) (ring_place 3) 4 ≡ ring_place 3)
    × (ring_place_of (line_place 11) (line_place 10) (ring_place 7) 4 ≡ ring_place 0)
unfolding ring_place_of around
ring_places_beyond = (refl, refl, refl)

-- m = 0; a ring place and a rotation above m; a sum above the largest usize.
line_places_beyond : (line_place_of (ring_place 2) (line_place 10) (ring_place 3) 0 ≡ line_place 10)
    × (line_place_of (ring_place 6) (line_place 10) (ring_place 7) 4 ≡ line_place 13)
    × (line_place_of (ring_place 2) (line_place last_place) (ring_place 3) 4 ≡ line_place last_place)
unfolding line_place_of around
line_places_beyond = (refl, refl, refl)
