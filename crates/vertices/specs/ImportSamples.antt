-- Samples of codes, edges and rows, worked out by hand and computed by the checker.
use Rattle.std.specs.Prelude.{ℕ, zero, suc, ◌≡◌, refl, List, [], ◌∷◌, ℤ, pos, negsuc}
use Rattle.std.specs.Prelude.{None, Some}
use Rattle.lists.specs.ByPlace.{list_of}
use Rattle.meaning.specs.Counting.{first_from}
use Rattle.answers.specs.declared.refusals.Refusal.TheVariants.{OutputRoom, VertexCount, EqualNeighbours}
use Rattle.answers.specs.Rows.{first_given}
use Rattle.vertices.specs.Steps.{step_octant, halvings, bit_length, step_code}
use Rattle.vertices.specs.Boundary.{boundary_edges, is_equal_pair, first_equal_pair}
use Rattle.vertices.specs.Importing.{import_rows}

-- The codes of edges whose steps north and east are given in pairs.
abbrev codes_of : List ℤ → List ℕ
codes_of [] = []
codes_of (dn ∷ []) = []
codes_of (dn ∷ (de ∷ steps)) = step_code dn de ∷ codes_of steps

-- The whole number −n.
abbrev minus : ℕ → ℤ
minus zero = pos 0
minus (suc n) = negsuc n

-- The eight rays clockwise from north have octants 0 to 7, and class 0 at size 1. Between each ray and the next, at sizes 2 and 1, the
-- octant is that of the earlier ray, and the class is 1.
pub ray_samples_right :
    (codes_of (pos 1 ∷ pos 0 ∷ pos 1 ∷ pos 1 ∷ pos 0 ∷ pos 1 ∷ minus 1 ∷ pos 1
    ∷ minus 1 ∷ pos 0 ∷ minus 1 ∷ minus 1 ∷ pos 0 ∷ minus 1 ∷ pos 1 ∷ minus 1 ∷ []) ≡ 0 ∷ 1 ∷ 2 ∷ 3 ∷ 4 ∷ 5 ∷ 6 ∷ 7 ∷ [])
    × (codes_of (pos 2 ∷ pos 1 ∷ pos 1 ∷ pos 2 ∷ minus 1 ∷ pos 2 ∷ minus 2 ∷ pos 1
    ∷ minus 2 ∷ minus 1 ∷ minus 1 ∷ minus 2 ∷ pos 1 ∷ minus 2 ∷ pos 2 ∷ minus 1 ∷ []) ≡ 8 ∷ 9 ∷ 10 ∷ 11 ∷ 12 ∷ 13 ∷ 14 ∷ 15 ∷ [])
unfolding step_code step_octant bit_length halvings
ray_samples_right = (refl, refl)

-- Due north, 2^30 − 1 has class 29, and 2^30, 2^31 and 2^32 − 1 have class 30; due south 2^32 − 1 has class 30 too. The larger of the two steps decides: 8 north and 7 west
-- has class 3 and octant 7, 3 north and 4 west class 2 and octant 6.
pub size_samples_right :
    codes_of (pos 1073741823 ∷ pos 0 ∷ pos 1073741824 ∷ pos 0 ∷ pos 2147483648 ∷ pos 0 ∷ pos 4294967295 ∷ pos 0
    ∷ minus 4294967295 ∷ pos 0 ∷ pos 8 ∷ minus 7 ∷ pos 3 ∷ minus 4 ∷ []) ≡ 232 ∷ 240 ∷ 240 ∷ 240 ∷ 244 ∷ 31 ∷ 22 ∷ []
unfolding step_code step_octant bit_length halvings
size_samples_right = refl

-- A square of side 8, drawn north, east, south, west from the vertex (0, 0): its last edge joins the last vertex, (0, 8), to the first.
abbrev square : List ℤ
square = pos 0 ∷ pos 0 ∷ pos 8 ∷ pos 0 ∷ pos 8 ∷ pos 8 ∷ pos 0 ∷ pos 8 ∷ []

-- A triangle; the same with its second vertex twice, with its first vertex again at the end, and both.
abbrev triangle : List ℤ
triangle = pos 0 ∷ pos 0 ∷ pos 5 ∷ pos 0 ∷ pos 5 ∷ minus 3 ∷ []

abbrev middle_pair : List ℤ
middle_pair = pos 0 ∷ pos 0 ∷ pos 5 ∷ pos 0 ∷ pos 5 ∷ pos 0 ∷ pos 5 ∷ minus 3 ∷ []

abbrev closing_pair : List ℤ
closing_pair = pos 0 ∷ pos 0 ∷ pos 5 ∷ pos 0 ∷ pos 5 ∷ minus 3 ∷ pos 0 ∷ pos 0 ∷ []

abbrev both_pairs : List ℤ
both_pairs = pos 0 ∷ pos 0 ∷ pos 5 ∷ pos 0 ∷ pos 5 ∷ pos 0 ∷ pos 5 ∷ minus 3 ∷ pos 0 ∷ pos 0 ∷ []

-- The square's edges have class 3 and octants 0, 2, 4, 6. The triangle's go 5 north (class 2, octant 0), 3 west (class 1, octant 6), and 5 south and 3 east back to the
-- first vertex (class 2, octant 3).
pub edge_samples_right : (boundary_edges square ≡ 24 ∷ 26 ∷ 28 ∷ 30 ∷ []) × (boundary_edges triangle ≡ 16 ∷ 14 ∷ 19 ∷ [])
unfolding boundary_edges list_of step_code step_octant bit_length halvings
edge_samples_right = (refl, refl)

-- The first row that is given, for numbers and room: no vertex; 2 vertices; an odd count of numbers, before the equal neighbours; the first of two equal neighbours, before
-- the room; the last vertex for the closing pair; the earliest pair; 3 vertices in 2 bytes; in 3 bytes; and the square, whose vertices have equal numbers, but no two
-- neighbours are equal.
pub row_samples_right : (first_given (import_rows [] 9) ≡ Some VertexCount)
    × (first_given (import_rows (pos 0 ∷ pos 0 ∷ pos 5 ∷ pos 0 ∷ []) 9) ≡ Some VertexCount)
    × (first_given (import_rows (pos 1 ∷ middle_pair) 9) ≡ Some VertexCount)
    × (first_given (import_rows middle_pair 0) ≡ Some (EqualNeighbours 1))
    × (first_given (import_rows closing_pair 9) ≡ Some (EqualNeighbours 3))
    × (first_given (import_rows both_pairs 9) ≡ Some (EqualNeighbours 1))
    × (first_given (import_rows triangle 2) ≡ Some OutputRoom)
    × (first_given (import_rows triangle 3) ≡ None)
    × (first_given (import_rows square 9) ≡ None)
unfolding import_rows is_equal_pair first_equal_pair first_from first_given
row_samples_right = (refl, refl, refl, refl, refl, refl, refl, refl, refl)
