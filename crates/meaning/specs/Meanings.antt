-- Document 01, "Meanings", up to the distance: rotation, start, window, distance, the least distance and the lowest rotation that reaches it. And from
-- document 02: how many rotations reach it (ticket 1), and the boundary mark (ticket 2), which makes a window no start.
-- The document's limits (m 1 to 256, n at most 65,536, k below m) are refusals of the calls and are stated there. Here every definition gives a value
-- for all lists. For an empty ring the value means nothing, and laws that depend on it require 0 < m. `get_or` gives 0 past a list's end. At a start no
-- definition reads there: line places stay below n because i + m ≤ n, and ring places are taken mod m.
use Rattle.std.specs.Prelude.{ℕ, ◌+◌, ◌%◌, ◌≤◌, ◌<◌, ◌≡◌, Bool, not, ◌&&◌, List, leb, eqb, length, get_or, take, drop}
use Rattle.meaning.specs.Counting.{count, lowest, some_below}

-- "Rotation r of the ring, 0 ≤ r < m, has at its place q the ring's edge (r + q) mod m (source document 000)."
abbrev pub rotation_edge : List ℕ → ℕ → ℕ → ℕ
rotation_edge ring r q = get_or ring ((r + q) % length ring) 0

-- "i + m ≤ n": a window of m edges fits in the line at place i.
pub record FitsInLine (ring line : List ℕ) (i : ℕ) : Type 0 where
  pub in_line : i + length ring ≤ length line

-- A window at place i would reach past the line's end.
pub record IsPastLine (ring line : List ℕ) (i : ℕ) : Type 0 where
  pub past : length line < i + length ring

-- Whether a window fits in the line at place i. This test decides which windows rule 1 reads, and at which places the survey verifies.
abbrev pub fits_in_line : List ℕ → List ℕ → ℕ → Bool
fits_in_line ring line i = leb (i + length ring) (length line)

-- The window at place i: "Its window is the m edges from i."
unfoldable pub window : ℕ → List ℕ → ℕ → List ℕ
window m line i = take m (drop i line)

-- "Byte 255 is from now on a boundary mark" (document 02, ticket 2).
abbrev pub mark : ℕ
mark = 255

-- Whether an edge is a boundary mark.
abbrev pub is_mark : ℕ → Bool
is_mark x = eqb x mark

-- "holding one": some place of a ring or of a window has a mark.
pub record HoldsMark (edges : List ℕ) : Type 0 where
  pub place : ℕ
  pub in_edges : place < length edges
  pub is_mark : get_or edges place 0 ≡ mark

-- `HoldsMark` as a test.
unfoldable pub holds_mark : List ℕ → Bool
holds_mark edges = some_below (λ q. is_mark (get_or edges q 0)) (length edges)

-- "A start i is a line place with i + m ≤ n", and "a window holding" a mark "isn't a start" (document 02, ticket 2).
pub record IsStart (ring line : List ℕ) (i : ℕ) : Type 0 where
  pub fits_in_line : FitsInLine ring line i
  pub no_mark : HoldsMark (window (length ring) line i) → ⊥

-- Whether place i is a start. `found_at` uses this test.
abbrev pub is_start : List ℕ → List ℕ → ℕ → Bool
is_start ring line i = fits_in_line ring line i && not (holds_mark (window (length ring) line i))

-- The edge at place q of the window at i: the line's edge at i + q.
abbrev pub window_edge : List ℕ → ℕ → ℕ → ℕ
window_edge line i q = get_or line (i + q) 0

-- Whether two edges differ: one comparison.
abbrev pub unequal : ℕ → ℕ → Bool
unequal a b = not (eqb a b)

-- Whether window and rotation r differ at place q.
unfoldable pub differs : List ℕ → List ℕ → ℕ → ℕ → ℕ → Bool
differs ring line i r q = unequal (window_edge line i q) (rotation_edge ring r q)

-- "The distance of start i under r is the number of places where window and rotation r differ."
unfoldable pub distance : List ℕ → List ℕ → ℕ → ℕ → ℕ
distance ring line i r = count (differs ring line i r) 0 (length ring)

-- "the lowest r that reaches" the least distance over all r.
unfoldable pub lowest_rotation : List ℕ → List ℕ → ℕ → ℕ
lowest_rotation ring line i = lowest (distance ring line i) (length ring)

-- The "least distance over all r": the distance under the lowest rotation that reaches it.
abbrev pub least_distance : List ℕ → List ℕ → ℕ → ℕ
least_distance ring line i = distance ring line i (lowest_rotation ring line i)

-- Whether rotation r reaches distance d: the distance of start i under r is d.
abbrev pub reaches : List ℕ → List ℕ → ℕ → ℕ → ℕ → Bool
reaches ring line i d r = eqb (distance ring line i r) d

-- How many of the m rotations reach distance d.
unfoldable pub rotations_reaching : List ℕ → List ℕ → ℕ → ℕ → ℕ
rotations_reaching ring line i d = count (reaches ring line i d) 0 (length ring)

-- "how many rotations reach the least distance" (document 02, ticket 1).
abbrev pub ties : List ℕ → List ℕ → ℕ → ℕ
ties ring line i = rotations_reaching ring line i (least_distance ring line i)
