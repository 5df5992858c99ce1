-- Document 02, ticket 3: "The line is closed as well." A line that is one boundary alone is a ring itself, and a window may cross its end.
-- `IsClosedStart`, `closed_distance` and `IsClosedFinding` are the sentences to believe: they take line places mod n. `closed_line` is the list to which the
-- meanings and rules of the open line are applied in this mode. `closed_start_iff`, `closed_distance_lem` and `closed_finding_iff` of proofs/ join the two.
--
--   closed_line           the line followed by its first m − 1 edges
--   closed_edge           the edge at place q of the window at i, which may cross the line's end
--   IsClosedStart         a start of the closed line
--   closed_distance       the distance of such a start under a rotation
--   closed_reaching       how many rotations reach a distance
--   IsClosedFinding       a finding of the closed line
--   join_of               the edges on both sides of the line's end, from which the windows that cross it are read
--   joined_with           the join area after an accepted call
use Rattle.std.specs.Prelude.{ℕ, ◌+◌, ◌-◌, ◌%◌, ◌≤◌, ◌<◌, ◌≡◌, cond, List, ◌++◌, leb, eqb, length, get_or, take, drop}
use Rattle.lists.specs.Areas.{written}
use Rattle.meaning.specs.Counting.{count}
use Rattle.meaning.specs.Meanings.{rotation_edge, mark, unequal}
use Rattle.meaning.specs.Findings.{Finding}

-- "For n ≥ m an accepted call's findings and looks are those that the meanings and rules give for the line followed by its first m−1 edges". A line shorter
-- than the ring stays as it is: no window fits in it, so there is no start "and no look".
unfoldable pub closed_line : ℕ → List ℕ → List ℕ
closed_line m line = cond (leb m (length line)) (line ++ take (m - 1) line) line

-- "edges continue from the beginning after the last": the window at i has at its place q the line's edge (i + q) mod n.
abbrev pub closed_edge : List ℕ → ℕ → ℕ → ℕ
closed_edge line i q = get_or line ((i + q) % length line) 0

-- "for n ≥ m every place 0 to n−1 without a mark in its window is a start"; "for n < m there are none".
pub record IsClosedStart (ring line : List ℕ) (i : ℕ) : Type 0 where
  pub long : length ring ≤ length line
  pub in_line : i < length line
  pub no_mark : (q : ℕ) → q < length ring → closed_edge line i q ≡ mark → ⊥

-- "The distance of start i under r is the number of places where window and rotation r differ" (document 01), for a window that may cross the line's end.
unfoldable pub closed_distance : List ℕ → List ℕ → ℕ → ℕ → ℕ
closed_distance ring line i r = count (λ q. unequal (closed_edge line i q) (rotation_edge ring r q)) 0 (length ring)

-- How many of the m rotations reach distance d.
unfoldable pub closed_reaching : List ℕ → List ℕ → ℕ → ℕ → ℕ
closed_reaching ring line i d = count (λ r. eqb (closed_distance ring line i r) d) 0 (length ring)

-- "A finding is a start whose least distance over all r is at most k. It carries start, rotation, distance: the least distance, and the lowest r that reaches
-- it" (document 01), and ties, "how many rotations reach the least distance" (ticket 1).
pub record IsClosedFinding (ring line : List ℕ) (k : ℕ) (f : Finding) : Type 0 where
  pub is_start : IsClosedStart ring line f.start
  pub is_rotation : f.rotation < length ring
  pub distance_is : f.distance ≡ closed_distance ring line f.start f.rotation
  pub at_most_k : f.distance ≤ k
  pub least : (r : ℕ) → r < length ring → f.distance ≤ closed_distance ring line f.start r
  pub lowest : (r : ℕ) → r < f.rotation → f.distance < closed_distance ring line f.start r
  pub ties_are : f.ties ≡ closed_reaching ring line f.start f.distance

-- "the line's last m−1 edges and its first m−1". A window that crosses the line's end is m neighbouring edges of this list (`join_window` of proofs/).
unfoldable pub join_of : ℕ → List ℕ → List ℕ
join_of m line = drop (length line - (m - 1)) line ++ take (m - 1) line

-- "The first 2·m − 2 bytes of the join area then hold the line's last m−1 edges and its first m−1; later bytes, and all of it for n < m, keep their values."
unfoldable pub joined_with : ℕ → List ℕ → List ℕ → List ℕ
joined_with m line join = cond (leb m (length line)) (written (join_of m line) join) join
