-- The edges of a boundary: as many as vertices; edge i leads from vertex i to the one that follows. Every edge is below 248, so an imported ring holds no mark and no code
-- above 247 (`edges_lt`, `no_mark`).
use Prim.Native.Nat.{ℕ, ◌+◌, ◌<◌}
use mathlib.Core.Path.{◌≡◌}
use mathlib.Core.List.{List}
use native.Mathlib.Nat.{mod-lt}
use native.Mathlib.Omega.{arith}
use lib.IntN.{ℤ, ◌-ℤ◌}
use lib.ListN.{length, get_or}
use Rattle.lists.proofs.ByPlace.{list_of_length, list_of_at}
use Rattle.meaning.specs.Meanings.{HoldsMark}
use Rattle.meaning.specs.EdgeCodes.{edge_codes}
use Rattle.vertices.specs.declared.boundary.Vertex.{Vertex}
use Rattle.vertices.specs.Boundary.{vertex_count, vertex_at, following, boundary_edge, boundary_edges, NoEqualPair}
use Rattle.vertices.specs.Steps.{IsCodeOf}
use Rattle.vertices.proofs.Codes.{code_lt, code_iff}
use Rattle.vertices.proofs.EqualPairs.{step_between}

module _ (numbers : List ℤ) where
  -- One edge per vertex.
  pub edges_length : length (boundary_edges numbers) ≡ vertex_count numbers
  unfolding boundary_edges
  edges_length = list_of_length (vertex_count numbers) (boundary_edge numbers)

  -- Edge i leads from vertex i to the one that follows.
  pub edges_at : (i : ℕ) → i < vertex_count numbers → get_or (boundary_edges numbers) i 0 ≡ boundary_edge numbers i
  unfolding boundary_edges
  edges_at i l = list_of_at (vertex_count numbers) (boundary_edge numbers) i l

  -- The vertex that follows is a vertex.
  pub following_lt : (i : ℕ) → i < vertex_count numbers → following (vertex_count numbers) i < vertex_count numbers
  following_lt i l = mod-lt (i + 1) (omega arith)

  -- Every edge is at most 247.
  pub edges_lt : (i : ℕ) → i < vertex_count numbers → get_or (boundary_edges numbers) i 0 < edge_codes
  edges_lt i l =
      let from : Vertex = vertex_at numbers i in
      let to : Vertex = vertex_at numbers (following (vertex_count numbers) i) in
      omega (arith, edges_at i l, code_lt (to.north -ℤ from.north) (to.east -ℤ from.east))

  -- So the edges hold no mark.
  pub no_mark : HoldsMark (boundary_edges numbers) → ⊥
  no_mark holds = omega (arith, edges_lt holds.place (omega (arith, holds.in_edges, edges_length)), holds.is_mark)

  -- If no two neighbours are equal, edge i has the octant and the length class of its steps, in the document's words.
  pub edge_has : NoEqualPair numbers → (i : ℕ) → i < vertex_count numbers
      → IsCodeOf ((vertex_at numbers (following (vertex_count numbers) i)).north -ℤ (vertex_at numbers i).north)
      ((vertex_at numbers (following (vertex_count numbers) i)).east -ℤ (vertex_at numbers i).east) (get_or (boundary_edges numbers) i 0)
  edge_has no_pair i l =
      (code_iff _ _ (step_between (vertex_at numbers i) (vertex_at numbers (following (vertex_count numbers) i)) (λ same. no_pair.none i l (record { same = same })))
      (get_or (boundary_edges numbers) i 0)).0 (edges_at i l)
