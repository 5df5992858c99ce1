-- The precondition of a private function of src/boundary.rt. No public contract uses it.
--
--   CanPutEdges   precondition of `put_edges`: no two neighbours are equal, and there is room
use Rattle.std.specs.Prelude.{ℕ, ◌≤◌, List, ℤ, length}
use Rattle.vertices.specs.Boundary.{vertex_count, NoEqualPair}

-- The precondition of `put_edges`.
pub record CanPutEdges (numbers : List ℤ) (area : List ℕ) : Type 0 where
  pub no_pair : NoEqualPair numbers
  pub room : vertex_count numbers ≤ length area
