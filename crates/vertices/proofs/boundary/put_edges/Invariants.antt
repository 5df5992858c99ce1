-- `vertices::boundary::put_edges` meets its contract: before turn i the first i bytes are edges of the boundary and the others as they were (`StoredFirst`).
use Rattle.lists.specs.ByPlace.{StoredFirst}
use Rattle.vertices.specs.Boundary.{boundary_edge}
use Rattle.vertices.proofs.boundary.put_edges.Given as goal

abbrev pub invariant-loop-i : goal.invariant-loop-i
invariant-loop-i l = StoredFirst l.i (boundary_edge l.numbers) l.initial.edges l.edges
