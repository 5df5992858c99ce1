-- `vertices::boundary::put_edges` meets its contract: before turn i the first i bytes are edges of the boundary and the others as they were (`StoredFirst`). At the end all edges are
-- written.
use mathlib.Core.Path.{ap₂, ◌∙◌}
use native.Mathlib.Omega.{arith}
use Rattle.lists.proofs.StoreLoop.{stored_turn, stored_end}
use Rattle.lists.proofs.Areas.{stored_written}
use Rattle.vertices.specs.Boundary.{boundary_edges, edge_between}
use Rattle.vertices.proofs.boundary.put_edges.Goals as goal

pub loop-i-preserved : goal.loop-i-preserved
loop-i-preserved c =
    stored_turn c.loop-i.invariant (omega arith) (c.edge_to.ensures ∙ ap₂ edge_between c.vertex_at-from.ensures c.vertex_at-to.ensures)

pub returns : goal.returns
unfolding boundary_edges
returns c = stored_written (stored_end c.loop-i.invariant (omega arith)) (omega arith)
