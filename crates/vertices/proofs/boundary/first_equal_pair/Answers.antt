-- `vertices::boundary::first_equal_pair` meets its contract: before turn i no vertex before i equals the one that follows it.
use mathlib.Core.Path.{sym, ◌∙◌}
use Rattle.std.proofs.Common.{below_more}
use Rattle.vertices.proofs.EqualPairs.{differ_by}
use Rattle.vertices.proofs.boundary.first_equal_pair.Goals as goal

pub loop-i-preserved : goal.loop-i-preserved
loop-i-preserved c =
    below_more _ _ c.loop-i.invariant (λ pair. differ_by c.vertex_at.ensures c.vertex_at-in-loop-i.ensures (sym c.eq.ensures ∙ c.if-eq.false) pair.same)
