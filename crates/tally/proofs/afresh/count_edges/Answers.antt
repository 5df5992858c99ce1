-- `tally::afresh::count_edges` meets its contract: the counts are cleared, the loop keeps `CountingAfresh`, and then the least is taken. The measure is m - q.
use mathlib.Core.Path.{sym}
use native.Mathlib.Omega.{arith}
use Rattle.tally.proofs.PastMark.{past_none}
use Rattle.tally.proofs.LeastIsOne.{least_of_cut}
use Rattle.tally.proofs.AfreshLoop.{cleared, edges_begin, counting_afresh_start, counting_afresh_can, counting_afresh_on, counting_afresh_turn, counting_afresh_end}
use Rattle.tally.proofs.afresh.count_edges.Goals as goal

pub loop-q-init : goal.loop-q-init
loop-q-init c =
    counting_afresh_start (edges_begin _ c.requires (c.fill.ensures.after (λ y h. h))) (sym (past_none _ 0))

pub count_part-counted-requires : goal.count_part-counted-requires
count_part-counted-requires c =
    counting_afresh_on (edges_begin _ c.requires (c.fill.ensures.after (λ y h. h))) c.loop-q.invariant (omega (arith, c.requires.has_counts.most)) c.loop-q-test.true

pub loop-q-preserved : goal.loop-q-preserved
loop-q-preserved c =
    counting_afresh_turn (edges_begin _ c.requires (c.fill.ensures.after (λ y h. h))) c.loop-q.invariant c.count_part-counted.ensures

pub returns : goal.returns
returns c =
    let known = c.loop-q.invariant in
    let filled = c.fill.ensures.after (λ y h. h) in
    let room = (counting_afresh_can (edges_begin _ c.requires filled) known).has_counts.room in
    counting_afresh_end (cleared _ c.requires.has_counts.room filled) known c.loop-q-test.false (rw c.from-least.ensures (least_of_cut _ _ room c.least_of.ensures))
