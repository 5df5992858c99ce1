-- `reversal::rings::reverse` meets its contract. Before turn q the first q places have the reversed ring's edges, and the others 0 (`ReversedBelow`). The chain gives
-- the ring's edges from the last on, at most 256 of them, each with its number (`last_first`).
use mathlib.Core.Path.{ap, ◌∙◌}
use Rattle.std.proofs.lemmas.Iterator.{YieldsList-from_take}
use Rattle.std.proofs.lemmas.Iterator.Adapters.{YieldsList-from_rev_slice}
use Rattle.std.proofs.lemmas.Iterator.Consumers.{YieldsList-turn, YieldsList-end, YieldsList-at, YieldsList-from_enumerate}
use Rattle.std.proofs.lemmas.List.{length_push}
use Rattle.reversal.proofs.ReversingLoop.{turn_is, reversing_turn, reversing_end}
use Rattle.reversal.proofs.rings.reverse.Goals as goal

pub loop-q-preserved : goal.loop-q-preserved
loop-q-preserved c =
    let chain = YieldsList-at c.into_iter-q-iterator.ensures.into_iter_gives
    (YieldsList-from_enumerate
    (YieldsList-at c.enumerate-q-items.ensures.source
    (YieldsList-from_take 256
    (YieldsList-at c.take.ensures.source (YieldsList-from_rev_slice c.args.ring.now (ap (λ s. s.rest.now) c.rev.ensures.source ∙ c.iter.ensures.rest)))
    c.take.ensures.count))
    c.enumerate-q-items.ensures.count) in
    let turn = turn_is c.args.ring.now (YieldsList-turn chain c.loop-q.yielded _ c.loop-q.yielded_by _ _ (c.in-Some.q, c.in-Some.edge) c.in-Some.is c.next.ensures.steps) in
    rw (length_push c.loop-q.yielded (c.in-Some.q, c.in-Some.edge)) (reversing_turn c.args.ring.now c.loop-q.invariant turn c.reversed_code.ensures)

pub returns : goal.returns
returns c =
    let chain = YieldsList-at c.into_iter-q-iterator.ensures.into_iter_gives
    (YieldsList-from_enumerate
    (YieldsList-at c.enumerate-q-items.ensures.source
    (YieldsList-from_take 256
    (YieldsList-at c.take.ensures.source (YieldsList-from_rev_slice c.args.ring.now (ap (λ s. s.rest.now) c.rev.ensures.source ∙ c.iter.ensures.rest)))
    c.take.ensures.count))
    c.enumerate-q-items.ensures.count) in
    reversing_end c.args.ring.now c.loop-q.invariant (YieldsList-end chain c.loop-q.yielded _ c.loop-q.yielded_by _ _ c.in-None.is c.next.ensures.steps).1
