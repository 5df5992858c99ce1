-- `tally::afresh::count_part` meets its contract: the loop keeps `CountingAfresh` for the part's own counts, and then they are added. A part has at most 255 edges, so
-- eight bits hold its counts. The measure is end - q.
use Prim.Native.Nat.{◌-◌}
use Rattle.tally.proofs.AfreshLoop.{CountingAfresh}
use Rattle.tally.proofs.afresh.count_part.Given as goal

abbrev pub invariant-loop-q : goal.invariant-loop-q
invariant-loop-q l = CountingAfresh l.doubled l.window l.initial.part l.from l.end l.part l.looks l.past_here l.q

abbrev pub decreases-loop-q : goal.decreases-loop-q
decreases-loop-q l = l.end - l.q
