-- `tally::afresh::count_edges` meets its contract: the counts are cleared, the loop keeps `CountingAfresh`, and then the least is taken. The measure is m - q.
use Prim.Native.Nat.{◌-◌}
use lib.ListN.{length}
use Rattle.tally.proofs.AfreshLoop.{CountingAfresh}
use Rattle.tally.proofs.afresh.count_edges.Given as goal

abbrev pub invariant-loop-q : goal.invariant-loop-q
invariant-loop-q l = CountingAfresh l.doubled l.window l.initial.counts 0 (length l.window) l.counts l.looks l.past l.q

abbrev pub decreases-loop-q : goal.decreases-loop-q
decreases-loop-q l = l.m - l.q
