-- `reversal::rings::reverse` meets its contract. Before turn q the first q places have the reversed ring's edges, and the others 0 (`ReversedBelow`).
use lib.ListN.{length}
use Rattle.reversal.proofs.ReversingLoop.{ReversedBelow}
use Rattle.reversal.proofs.rings.reverse.Given as goal

abbrev pub invariant-loop-q : goal.invariant-loop-q
invariant-loop-q l = ReversedBelow l.ring l.codes (length l.yielded)
