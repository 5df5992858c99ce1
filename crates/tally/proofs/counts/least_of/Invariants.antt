-- `tally::counts::least_of` meets its contract: the least begins with the first count, and the loop over the others keeps `LeastSoFar`.
use Prim.Native.Nat.{◌+◌}
use Rattle.tally.proofs.LeastSoFar.{LeastSoFar}
use Rattle.tally.proofs.counts.least_of.Given as goal

abbrev pub invariant-loop-count : goal.invariant-loop-count
invariant-loop-count l = LeastSoFar l.initial.least l.counts l.least (l.count-index + 1)
