-- `tally::counts::count_ties` meets its contract: before each turn the ties are those of the rotations passed (`TiesLoop`).
use Rattle.tally.proofs.TiesLoop.{TiesSoFar}
use Rattle.tally.proofs.counts.count_ties.Given as goal

abbrev pub invariant-loop-count : goal.invariant-loop-count
invariant-loop-count l = TiesSoFar l.counts l.least l.ties l.count-index
