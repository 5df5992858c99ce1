-- `tally::counts::count_ties` meets its contract: before each turn the ties are those of the rotations passed (`TiesLoop`).
use Rattle.tally.proofs.TiesLoop.{one_tie, ties_start, ties_turn, ties_end, ties_none}
use mathlib.Core.Logic.{dite}
use native.Mathlib.Decide.{dec_lt}
use native.Mathlib.Omega.{arith}
use Rattle.tally.specs.Counts.{last_count}
use Rattle.tally.proofs.counts.count_ties.Goals as goal

-- `least` is larger than a count can be.
pub returns-in_default : goal.returns-in_default
returns-in_default c = ties_none (dite (dec_lt last_count c.args.least) (λ large. large) (λ small. absurd (c.in_default.ensures (omega (arith, small)))))

pub loop-count-init : goal.loop-count-init
loop-count-init c = ties_start

pub loop-count-preserved : goal.loop-count-preserved
loop-count-preserved c = ties_turn c.loop-count.invariant (one_tie c.args.counts.now _ _ c.in-Ok.ensures.1 c.from-ties.ensures)

pub returns : goal.returns
returns c = rw c.from.ensures (ties_end c.loop-count.invariant (omega arith) c.requires (omega arith))
