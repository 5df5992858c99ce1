-- `EdgeVectors::keep_whole` meets its contract. Turn r puts bit r into the word of the code at place r.
use native.Mathlib.Omega.{arith}
use Rattle.occurrences.proofs.OccurrencesLoop.{whole_start, whole_turned, whole_end}
use Rattle.occurrences.proofs.table.EdgeVectors.keep_whole.Goals as goal

pub loop-r-init : goal.loop-r-init
loop-r-init c = whole_start _ _ c.clear.ensures

pub loop-r-preserved : goal.loop-r-preserved
loop-r-preserved c = whole_turned _ _ _ _ c.requires c.loop-r.invariant c.loop-r-test.true c.from.ensures (omega arith)

pub returns : goal.returns
returns c = whole_end _ _ _ c.requires c.loop-r.invariant c.loop-r-test.false
