-- `EdgeVectors::keep_whole` meets its contract. Before turn r the words by code are those of the first r places (`WholeBelow`).
use Rattle.occurrences.proofs.OccurrencesLoop.{WholeBelow}
use Rattle.occurrences.proofs.table.EdgeVectors.keep_whole.Given as goal

abbrev pub invariant-loop-r : goal.invariant-loop-r
invariant-loop-r l = WholeBelow l.ring l.self l.r
