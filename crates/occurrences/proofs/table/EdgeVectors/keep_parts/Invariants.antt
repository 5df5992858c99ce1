-- `EdgeVectors::keep_parts` meets its contract. Before turn r slots and kept words are those of the first r places (`PartsBelow`).
use Rattle.occurrences.proofs.OccurrencesLoop.{PartsBelow}
use Rattle.occurrences.proofs.table.EdgeVectors.keep_parts.Given as goal

abbrev pub invariant-loop-r : goal.invariant-loop-r
invariant-loop-r l = PartsBelow l.ring l.self l.r
