-- `reply::writer::Writer::put_finding_lines` takes `words_each` words in each turn, and keeps `PuttingLines`.
use mathlib.Core.Path.{◌≡◌}
use Rattle.meaning.specs.Findings.{words_each}
use Rattle.reply.proofs.LinesLoop.{PuttingLines}
use Rattle.reply.proofs.writer.Writer.put_finding_lines.Given as goal

abbrev pub invariant-loop-finding : goal.invariant-loop-finding
invariant-loop-finding l = (l.finding-iterator.size ≡ words_each) × PuttingLines l.words l.initial.self l.finding-iterator.rest.now l.self
