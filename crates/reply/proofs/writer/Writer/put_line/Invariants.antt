-- `reply::writer::Writer::put_line` keeps `Filling`.
use Rattle.reply.proofs.FormLoop.{Filling}
use Rattle.reply.proofs.writer.Writer.put_line.Given as goal

abbrev pub invariant-loop-byte : goal.invariant-loop-byte
invariant-loop-byte l = Filling l.form l.numbers-2 l.initial.self l.byte-index l.numbers.rest.now l.self
