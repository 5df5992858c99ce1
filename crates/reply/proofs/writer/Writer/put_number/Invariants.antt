-- `reply::writer::Writer::put_number` puts the library's digits one after the other.
use lib.ListN.{drop}
use Rattle.reply.proofs.PutLoop.{StillToPut}
use Rattle.reply.proofs.writer.Writer.put_number.Given as goal

abbrev pub invariant-loop-digit : goal.invariant-loop-digit
invariant-loop-digit l = StillToPut (drop l.digit-index l.digits) l.digits l.initial.self l.self
