-- `reply::writer::Writer::put_byte` meets its contract: the byte is stored, or there is no room and it is left out.
use native.Mathlib.Omega.{arith}
use mathlib.Core.Path.{refl}
use Rattle.reply.proofs.TextWritten.{byte_stored, byte_left_out}
use Rattle.reply.proofs.writer.Writer.put_byte.Goals as goal

pub returns-then-self : goal.returns-then-self
returns-then-self c = record { is = byte_stored _ _ _ (omega arith); same_area = refl }

pub returns-else-self : goal.returns-else-self
returns-else-self c = record { is = byte_left_out _ _ _ (omega arith); same_area = refl }
