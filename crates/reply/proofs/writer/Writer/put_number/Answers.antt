-- `reply::writer::Writer::put_number` meets its contract: the library's digits are those of `decimal` (`decimal_printed`).
use mathlib.Core.Path.{◌∙◌}
use native.Mathlib.Numerals.{add-one}
use native.Mathlib.Omega.{arith}
use lib.ListN.{drop_of_length-le}
use lib.Seq.{drop-cons}
use Rattle.reply.proofs.DecimalDigits.{decimal_printed}
use Rattle.reply.proofs.TextWritten.{written_same}
use Rattle.reply.proofs.PutLoop.{put_turn, put_end}
use Rattle.reply.proofs.writer.Writer.put_number.Goals as goal

pub loop-digit-preserved : goal.loop-digit-preserved
loop-digit-preserved c =
    put_turn c.loop-digit.invariant (rw (add-one c.loop-digit.digit-index, drop-cons c.as_bytes-digits.result.now c.loop-digit.digit-index 0 c.loop-digit-test.true)) c.put_byte.ensures

pub returns : goal.returns
returns c =
    written_same (c.as_bytes-digits.ensures.value ∙ c.format.ensures.text ∙ decimal_printed c.args.number (omega arith))
    (put_end c.loop-digit.invariant (drop_of_length-le c.as_bytes-digits.result.now c.loop-digit-test.false))
