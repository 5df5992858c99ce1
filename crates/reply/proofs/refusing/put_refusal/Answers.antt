-- `reply::refusing::put_refusal` meets its contract: the form filled with the refusal's number and place is its line, and there is room for it.
use mathlib.Core.Path.{refl, ap₂}
use native.Mathlib.Omega.{arith}
use Rattle.std.proofs.Common.{rules}
use Rattle.lists.specs.Texts.{ascii}
use Rattle.reply.specs.Lines.{refusal_line_of}
use Rattle.reply.specs.Writing.{filled}
use Rattle.reply.proofs.TextRoom.{refusal_line_le}
use Rattle.reply.proofs.TextWritten.{text_stands, text_same, text_ends}
use Rattle.reply.proofs.refusing.put_refusal.Goals as goal

pub returns : goal.returns
unfolding ascii filled refusal_line_of
returns c =
    let short = refusal_line_le c.number.result c.place.result (omega arith) (omega arith) in
    let same_area = c.put_line.ensures.same_area in
    text_ends (search rules) (text_same (ap₂ refusal_line_of c.number.ensures.is c.place.ensures.is) (text_stands refl (omega arith) c.put_line.ensures))
