-- `reply::answering::answer_request` meets its contract. A refusal of the report is one line. Counts give three pieces of text, put one after the other
-- (`Answered`), and there is room for them.
use mathlib.Core.Path.{refl, sym}
use native.Mathlib.Omega.{arith}
use lib.Seq.{length-take-le}
use Rattle.lists.specs.Texts.{ascii}
use Rattle.reply.specs.Lines.{first_line, last_line}
use Rattle.reply.specs.Writing.{filled, HasPut}
use Rattle.reply.proofs.TextWritten.{written_then, written_same, text_stands, text_same, text_ends}
use Rattle.reply.proofs.RequestAnswered.{Answered, refused_text, counted_text}
use borrow.Author.Rules.{rules}
use Rattle.reply.proofs.answering.answer_request.Goals as goal

pub overflow_sub-shown : goal.overflow_sub-shown
overflow_sub-shown c =
    let counted : Answered _ _ _ _ _ = counted_text c.report.ensures c.requires.line_le (search rules) (omega arith) (omega arith) c.in-Ok.is in
    counted.hidden_le

pub overflow_mul-shown : goal.overflow_mul-shown
overflow_mul-shown c =
    let counted : Answered _ _ _ _ _ = counted_text c.report.ensures c.requires.line_le (search rules) (omega arith) (omega arith) c.in-Ok.is in
    omega (arith, counted.words_le)

pub slice_bounds-words-end : goal.slice_bounds-words-end
slice_bounds-words-end c =
    let counted : Answered _ _ _ _ _ = counted_text c.report.ensures c.requires.line_le (search rules) (omega arith) (omega arith) c.in-Ok.is in
    counted.words_le

pub slice_bounds-put_finding_lines-end : goal.slice_bounds-put_finding_lines-end
slice_bounds-put_finding_lines-end c =
    let counted : Answered _ _ _ _ _ = counted_text c.report.ensures c.requires.line_le (search rules) (omega arith) (omega arith) c.in-Ok.is in
    sym (length-take-le _ _ counted.words_le)

-- a refusal of the report
pub returns-in-Err : goal.returns-in-Err
returns-in-Err c =
    text_same (refused_text c.report.ensures c.requires.line_le (search rules) _ c.in-Err.is) c.put_refusal.ensures

-- counts of the report
pub returns-in-Ok : goal.returns-in-Ok
unfolding ascii filled first_line last_line
returns-in-Ok c =
    let counted : Answered _ _ _ _ _ = counted_text c.report.ensures c.requires.line_le (search rules) (omega arith) (omega arith) c.in-Ok.is in
    let whole : HasPut _ _ _ = written_then c.put_line.ensures (written_then c.put_finding_lines.ensures c.put_line-in-Ok.ensures) in
    let same_area = whole.same_area in
    text_ends (search rules) (text_stands refl (omega (arith, counted.length_le, c.requires.room_for)) (written_same counted.pieces whole))
