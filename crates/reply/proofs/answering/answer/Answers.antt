-- `reply::answering::answer` meets its contract: it writes the line of refusal 11, or the text of the request.
use Rattle.reply.proofs.RequestCases.{answered_by, parts_text, refused_line}
use Rattle.reply.proofs.answering.answer.Goals as goal

pub returns-in-Err : goal.returns-in-Err
returns-in-Err c = answered_by (refused_line c.in-Err.ensures) c.put_refusal.ensures

pub returns-in-Ok : goal.returns-in-Ok
returns-in-Ok c = answered_by (parts_text c.in-Ok.ensures) c.answer_request.ensures
