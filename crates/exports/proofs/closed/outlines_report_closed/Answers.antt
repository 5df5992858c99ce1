-- `exports::closed::outlines_report_closed` meets its contract: it returns the answer of `report_closed` as a struct.
use Rattle.exports.proofs.PassedOn.{closed_report_place}
use Rattle.exports.proofs.closed.outlines_report_closed.Goals as goal

pub report_answer-requires : goal.report_answer-requires
report_answer-requires c = closed_report_place c.report_closed.ensures
