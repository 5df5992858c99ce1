-- `exports::searches::outlines_report` meets its contract: it returns the answer of `report` as a struct.
use Rattle.exports.proofs.PassedOn.{report_place}
use Rattle.exports.proofs.searches.outlines_report.Goals as goal

pub report_answer-requires : goal.report_answer-requires
report_answer-requires c = report_place c.report.ensures
