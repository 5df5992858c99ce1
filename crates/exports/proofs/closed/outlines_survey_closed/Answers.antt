-- `exports::closed::outlines_survey_closed` meets its contract: it returns the answer of `survey_closed` as a struct.
use Rattle.exports.proofs.PassedOn.{closed_search_place}
use Rattle.exports.proofs.closed.outlines_survey_closed.Goals as goal

pub search_answer-requires : goal.search_answer-requires
search_answer-requires c = closed_search_place c.survey_closed.ensures
