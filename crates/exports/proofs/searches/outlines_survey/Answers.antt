-- `exports::searches::outlines_survey` meets its contract: it returns the answer of `survey` as a struct.
use Rattle.exports.proofs.PassedOn.{search_place}
use Rattle.exports.proofs.searches.outlines_survey.Goals as goal

pub search_answer-requires : goal.search_answer-requires
search_answer-requires c = search_place c.survey.ensures
