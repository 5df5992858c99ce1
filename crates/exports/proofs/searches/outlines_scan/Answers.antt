-- `exports::searches::outlines_scan` meets its contract: it returns the answer of `scan` as a struct.
use Rattle.exports.proofs.PassedOn.{search_place}
use Rattle.exports.proofs.searches.outlines_scan.Goals as goal

pub search_answer-requires : goal.search_answer-requires
search_answer-requires c = search_place c.scan.ensures
