-- `exports::closed::outlines_scan_closed` meets its contract: it returns the answer of `scan_closed` as a struct.
use Rattle.exports.proofs.PassedOn.{closed_search_place}
use Rattle.exports.proofs.closed.outlines_scan_closed.Goals as goal

pub search_answer-requires : goal.search_answer-requires
search_answer-requires c = closed_search_place c.scan_closed.ensures
