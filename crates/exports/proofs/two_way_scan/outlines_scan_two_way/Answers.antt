-- `exports::two_way_scan::outlines_scan_two_way` meets its contract: it returns the answer of `scan_two_way` as a struct.
use Rattle.exports.proofs.PassedOn.{two_way_place}
use Rattle.exports.proofs.two_way_scan.outlines_scan_two_way.Goals as goal

pub two_way_answer-requires : goal.two_way_answer-requires
two_way_answer-requires c = two_way_place c.scan_two_way.ensures
