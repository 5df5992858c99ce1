-- `exports::books::outlines_pack` meets its contract: it returns the answer of `pack` as a struct.
use Rattle.exports.proofs.PassedOn.{pack_place}
use Rattle.exports.proofs.books.outlines_pack.Goals as goal

pub count_answer-requires : goal.count_answer-requires
count_answer-requires c = pack_place c.pack.ensures
