-- `exports::books::outlines_unpack` meets its contract: it returns the answer of `unpack` as a struct.
use Rattle.exports.proofs.PassedOn.{unpack_place}
use Rattle.exports.proofs.books.outlines_unpack.Goals as goal

pub count_answer-requires : goal.count_answer-requires
count_answer-requires c = unpack_place c.unpack.ensures
