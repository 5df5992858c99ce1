-- `samples::answer_rows::print_answer` is safe: the length that `reply::answer` returns is at most the array's (`answer_within`).
use mathlib.Core.Path.{sym}
use lib.Seq.{length-take-le}
use Rattle.reply.proofs.RequestCases.{answer_within}
use Rattle.samples.proofs.answer_rows.print_answer.Goals as goal

pub slice_bounds-text-end : goal.slice_bounds-text-end
slice_bounds-text-end g c = answer_within c.answer-length.ensures

pub slice_bounds-write_all-end : goal.slice_bounds-write_all-end
slice_bounds-write_all-end g c = sym (length-take-le _ _ (answer_within c.answer-length.ensures))
