-- `program::main` has no contract. It is safe: the slices that it passes on, the input read (`read_input`) and the text (`answer_within`), lie within its arrays.
use mathlib.Core.Path.{sym}
use lib.Seq.{length-take-le}
use Rattle.reply.proofs.RequestCases.{answer_within}
use Rattle.program.proofs.main.Goals as goal

pub slice_bounds-answer-end : goal.slice_bounds-answer-end
slice_bounds-answer-end c = sym (length-take-le _ _ c.read_input-got.ensures)

pub slice_bounds-text-end : goal.slice_bounds-text-end
slice_bounds-text-end c = answer_within c.answer-long.ensures

pub slice_bounds-write_all-end : goal.slice_bounds-write_all-end
slice_bounds-write_all-end c = sym (length-take-le _ _ (answer_within c.answer-long.ensures))
