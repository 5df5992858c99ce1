-- `moves::moving::move_counts` meets its contract: counts that pass the test can be moved (`MoveCases`).
use mathlib.Core.Path.{◌∙◌, sym}
use Rattle.moves.proofs.MoveCases.{can_be_moved}
use Rattle.moves.proofs.moving.move_counts.Goals as goal

pub move_along-requires : goal.move_along-requires
move_along-requires c =
    can_be_moved c.whole_length.ensures (sym c.can_move.ensures ∙ c.if-not-can_move.false)
