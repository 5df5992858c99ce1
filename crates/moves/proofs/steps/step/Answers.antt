-- `moves::steps::step` meets its contract: the counts are changed and then renumbered, and renumbering does not change their least (`SteppedCounts`).
use native.Mathlib.Omega.{arith}
use Rattle.moves.proofs.RenumberLoop.{renumbered}
use Rattle.moves.proofs.SteppedCounts.{stepped_is}
use Rattle.moves.proofs.steps.step.Goals as goal

pub returns : goal.returns
returns c =
    let changed = c.change-least.ensures in
    let rotated = c.rotate_right.ensures in
    stepped_is _ _ _ _ _ _ _ changed.0 changed.1 changed.2 (renumbered _ _ _ (omega (arith, changed.0.size, c.requires.room)) rotated.len rotated.by_index)
