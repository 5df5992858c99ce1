-- `moves::steps::move_along` meets its contract: the loop keeps `Moving`, and a turn goes on or ends the move.
use mathlib.Core.Path.{◌≡◌}
use Rattle.windows.specs.Windows.{parts_of}
use Rattle.moves.proofs.MoveLoop.{Moving}
use Rattle.moves.proofs.steps.move_along.Given as goal

abbrev pub invariant-loop-i : goal.invariant-loop-i
invariant-loop-i l =
    (l.reached.start.0 ≡ l.i) × Moving l.ring (parts_of l.parts) l.initial.i l.steps l.below l.initial.counts l.counts l.reached.least l.reached.looks l.reached.past l.i
