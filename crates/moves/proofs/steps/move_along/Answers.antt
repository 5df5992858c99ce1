-- `moves::steps::move_along` meets its contract: the loop keeps `Moving`, and a turn goes on or ends the move.
use mathlib.Core.Path.{refl}
use native.Mathlib.Omega.{arith}
use Rattle.windows.proofs.WindowEdges.{fitting_length}
use Rattle.moves.proofs.MoveLoop.{moving_turn, moving_stops, moving_end}
use Rattle.moves.proofs.steps.move_along.Goals as goal

pub bounds-next-m : goal.bounds-next-m
bounds-next-m c =
    omega (arith, fitting_length {ring = c.args.ring.now} c.requires.has_counts.some_edge c.window-next.ensures (omega arith))

pub bounds-here-0 : goal.bounds-here-0
bounds-here-0 c =
    omega (arith, fitting_length {ring = c.args.ring.now} c.requires.has_counts.some_edge c.window-here.ensures (omega arith))

-- The least count is below the bound: the move ends here.
pub returns-then-reached-below : goal.returns-then-reached-below
returns-then-reached-below c =
    moving_stops _ _ _ _ _ _ c.requires _ _ _ _ _ c.loop-i.invariant.1 c.loop-i-test.true
    _ _ _ _ c.window-here.ensures c.window-next.ensures c.step-stepped.ensures c.past_mark.ensures c.if-reached-below.true

pub loop-i-preserved : goal.loop-i-preserved
loop-i-preserved c = (
  refl,
  moving_turn _ _ _ _ _ _ c.requires _ _ _ _ _ c.loop-i.invariant.1 c.loop-i-test.true
      _ _ _ _ c.window-here.ensures c.window-next.ensures c.step-stepped.ensures c.past_mark.ensures c.if-reached-below.false,
)

-- All steps are taken.
pub returns : goal.returns
returns c = moving_end _ _ _ _ _ _ c.requires _ _ _ _ _ c.loop-i.invariant.1 c.loop-i.invariant.0 c.loop-i-test.false
