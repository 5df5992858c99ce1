-- `moves::steps::change` meets its contract: before turn r the counts below r are changed, and their least is known (`ChangeLoop`).
use mathlib.Core.Path.{◌≡◌}
use native.Mathlib.Omega.{arith}
use lib.ListN.{length}
use Rattle.lists.proofs.StoreLoop.{stored_turn, stored_end}
use Rattle.tally.proofs.LeastSoFar.{least_so_far_stored}
use Rattle.moves.proofs.ChangeLoop.{changed_here, changed_least}
use Rattle.moves.proofs.steps.change.Goals as goal

pub loop-r-preserved : goal.loop-r-preserved
loop-r-preserved c =
    let stored = c.loop-r.invariant.1 in (
      omega arith,
      stored_turn stored (omega arith) (changed_here _ _ _ _ stored c.differing-lost.ensures.is c.differing-won.ensures.is c.changed-count.ensures),
      rw c.min-least.ensures (least_so_far_stored _ c.loop-r.invariant.2 (omega arith)),
    )

pub returns : goal.returns
returns c =
    let stored = c.loop-r.invariant.1 in
    let all : c.loop-r.r ≡ length c.args.ring.now = omega arith in
    (stored_end stored all, rw c.from.ensures (changed_least _ _ _ _ stored c.loop-r.invariant.2 all (omega arith)), omega arith)
