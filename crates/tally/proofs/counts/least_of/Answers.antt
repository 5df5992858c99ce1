-- `tally::counts::least_of` meets its contract: the least begins with the first count, and the loop over the others keeps `LeastSoFar`.
use Prim.Native.Nat.{ℕ}
use lib.ListN.{length, get_or}
use native.Mathlib.Omega.{arith}
use mathlib.Core.Path.{ap, ◌∙◌}
use Rattle.std.proofs.lemmas.List.Edits.{get_or-between}
use Rattle.tally.proofs.LeastSoFar.{least_so_far_turn}
use Rattle.tally.proofs.counts.least_of.Goals as goal

pub loop-count-preserved : goal.loop-count-preserved
loop-count-preserved c =
    rw c.min-least.ensures (least_so_far_turn c.loop-count.invariant (get_or-between c.args.counts.now 1 (length c.args.counts.now) c.loop-count.count-index 0 (omega arith) ∙ ap (λ (r : ℕ). get_or c.args.counts.now r 0) (omega arith)))
