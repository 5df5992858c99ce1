-- `tally::counts::Tally::finding_at` meets its contract: start and distance are passed on, the rotation is the one that `lowest_rotation` returns, and the ties are those that
-- `count_ties` returns.
use native.Mathlib.Omega.{arith}
use Rattle.tally.specs.Counts.{finding_with}
use Rattle.tally.proofs.LowestLoop.{lowest_of_cut}
use Rattle.tally.proofs.TiesLoop.{ties_of_cut}
use Rattle.tally.proofs.counts.Tally.finding_at.Goals as goal

pub returns : goal.returns
unfolding finding_with
returns c =
    let args = c.args in
    let rotation_is = lowest_of_cut _ _ _ c.min.ensures (omega arith) c.lowest_rotation.ensures in
    let ties_are = ties_of_cut _ _ _ c.min.ensures (omega arith) c.count_ties.ensures in
    record { is = λ i. record { start = args.start; rotation = record { 0 = rotation_is i }; distance = args.least; ties = ties_are i } }
