-- `tally::counts::lowest_rotation` meets its contract: `position` finds the first of the counts that is `least` (`first_with` of LowestLoop).
use mathlib.Core.Path.{◌≡◌}
use borrow.Author.Tests.{tests}
use Rattle.std.proofs.Common.{rules}
use Rattle.std.proofs.lemmas.Iterator.{IsFirst-from_position, YieldsList-from_slice}
use Rattle.tally.proofs.LowestLoop.{first_with}
use Rattle.tally.proofs.counts.lowest_rotation.Goals as goal

pub returns : goal.returns
returns c =
    let counts = c.args.counts.now in
    rw c.unwrap_or.ensures
    (first_with _ _ _ c.requires
    (IsFirst-from_position _ _ _ (λ x. x ≡ c.args.least) (λ x. x ≡ c.args.least → ⊥) c.position-lowest.ensures.ran (YieldsList-from_slice counts c.iter.ensures.rest)
    (λ x q k. search (rules, tests)) (λ x q k. search (rules, tests))))
