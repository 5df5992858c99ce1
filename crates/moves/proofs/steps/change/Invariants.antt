-- `moves::steps::change` meets its contract: before turn r the counts below r are changed, and their least is known (`ChangeLoop`).
use Prim.Native.Nat.{◌*◌}
use mathlib.Core.Path.{◌≡◌}
use Rattle.lists.specs.ByPlace.{StoredFirst}
use Rattle.tally.proofs.LeastSoFar.{LeastSoFar}
use Rattle.moves.specs.Moves.{changed_at}
use Rattle.moves.proofs.ChangeLoop.{last_count}
use Rattle.moves.proofs.steps.change.Given as goal

abbrev pub invariant-loop-r : goal.invariant-loop-r
invariant-loop-r l =
    (l.looks ≡ 2 * l.r) × StoredFirst l.r (changed_at l.ring l.leaving l.entering l.initial.counts) l.initial.counts l.counts × LeastSoFar last_count l.counts l.least l.r
