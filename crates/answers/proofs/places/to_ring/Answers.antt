-- `answers::places::to_ring` meets its contract: the law of Conversions, with the contract of `sum_around`.
use mathlib.Core.Path.{ap, ◌∙◌}
use Prim.Native.Nat.{ℕ, ◌+◌}
use Rattle.answers.specs.Places.{around}
use Rattle.answers.proofs.Conversions.{ring_place_from}
use Rattle.answers.proofs.places.to_ring.Goals as goal

pub returns : goal.returns
returns c =
    ring_place_from _ _ _ _ _ (c.sum_around.ensures ∙ ap (λ (q : ℕ). around c.args.m (c.args.rotation.0 + q)) c.saturating_sub-along.ensures)
