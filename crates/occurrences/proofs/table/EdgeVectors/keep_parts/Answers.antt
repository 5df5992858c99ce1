-- `EdgeVectors::keep_parts` meets its contract. Turn r makes r the slot of its part and code if they have none, and puts its bit into the word that the slot leads to.
use mathlib.Core.Path.{refl, ◌∙◌}
use Prim.Native.Nat.{ℕ, ◌<◌}
use lib.ListN.{length-take}
use lib.Seq.{get_or-take}
use native.Mathlib.Omega.{arith}
use Rattle.occurrences.proofs.OccurrencesLoop.{parts_start, parts_turned, parts_end}
use Rattle.occurrences.proofs.table.EdgeVectors.keep_parts.Goals as goal

pub loop-r-init : goal.loop-r-init
loop-r-init c = parts_start _ _ c.clear.ensures

pub loop-r-preserved : goal.loop-r-preserved
loop-r-preserved c =
    let below : c.loop-r.r < c.min-counted.result = omega (arith, length-take {A = ℕ}) in
    parts_turned _ _ _ _ _ _ _ c.loop-r.invariant (omega arith) (omega arith) (c.from.ensures ∙ get_or-take _ _ _ 0 below) (omega arith) refl
    c.slot_from-slot.ensures c.word_place.ensures.0

pub returns : goal.returns
returns c = parts_end _ _ _ c.requires c.loop-r.invariant (omega (arith, length-take {A = ℕ}))
