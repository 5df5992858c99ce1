-- `step` turns the first m counts by one: the last count comes to rotation 0, and every other one to the next rotation. So each count comes from the rotation
-- before it (`earlier`). The counts from m on are not touched.
use Prim.Native.Nat.{ℕ, ◌-◌, ◌≤◌}
use mathlib.Core.Path.{◌≡◌, sym, ap, ◌∙◌}
use mathlib.Core.List.{List, ◌++◌}
use mathlib.Core.Logic.{dite}
use native.Mathlib.Decide.{ℕ_discrete}
use native.Mathlib.Omega.{arith}
use lib.ListN.{length, take, drop, get_or}
use Rattle.std.proofs.lemmas.List.{length-take, get_or-take}
use Rattle.std.specs.List.{RotatedRight}
use Rattle.lists.specs.ByPlace.{StoredFirst}
use Rattle.tally.proofs.StoredFront.{stored_front}
use Rattle.moves.specs.Moves.{earlier}
use Rattle.moves.proofs.NextRotation.{earlier_first, earlier_later}

-- The first m counts turned by one, before those from m on, are the counts under the next rotations' numbers.
pub renumbered : (m : ℕ) (old turned : List ℕ) → m ≤ length old → length turned ≡ length (take m old)
    → RotatedRight (take m old) turned (length (take m old)) 1 → StoredFirst m (λ r. get_or old (earlier m r) 0) old (turned ++ drop m old)
renumbered m old turned room size rotated =
    let all : length (take m old) ≡ m = omega (arith, length-take m old, room) in
    let long : length turned ≡ m = size ∙ all in
    let at : (ℕ → ℕ) = λ r. get_or old r 0 in
    stored_front old turned room long
    (λ r l. dite (ℕ_discrete r 0)
    (λ first. rotated.0 r 0 (omega arith) ∙ get_or-take m old _ 0 (omega (arith, all, first)) ∙ ap at (omega (arith, all, first, earlier_first m r first)))
    (λ later. rotated.1 r 0 (omega (arith, later)) (omega (arith, all)) ∙ get_or-take m old (r - 1) 0 (omega arith) ∙ ap at (sym (earlier_later m r later))))
