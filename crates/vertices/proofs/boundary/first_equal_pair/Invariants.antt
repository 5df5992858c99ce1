-- `vertices::boundary::first_equal_pair` meets its contract: before turn i no vertex before i equals the one that follows it.
use Prim.Native.Nat.{ℕ, ◌<◌}
use Rattle.vertices.specs.Boundary.{IsEqualPair}
use Rattle.vertices.proofs.boundary.first_equal_pair.Given as goal

abbrev pub invariant-loop-i : goal.invariant-loop-i
invariant-loop-i l = (k : ℕ) → k < l.i → IsEqualPair l.numbers k → ⊥
