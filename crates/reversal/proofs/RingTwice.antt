-- The reversed ring, place by place. It has as many edges as the ring; its place q has the reversed code of the ring's edge at m − 1 − q. Reversed again, place q
-- leads back to place q, and the code reversed twice is the code: so the ring reversed twice is the ring. It holds a mark only where the ring holds one.
use Prim.Native.Nat.{ℕ, ◌-◌, ◌≤◌, ◌<◌}
use mathlib.Core.Path.{◌≡◌, sym, ap, ◌∙◌}
use mathlib.Core.List.{List}
use native.Mathlib.Omega.{arith}
use lib.ListN.{length, get_or}
use lib.Seq.{ext_get_or}
use Rattle.lists.proofs.ByPlace.{list_of_length, list_of_at, list_of_past}
use Rattle.meaning.specs.Meanings.{HoldsMark}
use Rattle.reversal.specs.Reversing.{reversed_code, reversed_ring}
use Rattle.reversal.proofs.CodeTwice.{code_twice, mark_reversed}

-- The reversed ring has as many edges as the ring.
pub reversed_length : (ring : List ℕ) → length (reversed_ring ring) ≡ length ring
unfolding reversed_ring
reversed_length ring = list_of_length (length ring) _

-- Its place q has the reversed code of the ring's edge at m − 1 − q.
pub reversed_at : (ring : List ℕ) (q : ℕ) → q < length ring → get_or (reversed_ring ring) q 0 ≡ reversed_code (get_or ring (length ring - 1 - q) 0)
unfolding reversed_ring
reversed_at ring = list_of_at (length ring) _

-- From place m on, `get_or` of the reversed ring gives 0.
pub reversed_past : (ring : List ℕ) (q : ℕ) → length ring ≤ q → get_or (reversed_ring ring) q 0 ≡ 0
unfolding reversed_ring
reversed_past ring = list_of_past (length ring) _

-- "reversing twice gives the ring back".
pub ring_twice : (ring : List ℕ) → reversed_ring (reversed_ring ring) ≡ ring
ring_twice ring =
    let back : List ℕ = reversed_ring ring in
    let size : length back ≡ length ring = reversed_length ring in
    ext_get_or 0 (reversed_ring back) ring (reversed_length back ∙ size)
    (λ q l.
    let in_back : q < length back = omega (arith, reversed_length back) in
    let p : ℕ = length back - 1 - q in
    let in_ring : p < length ring = omega arith in
    let again : length ring - 1 - p ≡ q = omega arith in
    reversed_at back q in_back ∙ ap reversed_code (reversed_at ring p in_ring) ∙ code_twice _ ∙ ap (λ (s : ℕ). get_or ring s 0) again)

-- If the reversed ring holds a mark, the ring holds one.
pub holds_reversed : (ring : List ℕ) → HoldsMark (reversed_ring ring) → HoldsMark ring
holds_reversed ring holds =
    let q : ℕ = holds.place in
    let in_ring : q < length ring = omega (arith, reversed_length ring, holds.in_edges) in
    record {
      place = length ring - 1 - q;
      in_edges = omega arith;
      is_mark = mark_reversed _ (sym (reversed_at ring q in_ring) ∙ holds.is_mark);
    }

-- If the ring holds no mark, the reversed ring holds none.
pub reversed_unmarked : (ring : List ℕ) → (HoldsMark ring → ⊥) → HoldsMark (reversed_ring ring) → ⊥
reversed_unmarked ring none holds = none (holds_reversed ring holds)
