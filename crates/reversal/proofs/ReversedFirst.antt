-- What a caller of `reverse` or `reversed` reads off the array: its first m places are the reversed ring.
use Prim.Native.Nat.{ℕ, ◌≤◌, ◌<◌}
use mathlib.Core.Path.{◌≡◌, sym, ap, ◌∙◌}
use mathlib.Core.List.{List}
use native.Mathlib.Omega.{arith}
use lib.ListN.{length, get_or, take}
use lib.Seq.{ext_get_or, length-take-le, get_or-take}
use Rattle.lists.proofs.ByPlace.{list_of_length, list_of_at}
use Rattle.reversal.specs.Reversing.{reversed_ring, most_reversed, IsReversed}
use Rattle.reversal.proofs.RingTwice.{reversed_length}

-- The array has 256 places, whatever the ring.
pub reversed_room : (ring r : List ℕ) → IsReversed ring r → length r ≡ most_reversed
reversed_room ring r reversed = ap length reversed.is ∙ list_of_length most_reversed _

-- Its first m places are the reversed ring, if the ring has at most 256 edges.
pub reversed_first : (ring r : List ℕ) → length ring ≤ most_reversed → IsReversed ring r → take (length ring) r ≡ reversed_ring ring
reversed_first ring r most reversed =
    let m : ℕ = length ring in
    let size : length (take m r) ≡ m = length-take-le m r (omega (arith, reversed_room ring r reversed)) in
    ext_get_or 0 (take m r) (reversed_ring ring) (size ∙ sym (reversed_length ring))
    (λ q l.
    let in_ring : q < m = omega arith in
    get_or-take m r q 0 in_ring ∙ ap (λ (xs : List ℕ). get_or xs q 0) reversed.is ∙ list_of_at most_reversed _ q (omega arith))
