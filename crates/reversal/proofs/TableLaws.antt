-- What the contracts give of the table and of the arrays: the rule over the whole table, and that a code and a ring come back if they are reversed twice. r is what
-- `reversed_code` or `reversed` returned, r' what it then returns for that.
use Prim.Native.Nat.{ℕ, ◌+◌, ◌*◌, ◌/◌, ◌%◌, ◌≤◌, ◌<◌}
use mathlib.Core.Path.{◌≡◌, sym, ap, subst, ◌∙◌}
use mathlib.Core.List.{List}
use native.Mathlib.Omega.{arith}
use lib.ListN.{length, take}
use Rattle.reversal.specs.Reversing.{reversed_code, reversed_ring, most_reversed, IsReversedCode, IsReversed}
use Rattle.reversal.proofs.CodeTwice.{code_rule, code_kept, code_twice}
use Rattle.reversal.proofs.RingTwice.{reversed_length, ring_twice}
use Rattle.reversal.proofs.ReversedFirst.{reversed_first}

-- "each octant turns by 4 modulo 8, length class kept": every entry of the table below 248.
pub table_rule : (code r : ℕ) → IsReversedCode code r → code < 248 → r ≡ 8 * (code / 8) + (code % 8 + 4) % 8
table_rule code r entry edge = entry.is ∙ code_rule code edge

-- "codes 248 to 255 map to themselves".
pub table_kept : (code r : ℕ) → IsReversedCode code r → 248 ≤ code → r ≡ code
table_kept code r entry none = entry.is ∙ code_kept code none

-- The entry of an entry is the code.
pub table_twice : (code r r' : ℕ) → IsReversedCode code r → IsReversedCode r r' → r' ≡ code
table_twice code r r' once again = again.is ∙ ap reversed_code once.is ∙ code_twice code

-- "reversing twice gives the ring back": reversing the first m places of an array that was made of a ring of at most 256 edges.
pub array_twice : (ring r r' : List ℕ) → length ring ≤ most_reversed → IsReversed ring r → IsReversed (take (length ring) r) r' → take (length ring) r' ≡ ring
array_twice ring r r' most once again =
    let back : IsReversed (reversed_ring ring) r' = subst (λ (l : List ℕ). IsReversed l r') (reversed_first ring r most once) again in
    let same = reversed_length ring in
    ap (λ (n : ℕ). take n r') (sym same) ∙ reversed_first (reversed_ring ring) r' (omega (arith, same)) back ∙ ring_twice ring
