-- Reversed codes. Below 248 the rule is the document's; from 248 on a code is kept. That a code reversed twice is the code is one test over the codes 0 to 255,
-- which the checker computes; larger numbers are kept. So no two codes have the same reversed code, and only the mark is reversed to the mark.
use Prim.Native.Nat.{ℕ, ◌+◌, ◌*◌, ◌/◌, ◌%◌, ◌≤◌, ◌<◌}
use mathlib.Core.Path.{◌≡◌, refl, sym, ap, ◌∙◌}
use mathlib.Core.Bool.{Bool, true, false}
use mathlib.Core.Logic.{dite}
use native.Mathlib.Decide.{dec_lt}
use native.Mathlib.Omega.{arith}
use lib.Dec.{eqb}
use borrow.Author.Tests.{lt-ltb, le-ltb, eqb-true, eqb-false, eq-eqb, ne_eqb}
use Rattle.lists.specs.ByPlace.{list_of}
use Rattle.meaning.specs.Meanings.{mark}
use Rattle.meaning.specs.EdgeCodes.{octants, edge_codes, length_class, octant_of, is_edge}
use Rattle.reversal.specs.Reversing.{half_turn, reversed_code}
use Rattle.reversal.proofs.EveryCode.{all_codes, agree_below}

-- "each octant turns by 4 modulo 8, length class kept".
pub code_rule : (code : ℕ) → code < 248 → reversed_code code ≡ 8 * (code / 8) + (code % 8 + 4) % 8
unfolding reversed_code
code_rule code edge = rw (lt-ltb code edge_codes edge)

-- "codes 248 to 255 map to themselves", and so do larger numbers.
pub code_kept : (code : ℕ) → 248 ≤ code → reversed_code code ≡ code
unfolding reversed_code
code_kept code none = rw (le-ltb code edge_codes none)

-- "length class kept".
pub class_kept : (code : ℕ) → code < edge_codes → length_class (reversed_code code) ≡ length_class code
class_kept code edge = omega (arith, code_rule code edge)

-- "each octant turns by 4 modulo 8".
pub octant_turned : (code : ℕ) → code < edge_codes → octant_of (reversed_code code) ≡ (octant_of code + half_turn) % octants
octant_turned code edge = omega (arith, code_rule code edge)

-- The test over all codes: reversed twice, they are the numbers 0 to 255.
all_twice : list_of all_codes (λ code. reversed_code (reversed_code code)) ≡ list_of all_codes (λ code. code)
unfolding list_of reversed_code
all_twice = refl

-- A code reversed twice is the code.
pub code_twice : (code : ℕ) → reversed_code (reversed_code code) ≡ code
code_twice code =
    dite (dec_lt code all_codes)
    (agree_below all_codes (λ c. reversed_code (reversed_code c)) (λ c. c) all_twice code)
    (λ above.
    let kept : reversed_code code ≡ code = code_kept code (omega (arith, above)) in
    ap reversed_code kept ∙ kept)

-- Two codes with the same reversed code are the same.
pub code_injective : (a b : ℕ) → reversed_code a ≡ reversed_code b → a ≡ b
code_injective a b same = sym (code_twice a) ∙ ap reversed_code same ∙ code_twice b

-- The reversed code of an edge is below 248, as the edge's is.
pub edge_reversed_lt : (code : ℕ) → code < edge_codes → reversed_code code < edge_codes
edge_reversed_lt code edge = omega (arith, code_rule code edge)

-- The reversed code is that of an edge exactly where the code is.
pub edge_reversed : (code : ℕ) → is_edge (reversed_code code) ≡ is_edge code
edge_reversed code =
    dite (dec_lt code edge_codes)
    (λ edge. lt-ltb (reversed_code code) edge_codes (edge_reversed_lt code edge) ∙ sym (lt-ltb code edge_codes edge))
    (λ none. ap is_edge (code_kept code (omega (arith, none))))

-- Only the mark is reversed to the mark.
pub mark_reversed : (code : ℕ) → reversed_code code ≡ mark → code ≡ mark
mark_reversed code is = code_injective code mark (is ∙ sym (code_kept mark (omega arith)))

-- Comparing a reversed code with another code gives the same as comparing the code with the other's reversed code.
pub equal_reversed : (a b : ℕ) → eqb (reversed_code a) b ≡ eqb a (reversed_code b)
equal_reversed a b = go (eqb a (reversed_code b)) refl
  where
    go : (t : Bool) → eqb a (reversed_code b) ≡ t → eqb (reversed_code a) b ≡ t
    go true e = eq-eqb (reversed_code a) b (ap reversed_code (eqb-true a (reversed_code b) e) ∙ code_twice b)
    go false e = ne_eqb (reversed_code a) b (λ same. eqb-false a (reversed_code b) e (sym (code_twice a) ∙ ap reversed_code same))
