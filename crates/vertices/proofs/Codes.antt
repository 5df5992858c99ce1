-- The code of an edge. It is 8·class + octant with octant below 8 and class at most 30, so both can be read off it again, and it is at most 247 (`code_lt`). So
-- it is the only number with that octant and that class (`code_iff`). The
-- edge drawn the other way has both steps negated: the sizes stay, and with them the class; the octant makes half a turn. So its code is the reversed code (`code_back`).
use Prim.Native.Nat.{ℕ, ◌+◌, ◌*◌, ◌<◌}
use mathlib.Core.Path.{◌≡◌, refl, sym, ap, subst}
use mathlib.Core.Logic.{◌↔◌}
use native.Mathlib.Omega.{arith}
use lib.IntN.{ℤ, neg_ℤ}
use Rattle.meaning.specs.EdgeCodes.{edge_codes, length_class, octant_of}
use Rattle.reversal.specs.Reversing.{reversed_code}
use Rattle.reversal.proofs.CodeTwice.{code_rule}
use Rattle.vertices.specs.Steps.{IsStep, larger, class_of_size, step_class, step_octant, step_code, IsCodeOf}
use Rattle.vertices.proofs.WholeNumbers.{size_negated}
use Rattle.vertices.proofs.OctantBySizes.{half_turn_lem}
use Rattle.vertices.proofs.Octants.{octant_lt, octant_iff}
use Rattle.vertices.proofs.BitLengths.{class_least, class_most, class_by}

module _ (dn de : ℤ) where
  -- "8·length class + octant".
  pub code_is : step_code dn de ≡ 8 * step_class dn de + step_octant dn de
  unfolding step_code
  code_is = refl

  -- Every code is at most 247.
  pub code_lt : step_code dn de < edge_codes
  code_lt = omega (arith, code_is, octant_lt dn de)

  -- Its class and its octant are those of the steps.
  class_of_code : length_class (step_code dn de) ≡ step_class dn de
  class_of_code = omega (arith, code_is, octant_lt dn de)

  octant_of_code : octant_of (step_code dn de) ≡ step_octant dn de
  octant_of_code = omega (arith, code_is, octant_lt dn de)

  module _ (step : IsStep dn de) where
    -- The larger step is above 0.
    pub larger_some : 0 < larger dn de
    larger_some = omega (arith, step.some)

    -- The code has the octant and the class that the document's words give.
    code_has : IsCodeOf dn de (step_code dn de)
    code_has = record {
      is_edge = code_lt;
      octant_is = (octant_iff (octant_of (step_code dn de)) (omega arith) dn de step).1 (sym octant_of_code);
      size_least = rw class_of_code (class_least (larger dn de) larger_some);
      size_most = rw class_of_code (class_most (larger dn de) larger_some);
    }

    -- No other code has them.
    code_by : (code : ℕ) → IsCodeOf dn de code → code ≡ step_code dn de
    code_by code is =
        let octant_is : step_octant dn de ≡ octant_of code = (octant_iff (octant_of code) (omega arith) dn de step).0 is.octant_is in
        let class_is : length_class code ≡ step_class dn de =
        class_by (larger dn de) larger_some (length_class code) (omega (arith, is.is_edge)) is.size_least is.size_most in
        omega (arith, code_is)

    -- A number is the code of the edge exactly when it has that octant and that class.
    pub code_iff : (code : ℕ) → (code ≡ step_code dn de) ↔ IsCodeOf dn de code
    code_iff code = (λ e. subst (IsCodeOf dn de) (sym e) code_has, code_by code)

    -- The edge drawn the other way has the reversed code.
    pub code_back : step_code (neg_ℤ dn) (neg_ℤ de) ≡ reversed_code (step_code dn de)
    unfolding step_code
    code_back =
        let same : larger (neg_ℤ dn) (neg_ℤ de) ≡ larger dn de = omega (arith, size_negated dn, size_negated de) in
        let class_kept : step_class (neg_ℤ dn) (neg_ℤ de) ≡ step_class dn de = ap class_of_size same in
        omega (arith, half_turn_lem dn de step, octant_lt dn de, code_rule (step_code dn de) code_lt)
