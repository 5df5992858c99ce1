-- Any two answers that meet a contract of this crate are equal, because each contract is an equation for the answer.
use Prim.Native.Nat.{ℕ}
use mathlib.Core.Path.{◌≡◌, sym, ◌∙◌}
use mathlib.Core.List.{List}
use Rattle.reversal.specs.Reversing.{IsReversedCode, IsReversed}

-- Any two codes that meet the contract of `reversed_code` are equal.
pub reversed_code_unique : (code r r' : ℕ) → IsReversedCode code r → IsReversedCode code r' → r ≡ r'
reversed_code_unique code r r' a b = a.is ∙ sym b.is

-- Any two arrays that meet the contract of `reverse` or of `reversed` are equal.
pub reversed_unique : (ring r r' : List ℕ) → IsReversed ring r → IsReversed ring r' → r ≡ r'
reversed_unique ring r r' a b = a.is ∙ sym b.is
