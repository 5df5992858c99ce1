-- The contract of `number_at` determines its result: its field `is` is an equation for the result.
use Prim.Native.Nat.{ℕ}
use mathlib.Core.Path.{◌≡◌, sym, ◌∙◌}
use mathlib.Core.List.{List}
use Rattle.fields.specs.Numbers.{IsNumberRead}

-- Any two results that meet the contract of `number_at` are equal.
pub number_at_unique : (bytes : List ℕ) (at count r r' : ℕ) → IsNumberRead bytes at count r → IsNumberRead bytes at count r' → r ≡ r'
number_at_unique bytes at count r r' p p' = p.is ∙ sym p'.is
