-- Any two answers that meet a contract of this crate are equal, and so is the join area at exit, because each contract is an equation for every part of the answer.
use Prim.Native.Nat.{ℕ}
use mathlib.Core.Path.{◌≡◌, sym, ◌∙◌}
use mathlib.Core.List.{List}
use Rattle.windows.specs.Windows.{Parts, IsWindow, IsWholeLength}
use Rattle.windows.specs.Joins.{IsJoinFilled}

-- Any two windows that meet the contract of `window` are equal.
pub one_window : (p : Parts) (i m : ℕ) (edges edges' : List ℕ) → IsWindow p i m edges → IsWindow p i m edges' → edges ≡ edges'
one_window p i m edges edges' a b = a.is ∙ sym b.is

-- Any two lengths that meet the contract of `whole_length` are equal.
pub one_length : (m : ℕ) (p : Parts) (r r' : ℕ) → IsWholeLength m p r → IsWholeLength m p r' → r ≡ r'
one_length m p r r' a b = a.is ∙ sym b.is

-- Any two answers that meet the contract of `fill_join` are equal, and so is the join area at exit.
pub one_fill : (line : List ℕ) (m : ℕ) (join : List ℕ) (r r' : ℕ) (out out' : List ℕ) → IsJoinFilled line m join r out → IsJoinFilled line m join r' out'
    → (r ≡ r') × (out ≡ out')
one_fill line m join r r' out out' a b = (a.used_is ∙ sym b.used_is, a.filled ∙ sym b.filled)
