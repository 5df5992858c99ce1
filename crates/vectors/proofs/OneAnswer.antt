-- Any two answers of a function of this crate are equal: the contracts of `first_bits`, `grown` and `no_bit` are one equation each.
use mathlib.Core.Path.{◌≡◌, sym, ◌∙◌}
use mathlib.Core.Bool.{Bool}
use mathlib.Core.List.{List}
use Prim.Native.Nat.{ℕ}
use Rattle.vectors.specs.Bits.{first_bits, no_bit}
use Rattle.vectors.specs.ByValue.{vector_words, grown_words}

-- Any two answers of `first_bits` are equal.
pub first_bits_unique : (m : ℕ) (a b : List ℕ) → a ≡ first_bits m vector_words → b ≡ first_bits m vector_words → a ≡ b
first_bits_unique m a b p q = p ∙ sym q

-- Any two answers of `grown` are equal.
pub grown_unique : (m count : ℕ) (occurs held a b : List ℕ) → a ≡ grown_words m count occurs held → b ≡ grown_words m count occurs held → a ≡ b
grown_unique m count occurs held a b p q = p ∙ sym q

-- Any two answers of `no_bit` are equal.
pub no_bit_unique : (held : List ℕ) (count : ℕ) (a b : Bool) → a ≡ no_bit held count → b ≡ no_bit held count → a ≡ b
no_bit_unique held count a b p q = p ∙ sym q
