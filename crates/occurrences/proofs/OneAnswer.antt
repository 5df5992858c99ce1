-- Any two answers of a function of this crate are equal. The contract of `vector_of` is one equation. That of `hold` has one equation for each of its two
-- arrays.
use mathlib.Core.Path.{◌≡◌, refl, sym, ◌∙◌}
use mathlib.Core.List.{List}
use Prim.Native.Nat.{ℕ}
use Rattle.occurrences.specs.declared.table.EdgeVectors.{EdgeVectors}
use Rattle.occurrences.specs.EdgeVectors.{vector_at}
use Rattle.occurrences.specs.Storing.{Occurrences}

-- Any two answers of `vector_of` are equal.
pub vector_of_unique : (table : EdgeVectors) (code count : ℕ) (a b : List ℕ) → a ≡ vector_at table code count → b ≡ vector_at table code count → a ≡ b
vector_of_unique table code count a b p q = p ∙ sym q

-- Any two structs that meet the contract of `hold` are equal.
pub occurrences_unique : (ring : List ℕ) (a b : EdgeVectors) → Occurrences ring a → Occurrences ring b → a ≡ b
occurrences_unique ring a b is_a is_b = rw (is_a.slots_are ∙ sym is_b.slots_are, is_a.kept_are ∙ sym is_b.kept_are) refl
