-- Equal neighbours. The tests pass exactly where numbers, vertices and neighbours are equal, so what First of crates/meaning proves of the first number that passes a test
-- holds for the first of the earliest pair of equal neighbours. Two vertices that differ have steps that are not both 0 (`step_between`).
use Prim.Native.Nat.{ℕ, ◌+◌, ◌≤◌, ◌<◌}
use mathlib.Core.Path.{◌≡◌, sym, ap, ap₂, ◌∙◌}
use mathlib.Core.Bool.{true, false, true≢false}
use mathlib.Core.List.{List}
use mathlib.Core.Logic.{◌↔◌, ⊎_elim}
use native.Mathlib.Omega.{arith}
use lib.IntN.{ℤ, nat_abs, ◌-ℤ◌}
use Rattle.std.proofs.lemmas.Bool.Decides.{Decides-int_eq}
use Rattle.lists.proofs.Cases.{le_or_lt}
use Rattle.lists.proofs.SizesTested.{and_iff, test_fails}
use Rattle.meaning.proofs.First.{first_below_lem, first_by}
use Rattle.vertices.specs.Steps.{IsStep}
use Rattle.vertices.specs.declared.boundary.Vertex.{Vertex}
use Rattle.vertices.specs.Boundary.{vertex_count, vertex_at, following, is_same_vertex, is_equal_pair, first_equal_pair, IsEqualPair, IsFirstEqualPair, NoEqualPair}
use Rattle.vertices.proofs.WholeNumbers.{equal_by_difference}

-- Two vertices with equal numbers are equal.
pub vertex_by : {a b : Vertex} → a.north ≡ b.north → a.east ≡ b.east → a ≡ b
vertex_by north east = λ i. record { north = north i; east = east i }

-- The test `is_same_vertex` passes exactly when the two vertices are equal.
pub same_vertex_iff : (a b : Vertex) → (is_same_vertex a b ≡ true) ↔ (a ≡ b)
same_vertex_iff a b =
    let tests = and_iff (Decides-int_eq a.north b.north) (Decides-int_eq a.east b.east) in
    (λ e. vertex_by (tests.0 e).0 (tests.0 e).1, λ same. tests.1 (ap (λ (v : Vertex). v.north) same, ap (λ (v : Vertex). v.east) same))

-- Two vertices for which the test fails differ.
pub differ_by : {a b a' b' : Vertex} → a' ≡ a → b' ≡ b → is_same_vertex a' b' ≡ false → a ≡ b → ⊥
differ_by {a} {b} is is' fails same = true≢false (sym ((same_vertex_iff a b).1 same) ∙ ap₂ is_same_vertex (sym is) (sym is') ∙ fails)

-- The steps from one vertex to another that differs from it are not both 0.
pub step_between : (a b : Vertex) → (a ≡ b → ⊥) → IsStep (b.north -ℤ a.north) (b.east -ℤ a.east)
step_between a b differ =
    let dn : ℤ = b.north -ℤ a.north in
    let de : ℤ = b.east -ℤ a.east in
    ⊎_elim
    (λ none. absurd (differ (vertex_by (equal_by_difference a.north b.north (omega arith)) (equal_by_difference a.east b.east (omega arith)))))
    (λ some. record { some = some })
    (le_or_lt (nat_abs dn + nat_abs de) 0)

module _ (numbers : List ℤ) where
  -- The test `is_equal_pair` passes exactly when the two neighbours are equal.
  pub equal_pair_iff : (i : ℕ) → (is_equal_pair numbers i ≡ true) ↔ IsEqualPair numbers i
  unfolding is_equal_pair
  equal_pair_iff i =
      let tested = same_vertex_iff (vertex_at numbers i) (vertex_at numbers (following (vertex_count numbers) i)) in
      (λ e. record { same = tested.0 e }, λ pair. tested.1 pair.same)

  -- Before the first of the earliest pair no two neighbours are equal.
  none_before : (i : ℕ) → i < first_equal_pair numbers → IsEqualPair numbers i → ⊥
  unfolding first_equal_pair
  none_before i l pair = true≢false (sym ((equal_pair_iff i).1 pair) ∙ first_below_lem.none_before.fails i l)

  -- If `first_equal_pair` is below the number of vertices, it is the first of the earliest pair.
  pub first_pair_is : first_equal_pair numbers < vertex_count numbers → IsFirstEqualPair numbers (first_equal_pair numbers)
  unfolding first_equal_pair
  first_pair_is below = record {
    in_boundary = below;
    pair = (equal_pair_iff (first_equal_pair numbers)).0 (first_below_lem.passes below);
    none_before = none_before;
  }

  -- If it is not below, no two neighbours are equal.
  pub no_pair_by : vertex_count numbers ≤ first_equal_pair numbers → NoEqualPair numbers
  no_pair_by past = record { none = λ i l. none_before i (omega arith) }

  -- There is one first pair only.
  pub first_pair_by : {place : ℕ} → IsFirstEqualPair numbers place → place ≡ first_equal_pair numbers
  unfolding first_equal_pair
  first_pair_by {place} first =
      first_by
      (record { place_le = omega (arith, first.in_boundary); fails = λ i l. sym (test_fails (equal_pair_iff i) (first.none_before i l)) })
      (λ _. (equal_pair_iff place).1 first.pair)
