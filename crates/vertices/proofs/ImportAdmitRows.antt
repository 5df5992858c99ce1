-- When each of the rows of `import_vertices`, 15, 16, 10, is the first that is given: when its condition holds and no row before it is given (RowsExactly of
-- crates/answers). `is_row_15`, `is_row_16` and `is_row_10` state when each is given and when it is not.
use Prim.Native.Nat.{ℕ, ◌/◌, ◌%◌, ◌≤◌, ◌<◌}
use mathlib.Core.Path.{◌≡◌, refl}
use mathlib.Core.Logic.{◌↔◌, inl, inr, ⊎_elim}
use mathlib.Core.List.{List}
use Rattle.std.specs.Prelude.{None, Some}
use native.Mathlib.Omega.{arith}
use lib.Dec.{ltb}
use lib.IntN.{ℤ}
use lib.ListN.{length}
use Rattle.lists.proofs.SizesTested.{lt_iff, eq_iff, or_iff}
use Rattle.answers.specs.declared.refusals.Refusal.{Refusal}
use Rattle.answers.specs.declared.refusals.Refusal.TheVariants.{OutputRoom, VertexCount, EqualNeighbours}
use Rattle.answers.specs.Rows.{row, first_given}
use Rattle.answers.proofs.RowsExactly.{IsRow, is_row, first_place_iff, end, row_has, first_has, at_row, at_fault, past_row, no_row, no_last_row}
use Rattle.vertices.specs.Boundary.{vertex_count, first_equal_pair, IsFirstEqualPair, NoEqualPair}
use Rattle.vertices.specs.Importing.{most_vertices, is_row15, row16, import_rows}
use Rattle.vertices.specs.ImportRows.{HasWrongCount, IsRightCount}
use Rattle.vertices.proofs.EqualPairs.{first_pair_is, no_pair_by, first_pair_by}

-- Row 15 is given exactly when the count of numbers is wrong, and not given exactly when it is right.
pub is_row_15 : (given : ℕ) → IsRow (row (is_row15 given) VertexCount) VertexCount (HasWrongCount given) (IsRightCount given)
is_row_15 given =
    is_row (or_iff (eq_iff (given % 2) 1) (or_iff (lt_iff (given / 2) 3) (lt_iff most_vertices (given / 2))))
    (λ fits. ⊎_elim (λ odd. omega (arith, fits.even)) (⊎_elim (λ few. omega (arith, fits.fewest)) (λ many. omega (arith, fits.most))))
    (λ not.
    let not_odd : given % 2 ≡ 1 → ⊥ = λ odd. not (inl odd) in
    let not_few : given / 2 < 3 → ⊥ = λ few. not (inr (inl few)) in
    let not_many : 4096 < given / 2 → ⊥ = λ many. not (inr (inr many)) in
    record { even = omega arith; fewest = omega arith; most = omega arith })

module _ (numbers : List ℤ) where
  -- Row 16 is given exactly when `first_equal_pair` is below the number of vertices, and not given exactly when no two neighbours are equal.
  pub is_row_16 : IsRow (row16 numbers) (EqualNeighbours (first_equal_pair numbers)) (first_equal_pair numbers < vertex_count numbers) (NoEqualPair numbers)
  is_row_16 =
      is_row (lt_iff (first_equal_pair numbers) (vertex_count numbers)) (λ no_pair below. no_pair.none (first_equal_pair numbers) below (first_pair_is numbers below).pair)
      (λ not. no_pair_by numbers (omega (arith, not)))

  -- Row 16 is given with this place exactly when it is "the first of the earliest pair".
  pub row_16_at_iff : (place : ℕ) → (row16 numbers ≡ Some (EqualNeighbours place)) ↔ IsFirstEqualPair numbers place
  row_16_at_iff = first_place_iff EqualNeighbours (λ p. refl) (first_pair_is numbers) (λ p first. (first_pair_by numbers first, first.in_boundary))

  module _ (room : ℕ) where
    -- Row 10 is given exactly when fewer bytes are lent than there are vertices.
    pub is_row_10 : IsRow (row (ltb room (vertex_count numbers)) OutputRoom) OutputRoom (room < vertex_count numbers) (vertex_count numbers ≤ room)
    is_row_10 = is_row (lt_iff room (vertex_count numbers)) (λ enough few. omega arith) (λ not. omega arith)

    -- Row 15 is the first exactly when the count is wrong.
    pub import_15_iff : (first_given (import_rows numbers room) ≡ Some VertexCount) ↔ HasWrongCount (length numbers)
    unfolding import_rows
    import_15_iff = (at_row (is_row_15 (length numbers)) (row_has is_row_16 (omega arith) (row_has is_row_10 (omega arith) end))).exactly

    -- Row 16 is the first with this place exactly when it is the first of the earliest pair, and row 15 is not given.
    pub import_16_iff : (place : ℕ) → (first_given (import_rows numbers room) ≡ Some (EqualNeighbours place)) ↔ (IsRightCount (length numbers) × IsFirstEqualPair numbers place)
    unfolding import_rows
    import_16_iff place = (past_row (is_row_15 (length numbers)) (omega arith) (at_fault (row_16_at_iff place) (row_has is_row_10 (omega arith) end))).exactly

    -- Row 10 is the first exactly when fewer bytes are lent than there are vertices, and rows 15 and 16 are not given.
    pub import_10_iff : (first_given (import_rows numbers room) ≡ Some OutputRoom) ↔ (IsRightCount (length numbers) × (NoEqualPair numbers × (room < vertex_count numbers)))
    unfolding import_rows
    import_10_iff = (past_row (is_row_15 (length numbers)) (omega arith) (past_row is_row_16 (omega arith) (at_row is_row_10 end))).exactly

    -- None of these rows is given exactly when the count is right, no two neighbours are equal, and there is a byte for each vertex.
    pub import_none_iff : (first_given (import_rows numbers room) ≡ None) ↔ (IsRightCount (length numbers) × (NoEqualPair numbers × (vertex_count numbers ≤ room)))
    unfolding import_rows
    import_none_iff = (no_row (is_row_15 (length numbers)) (no_row is_row_16 (no_last_row is_row_10))).exactly

    -- If P holds for each row's refusal, for row 16 with a place of a boundary of at most 4,096 vertices, then P holds for the refusal of the first row that is given.
    pub import_row_has : (P : Refusal → Type 0) → P VertexCount → ((place : ℕ) → place < most_vertices → P (EqualNeighbours place)) → P OutputRoom → (q : Refusal)
        → first_given (import_rows numbers room) ≡ Some q → P q
    unfolding import_rows
    import_row_has P fifteen sixteen ten q e =
        first_has {P = λ (r : Refusal). first_given (import_rows numbers room) ≡ Some r → P r}
        (row_has (is_row_15 (length numbers)) (λ _. fifteen)
        (row_has is_row_16 (λ f. let h = (import_16_iff (first_equal_pair numbers)).0 f in sixteen (first_equal_pair numbers) (omega (arith, h.0.most, h.1.in_boundary)))
        (row_has is_row_10 (λ _. ten) end))) q e e
