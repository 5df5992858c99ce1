-- The rows of the table, 15, 16, 10, hold for every answer that meets the contract of `import_vertices`. The answer has a row's number, for row 16 also its place, exactly
-- when that row is the first that is given (AnswerByRows of crates/answers), and ImportAdmitRows states when it is. If none is given, the count is that of the vertices, and
-- the edges are written (`imported_count`, `imported_edges`).
use Prim.Native.Nat.{ℕ, ◌<◌}
use mathlib.Core.Path.{◌≡◌, refl}
use mathlib.Core.Logic.Iff
use mathlib.Core.Logic.{◌⊎◌, inl, inr}
use mathlib.Core.List.{List}
use Rattle.std.specs.Prelude.{Option, None, Some, Result}
use native.Mathlib.Omega.{arith}
use lib.IntN.{ℤ}
use lib.ListN.{length}
use Rattle.lists.specs.Areas.{written}
use Rattle.answers.specs.declared.refusals.Refusal.{Refusal}
use Rattle.answers.specs.declared.refusals.Refusal.TheVariants.{OutputRoom, VertexCount, EqualNeighbours}
use Rattle.answers.specs.Refusals.{number_of, place_of}
use Rattle.answers.specs.Paper.{answer_paper}
use Rattle.answers.specs.Rows.{first_given, answer_by}
use Rattle.answers.proofs.AnswerByRows.{row_number_iff, row_place_iff, accepted_number_iff, accepted_counts, accepted_area, number_by, place_unless, refused_counts, refused_area}
use Rattle.vertices.specs.Boundary.{vertex_count, boundary_edges}
use Rattle.vertices.specs.Importing.{most_vertices, import_rows, import_answer, imported_area, paper_of, IsImported}
use Rattle.vertices.specs.ImportRows.{ImportRows}
use Rattle.vertices.proofs.ImportAdmitRows.{import_15_iff, import_16_iff, import_10_iff, import_none_iff, import_row_has}

module _ (numbers : List ℤ) (room : ℕ) where
  -- The first row that is given has number 10, 15 or 16.
  import_row_numbers : (q : Refusal) → first_given (import_rows numbers room) ≡ Some q → (number_of q ≡ 10) ⊎ ((number_of q ≡ 15) ⊎ (number_of q ≡ 16))
  import_row_numbers =
      import_row_has numbers room (λ q. (number_of q ≡ 10) ⊎ ((number_of q ≡ 15) ⊎ (number_of q ≡ 16))) (inr (inl refl)) (λ _ _. inr (inr refl)) (inl refl)

  -- It has a place below 4,096, and place 0 if its number is not 16.
  pub import_row_places : (q : Refusal) → first_given (import_rows numbers room) ≡ Some q → (place_of q < most_vertices) × ((number_of q ≡ 16 → ⊥) → place_of q ≡ 0)
  import_row_places =
      import_row_has numbers room (λ q. (place_of q < most_vertices) × ((number_of q ≡ 16 → ⊥) → place_of q ≡ 0)) (omega arith, λ _. refl)
      (λ place below. (below, λ other. absurd (other refl))) (omega arith, λ _. refl)

module _ {numbers : List ℤ} {area : List ℕ} {r : Result ℕ Refusal} {out : List ℕ} (meets : IsImported numbers area r out) where
  abbrev room : ℕ
  room = length area

  abbrev first : Option Refusal
  first = first_given (import_rows numbers room)

  -- the paper is that of the first row that is given, or of an accepted answer
  by_rows : paper_of r ≡ answer_paper 0 (answer_by first (vertex_count numbers))
  unfolding import_answer
  by_rows = meets.paper

  -- Every answer that meets the contract of `import_vertices` obeys the table `ImportRows`.
  pub rows_of_import : ImportRows numbers area (paper_of r) out
  unfolding imported_area
  rows_of_import = record {
    row_15 = Iff.trans (row_number_iff 0 (vertex_count numbers) first by_rows VertexCount (omega arith)) (import_15_iff numbers room);
    row_16 = λ at. Iff.trans (row_place_iff 0 (vertex_count numbers) first by_rows (EqualNeighbours at)) (import_16_iff numbers room at);
    row_10 = Iff.trans (row_number_iff 0 (vertex_count numbers) first by_rows OutputRoom (omega arith)) (import_10_iff numbers room);
    accepted = Iff.trans (accepted_number_iff 0 (vertex_count numbers) first by_rows) (import_none_iff numbers room);
    number_is_one_of =
        number_by 0 (vertex_count numbers) first by_rows (λ (n : ℕ). (n ≡ 0) ⊎ ((n ≡ 10) ⊎ ((n ≡ 15) ⊎ (n ≡ 16)))) (inl refl)
        (λ q e. inr (import_row_numbers numbers room q e));
    place_is = place_unless 0 (vertex_count numbers) first by_rows 16 (λ q e. (import_row_places numbers room q e).1);
    no_edges = refused_counts 0 (vertex_count numbers) first by_rows;
    untouched = refused_area 0 (vertex_count numbers) first by_rows (written (boundary_edges numbers) area) area meets.written;
  }

  module _ (zero_is : (paper_of r).number ≡ 0) where
    none_given : first ≡ None
    none_given = (accepted_number_iff 0 (vertex_count numbers) first by_rows).0 zero_is

    -- An accepted answer counts an edge for each vertex.
    pub imported_count : (paper_of r).counts ≡ vertex_count numbers
    imported_count = accepted_counts 0 (vertex_count numbers) first by_rows none_given

    -- And it has written the edges of the boundary; the bytes behind them are as they were.
    pub imported_edges : out ≡ written (boundary_edges numbers) area
    unfolding imported_area
    imported_edges = accepted_area 0 (vertex_count numbers) first by_rows (written (boundary_edges numbers) area) area meets.written none_given
