-- The returns of `import_vertices`: if a row is the first that is given, refusing by it and writing nothing meets the contract; if none is given, so does writing the edges and
-- returning how many there are.
use Prim.Native.Nat.{ℕ, ◌%◌, ◌/◌, ◌≤◌, ◌<◌}
use mathlib.Core.Path.{◌≡◌, sym, ap, ◌∙◌}
use mathlib.Core.List.{List}
use Rattle.std.specs.Prelude.{Option, None, Some, Ok, Err}
use native.Mathlib.Omega.{arith}
use lib.IntN.{ℤ}
use lib.ListN.{length}
use Rattle.lists.specs.Areas.{written}
use Rattle.answers.specs.declared.refusals.Refusal.{Refusal}
use Rattle.answers.specs.declared.refusals.Refusal.TheVariants.{OutputRoom, VertexCount, EqualNeighbours}
use Rattle.answers.specs.Paper.{answer_paper}
use Rattle.answers.specs.Rows.{first_given, answer_by, area_by}
use Rattle.vertices.specs.Boundary.{vertex_count, boundary_edges, IsFirstEqualPair, NoEqualPair}
use Rattle.vertices.specs.Importing.{import_rows, import_answer, imported_area, IsImported}
use Rattle.vertices.specs.ImportRows.{HasWrongCount, IsRightCount}
use Rattle.vertices.proofs.ImportAdmitRows.{import_15_iff, import_16_iff, import_10_iff, import_none_iff}

-- A count of numbers that passes the three tests is right: row 15 is not given.
pub right_count : {given : ℕ} → (given % 2 ≡ 1 → ⊥) → 3 ≤ given / 2 → given / 2 ≤ 4096 → IsRightCount given
right_count not_odd fewest most = record { even = omega arith; fewest = fewest; most = most }

module _ (numbers : List ℤ) (area : List ℕ) where
  -- Refusing by the first row that is given, and writing nothing.
  refused_by : {q : Refusal} → first_given (import_rows numbers (length area)) ≡ Some q → IsImported numbers area (Err q) area
  unfolding import_answer imported_area
  refused_by e = record {
    paper = ap (λ (o : Option Refusal). answer_paper 0 (answer_by o (vertex_count numbers))) (sym e);
    written = ap (λ (o : Option Refusal). area_by o (written (boundary_edges numbers) area) area) (sym e);
  }

  -- Row 15.
  pub refused_count : HasWrongCount (length numbers) → IsImported numbers area (Err VertexCount) area
  refused_count wrong = refused_by ((import_15_iff numbers (length area)).1 wrong)

  module _ (fits : IsRightCount (length numbers)) where
    -- Row 16: two neighbours are equal.
    pub refused_pair : {place : ℕ} → IsFirstEqualPair numbers place → IsImported numbers area (Err (EqualNeighbours place)) area
    refused_pair {place} first = refused_by ((import_16_iff numbers (length area) place).1 (fits, first))

    module _ (no_pair : NoEqualPair numbers) where
      -- Row 10.
      pub refused_room : length area < vertex_count numbers → IsImported numbers area (Err OutputRoom) area
      refused_room few = refused_by ((import_10_iff numbers (length area)).1 (fits, (no_pair, few)))

      module _ (room : vertex_count numbers ≤ length area) where
        -- Writing the edges and returning how many there are.
        pub imported : {out : List ℕ} → out ≡ written (boundary_edges numbers) area → IsImported numbers area (Ok (vertex_count numbers)) out
        unfolding import_answer imported_area
        imported is =
            let none_given : first_given (import_rows numbers (length area)) ≡ None = (import_none_iff numbers (length area)).1 (fits, (no_pair, room)) in
            record {
              paper = ap (λ (o : Option Refusal). answer_paper 0 (answer_by o (vertex_count numbers))) (sym none_given);
              written = is ∙ ap (λ (o : Option Refusal). area_by o (written (boundary_edges numbers) area) area) (sym none_given);
            }
