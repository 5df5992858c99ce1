-- `outlines_import_vertices` meets the demands. It answers by its rows, so demand 1 follows as for every call (RowsAgree). Where it is accepted, its bytes begin with the edges of
-- the boundary (`front_is`), and each has the octant and the length class of its steps (`edge_has` of crates/vertices). So what crates/vertices proves of these edges holds of
-- the bytes that the call has written: none is a mark or above 247; a boundary that is moved gives the same answer and bytes, begun at another vertex or in opposite order it is
-- accepted too and gives a rotation of the bytes or of the reversed ring.
use Prim.Native.Nat.{ℕ, ◌≤◌}
use mathlib.Core.Path.{◌≡◌, refl, sym, ap, subst, ◌∙◌}
use mathlib.Core.List.{List}
use Rattle.std.specs.Prelude.{Option, None, Some}
use native.Mathlib.Omega.{arith}
use lib.IntN.{ℤ}
use lib.ListN.{length, take}
use Rattle.lists.specs.Areas.{written}
use Rattle.lists.proofs.Areas.{written_front}
use Rattle.meaning.specs.Meanings.{HoldsMark}
use Rattle.answers.specs.declared.refusals.Refusal.{Refusal}
use Rattle.answers.specs.declared.refusals.Refusal.TheVariants.{EqualNeighbours, RingMark, RingCode}
use Rattle.answers.specs.Paper.{Answer, answer_paper}
use Rattle.answers.specs.Rows.{first_given, answer_by}
use Rattle.answers.proofs.AnswerByRows.{row_number_iff, row_place_iff, accepted_number_iff}
use Rattle.reversal.specs.Reversing.{reversed_ring, rotated}
use Rattle.outlines.specs.Report.{ReportCounts, no_report_counts}
use Rattle.two_way.specs.Admitting.{two_way_rows, AllEdges}
use Rattle.two_way.specs.TwoWay.{TwoWayCounts, no_two_way_counts, two_way_counts, two_way_answer}
use Rattle.two_way.proofs.TwoWayAdmitRows.{two_way_12_iff, two_way_14_iff}
use Rattle.vertices.specs.Boundary.{vertex_count, boundary_edges, first_equal_pair, NoEqualPair, IsBegunAt, IsOpposite, IsMoved}
use Rattle.vertices.specs.ImportRows.{IsRightCount}
use Rattle.vertices.specs.Importing.{import_rows, import_answer, imported_area}
use Rattle.vertices.proofs.BoundaryEdges.{edges_length, edges_lt, no_mark, edge_has}
use Rattle.vertices.proofs.SameBoundary.{begun_edges, begun_no_pair, opposite_edges, opposite_no_pair}
use Rattle.vertices.proofs.MovedAnswer.{moved_answer, moved_area}
use Rattle.vertices.proofs.ImportAdmitRows.{is_row_15, is_row_16, row_16_at_iff, is_row_10, import_none_iff}
use Rattle.exports.specs.declared.answering.Answer.{Answer as AnswerStruct}
use Rattle.exports.specs.declared.two_way_scan.TwoWayAnswer.{TwoWayAnswer}
use Rattle.exports.specs.Exported.{paper_in_struct, one_count_in_struct, IsImportExported, IsTwoWayExported}
use Rattle.exports.specs.Demands.{import_table, ImportDemand2, ImportMeets}
use Rattle.exports.proofs.OneAnswer.{import_unique}
use Rattle.exports.proofs.RowsAgree.{AllAgree, row_agrees, fault_agrees, GoesByRows, Accepts, demand_1_met, accepts}

-- the rows of an import agree with those of the page of demands: 15, 16, 10
import_agrees : (numbers : List ℤ) (room : ℕ) → AllAgree (import_rows numbers room) (import_table numbers room)
unfolding import_rows
import_agrees numbers room = (
  row_agrees (is_row_15 (length numbers)) refl,
  λ _. (
    fault_agrees EqualNeighbours (λ p. (refl, refl)) (row_16_at_iff numbers) (λ q e. (first_equal_pair numbers, (is_row_16 numbers).only q e)),
    λ _. (row_agrees (is_row_10 numbers room) refl, λ _. tt),
  ),
)

-- the paper in the struct, by the first row that is given
import_by : (o : Option Refusal) (count : ℕ) → paper_in_struct one_count_in_struct (answer_paper 0 (answer_by o count)) ≡ answer_paper no_report_counts (answer_by o (one_count_in_struct count))
import_by None count = refl
import_by (Some q) count = refl

-- a two-way scan for a ring without a mark, all of edge codes, is refused neither by 12 nor by 14
ring_admitted : (ring line : List ℕ) (k : ℕ) (words : List ℕ) {s : TwoWayAnswer} {out : List ℕ} → (HoldsMark ring → ⊥) → AllEdges ring
    → IsTwoWayExported ring line k words s out → (s.refusal ≡ 12 → ⊥) × (s.refusal ≡ 14 → ⊥)
unfolding two_way_answer
ring_admitted ring line k words {s} unmarked all scanned =
    let n : ℕ = length line in
    let room : ℕ = length words in
    let first : Option Refusal = first_given (two_way_rows ring k n room) in
    let counts : TwoWayCounts = two_way_counts ring line k in (
      λ is. unmarked ((two_way_12_iff ring k n room).0 ((row_number_iff no_two_way_counts counts first scanned.paper RingMark (omega arith)).0 is)).1,
      λ is.
          let at = ((two_way_14_iff ring k n room s.place).0 ((row_place_iff no_two_way_counts counts first scanned.paper (RingCode s.place)).0 (is, refl))).1.1.1 in
          omega (arith, at.no_edge, all.each s.place at.in_ring),
    )

module _ (numbers : List ℤ) (area : List ℕ) {r : AnswerStruct} {out : List ℕ} (e : IsImportExported numbers area r out) where
  -- the call answers by its rows
  by_rows : GoesByRows (import_rows numbers (length area)) (one_count_in_struct (vertex_count numbers)) (written (boundary_edges numbers) area) area r out
  unfolding import_answer imported_area
  by_rows = record { paper = e.paper ∙ import_by (first_given (import_rows numbers (length area))) (vertex_count numbers); written = e.written }

  module _ (zero_is : r.refusal ≡ 0) where
    -- no row is given
    taken : Accepts (import_rows numbers (length area)) (one_count_in_struct (vertex_count numbers)) (written (boundary_edges numbers) area) r out
    taken = accepts by_rows zero_is

    -- as many edges as vertices are counted
    found_is : r.found ≡ vertex_count numbers
    found_is = ap (λ (c : ReportCounts). c.found) taken.counts_are

    -- no two neighbours are equal
    no_pair : NoEqualPair numbers
    no_pair = ((import_none_iff numbers (length area)).0 taken.none_given).1.0

    -- it meets demand 2
    import_demand_2 : ImportDemand2 numbers area r out
    import_demand_2 = record {
      edges = boundary_edges numbers;
      found_is = found_is;
      one_per_vertex = edges_length numbers;
      edge_is = edge_has numbers no_pair;
      bytes_are = taken.written;
    }

    -- An accepted import has written the edges of the boundary, as many as it counts.
    pub front_is : take r.found out ≡ boundary_edges numbers
    front_is = written_front (boundary_edges numbers) area taken.written r.found (edges_length numbers ∙ sym found_is)

    -- The bytes hold no mark, so no search refuses them by 12.
    pub imported_unmarked : HoldsMark (take r.found out) → ⊥
    imported_unmarked holds = no_mark numbers (subst HoldsMark front_is holds)

    -- Every byte is at most 247.
    pub imported_edges_only : AllEdges (take r.found out)
    imported_edges_only = subst AllEdges (sym front_is) (record { each = λ q l. edges_lt numbers q (omega (arith, edges_length numbers)) })

    -- A two-way scan for an imported ring is refused neither by 12 nor by 14.
    pub imported_ring : (line : List ℕ) (k : ℕ) (words : List ℕ) {s : TwoWayAnswer} {out' : List ℕ} → IsTwoWayExported (take r.found out) line k words s out'
        → (s.refusal ≡ 12 → ⊥) × (s.refusal ≡ 14 → ⊥)
    imported_ring line k words = ring_admitted (take r.found out) line k words imported_unmarked imported_edges_only

  -- `outlines_import_vertices` meets the demands.
  pub import_meets : ImportMeets numbers area r out
  import_meets = record { demand_1 = demand_1_met (import_agrees numbers (length area)) by_rows; demand_2 = import_demand_2 }

-- Adding the same north and east to every vertex changes nothing: neither the struct nor a byte, refused or not.
pub import_moved : {north east : ℤ} (numbers moved : List ℤ) (area : List ℕ) {r r' : AnswerStruct} {out out' : List ℕ} → IsMoved north east numbers moved
    → IsImportExported numbers area r out → IsImportExported moved area r' out' → (r' ≡ r) × (out' ≡ out)
import_moved numbers moved area {r} {r'} {out} {out'} is e e' =
    import_unique numbers area r' r out' out
    (record {
      paper = e'.paper ∙ ap (λ (a : Answer ℕ). paper_in_struct one_count_in_struct (answer_paper 0 a)) (moved_answer is (length area));
      written = e'.written ∙ moved_area is area;
    })
    e

-- The same boundary, begun at another vertex or in opposite order, after an accepted import.
module _ (numbers other : List ℤ) (area area' : List ℕ) {r r' : AnswerStruct} {out out' : List ℕ} (e : IsImportExported numbers area r out) (zero_is : r.refusal ≡ 0)
    (e' : IsImportExported other area' r' out') (room : vertex_count other ≤ length area') where
  -- it is accepted, if there is room, as many numbers are given, and no two neighbours are equal
  also_accepted : length other ≡ length numbers → NoEqualPair other → r'.refusal ≡ 0
  also_accepted same no_pair' =
      let right : IsRightCount (length numbers) = ((import_none_iff numbers (length area)).0 (taken numbers area e zero_is).none_given).0 in
      (accepted_number_iff no_report_counts (one_count_in_struct (vertex_count other)) (first_given (import_rows other (length area'))) (by_rows other area' e').paper).1
      ((import_none_iff other (length area')).1 (subst IsRightCount (sym same) right, (no_pair', room)))

  -- After an accepted import, the same boundary begun at vertex s is accepted too, if there is room; its bytes are rotation s of the first bytes.
  pub import_begun : (s : ℕ) → IsBegunAt s numbers other → (r'.refusal ≡ 0) × (take r'.found out' ≡ rotated s (take r.found out))
  import_begun s is =
      let also = also_accepted is.length_is (begun_no_pair s is (no_pair numbers area e zero_is)) in
      (also, front_is other area' e' also ∙ begun_edges s is ∙ ap (rotated s) (sym (front_is numbers area e zero_is)))

  -- After an accepted import, the same boundary in opposite order is accepted too, if there is room; its bytes are rotation 1 of the reversed ring of the first bytes.
  pub import_opposite : IsOpposite numbers other → (r'.refusal ≡ 0) × (take r'.found out' ≡ rotated 1 (reversed_ring (take r.found out)))
  import_opposite is =
      let None = no_pair numbers area e zero_is in
      let also = also_accepted is.length_is (opposite_no_pair None is) in
      (also, front_is other area' e' also ∙ opposite_edges None is ∙ ap (λ (ring : List ℕ). rotated 1 (reversed_ring ring)) (sym (front_is numbers area e zero_is)))
