-- A boundary that is moved as a whole has the same answer. Two neighbours are equal exactly where they were, so the first of the earliest pair is the same vertex; the count of
-- numbers and the edges are the same. So each row is given as before, with the same place, and the same bytes are written.
use Prim.Native.Nat.{ℕ, ◌/◌, ◌<◌}
use mathlib.Core.Path.{◌≡◌, sym, ap, ◌∙◌}
use mathlib.Core.List.{List, [], ◌∷◌}
use lib.Dec.{ltb}
use lib.IntN.{ℤ, ◌+ℤ◌, ◌-ℤ◌, +ℤ-neg_ℤ_cancel}
use lib.ListN.{length}
use Rattle.lists.specs.Areas.{written}
use Rattle.lists.proofs.SizesTested.{test_same}
use Rattle.meaning.specs.Counting.{first_below}
use Rattle.meaning.proofs.First.{first_same}
use Rattle.answers.specs.declared.refusals.Refusal.TheVariants.{OutputRoom, VertexCount, EqualNeighbours}
use Rattle.answers.specs.Rows.{row, first_given, answer_by, area_by}
use Rattle.vertices.specs.declared.boundary.Vertex.{Vertex}
use Rattle.vertices.specs.Boundary.{vertex_count, vertex_at, following, is_equal_pair, first_equal_pair, IsEqualPair, IsMoved}
use Rattle.vertices.specs.Importing.{is_row15, import_rows, import_answer, imported_area}
use Rattle.vertices.proofs.EqualPairs.{vertex_by, equal_pair_iff}
use Rattle.vertices.proofs.BoundaryEdges.{following_lt}
use Rattle.vertices.proofs.SameBoundary.{count_is_lem, moved_edges}

-- Two numbers are equal if they are with the same number added to both.
moved_equal : (a b t : ℤ) → a +ℤ t ≡ b +ℤ t → a ≡ b
moved_equal a b t e = sym (+ℤ-neg_ℤ_cancel a t) ∙ ap (λ (z : ℤ). z -ℤ t) e ∙ +ℤ-neg_ℤ_cancel b t

module _ {north east : ℤ} {numbers moved : List ℤ} (is : IsMoved north east numbers moved) where
  -- the vertex that follows is the same
  next_is : (i : ℕ) → vertex_at moved (following (vertex_count moved) i) ≡ vertex_at moved (following (vertex_count numbers) i)
  next_is i = ap (λ (c : ℕ). vertex_at moved (following c i)) (count_is_lem is.length_is)

  module _ (i : ℕ) (l : i < vertex_count numbers) where
    abbrev next : ℕ
    next = following (vertex_count numbers) i

    next_lt : next < vertex_count numbers
    next_lt = following_lt numbers i l

    -- Neighbours that are equal once moved were equal before.
    pair_before : IsEqualPair moved i → IsEqualPair numbers i
    pair_before pair =
        let same : vertex_at moved i ≡ vertex_at moved next = pair.same ∙ next_is i in
        record {
          same = vertex_by
              (moved_equal _ _ north (sym (is.north_is i l) ∙ ap (λ (v : Vertex). v.north) same ∙ is.north_is next next_lt))
              (moved_equal _ _ east (sym (is.east_is i l) ∙ ap (λ (v : Vertex). v.east) same ∙ is.east_is next next_lt));
        }

    -- Equal neighbours stay equal.
    pair_after : IsEqualPair numbers i → IsEqualPair moved i
    pair_after pair = record {
      same = vertex_by
          (is.north_is i l ∙ ap (λ (v : Vertex). v.north +ℤ north) pair.same ∙ sym (is.north_is next next_lt))
          (is.east_is i l ∙ ap (λ (v : Vertex). v.east +ℤ east) pair.same ∙ sym (is.east_is next next_lt))
          ∙ sym (next_is i);
    }

  -- The first of the earliest pair is the same vertex.
  moved_first : first_equal_pair moved ≡ first_equal_pair numbers
  unfolding first_equal_pair
  moved_first =
      ap (first_below (is_equal_pair moved)) (count_is_lem is.length_is)
      ∙ first_same (λ i l. test_same (equal_pair_iff moved i) (equal_pair_iff numbers i) (pair_before i l, pair_after i l))

  -- Each row is given as before.
  moved_rows : (room : ℕ) → import_rows moved room ≡ import_rows numbers room
  unfolding import_rows
  moved_rows room =
      λ j. row (is_row15 (is.length_is j)) VertexCount
      ∷ (row (ltb (moved_first j) (is.length_is j / 2)) (EqualNeighbours (moved_first j)) ∷ (row (ltb room (is.length_is j / 2)) OutputRoom ∷ []))

  -- The answer is the same, refused or not.
  pub moved_answer : (room : ℕ) → import_answer moved room ≡ import_answer numbers room
  unfolding import_answer
  moved_answer room = λ j. answer_by (first_given (moved_rows room j)) (is.length_is j / 2)

  -- And so are the lent bytes at exit.
  pub moved_area : (area : List ℕ) → imported_area moved area ≡ imported_area numbers area
  unfolding imported_area
  moved_area area = λ j. area_by (first_given (moved_rows (length area) j)) (written (moved_edges is j) area) area
