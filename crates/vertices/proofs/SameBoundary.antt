-- The edges of the same boundary, given in another way. Moved as a whole it has the same edges, because differences stay (`moved_edges`). Begun at vertex s, its edges are
-- rotation s of the edges (`begun_edges`). In opposite order each edge is drawn the other way, so its edges are rotation 1 of the reversed ring (`opposite_edges`): edge i leads
-- from vertex c − 1 − i to c − 2 − i, and the edge drawn the other way stands at place i + 1 of the reversed ring. Begun elsewhere or in opposite order, a boundary without equal
-- neighbours has none either (`begun_no_pair`, `opposite_no_pair`).
use Prim.Native.Nat.{ℕ, ◌+◌, ◌-◌, ◌/◌, ◌%◌, ◌<◌}
use mathlib.Core.Path.{◌≡◌, sym, ap, ap₂, ◌∙◌}
use mathlib.Core.List.{List}
use mathlib.Core.Logic.{dite}
use native.Mathlib.Nat.{mod-lt, mod-eq_of_lt, mod-add-mod, add-mod-mod, mod_self, add_assoc}
use native.Mathlib.Decide.{dec_lt}
use native.Mathlib.Omega.{arith}
use lib.IntN.{ℤ, ◌-ℤ◌}
use lib.ListN.{length, get_or}
use Rattle.lists.specs.ByPlace.{list_of}
use Rattle.lists.proofs.ByPlace.{list_of_same}
use Rattle.reversal.specs.Reversing.{reversed_code, reversed_ring, rotated}
use Rattle.reversal.proofs.RingTwice.{reversed_length, reversed_at}
use Rattle.vertices.specs.Steps.{step_code}
use Rattle.vertices.specs.declared.boundary.Vertex.{Vertex}
use Rattle.vertices.specs.Boundary.{numbers_each, vertex_count, vertex_at, following, edge_between, boundary_edge, boundary_edges, IsEqualPair, NoEqualPair, HasVertices, IsBegunAt, IsOpposite, IsMoved}
use Rattle.vertices.proofs.WholeNumbers.{difference_opposite, difference_moved}
use Rattle.vertices.proofs.Codes.{code_back}
use Rattle.vertices.proofs.EqualPairs.{step_between}
use Rattle.vertices.proofs.BoundaryEdges.{edges_length, edges_at, following_lt}

-- Equal counts of numbers are equal counts of vertices.
pub count_is_lem : {given other : ℕ} → other ≡ given → other / numbers_each ≡ given / numbers_each
count_is_lem same = ap (λ (n : ℕ). n / numbers_each) same

-- Adding the same north and east to every vertex changes no edge.
module _ {north east : ℤ} {numbers moved : List ℤ} (is : IsMoved north east numbers moved) where
  -- Each edge stays.
  moved_edge : (i : ℕ) → i < vertex_count numbers → boundary_edge moved i ≡ boundary_edge numbers i
  moved_edge i l =
      let next : ℕ = following (vertex_count numbers) i in
      let next_lt : next < vertex_count numbers = following_lt numbers i l in
      ap (λ (c : ℕ). edge_between (vertex_at moved i) (vertex_at moved (following c i))) (count_is_lem is.length_is)
      ∙ ap₂ step_code
      (ap₂ (λ (a b : ℤ). a -ℤ b) (is.north_is next next_lt) (is.north_is i l) ∙ difference_moved (vertex_at numbers i).north (vertex_at numbers next).north north)
      (ap₂ (λ (a b : ℤ). a -ℤ b) (is.east_is next next_lt) (is.east_is i l) ∙ difference_moved (vertex_at numbers i).east (vertex_at numbers next).east east)

  -- A boundary that is moved as a whole keeps its edges.
  pub moved_edges : boundary_edges moved ≡ boundary_edges numbers
  unfolding boundary_edges
  moved_edges = ap (λ (c : ℕ). list_of c (boundary_edge moved)) (count_is_lem is.length_is) ∙ list_of_same (vertex_count numbers) moved_edge

-- A boundary with the vertices of another, its vertex i being the other's vertex `of i`.
module _ {of : ℕ → ℕ} {numbers other : List ℤ} (is : HasVertices of numbers other) where
  -- Its edge i leads from the other's vertex `of i` to `of` of the place that follows.
  edge_of : (i : ℕ) → i < vertex_count numbers
      → boundary_edge other i ≡ edge_between (vertex_at numbers (of i)) (vertex_at numbers (of (following (vertex_count numbers) i)))
  edge_of i l =
      ap (λ (c : ℕ). edge_between (vertex_at other i) (vertex_at other (following c i))) (count_is_lem is.length_is)
      ∙ ap₂ edge_between (is.vertex_is i l) (is.vertex_is (following (vertex_count numbers) i) (following_lt numbers i l))

  -- Where two of its neighbours are equal, so are the other's vertices there.
  pair_of : (i : ℕ) → i < vertex_count numbers → IsEqualPair other i → vertex_at numbers (of i) ≡ vertex_at numbers (of (following (vertex_count numbers) i))
  pair_of i l pair =
      sym (is.vertex_is i l) ∙ pair.same ∙ ap (λ (c : ℕ). vertex_at other (following c i)) (count_is_lem is.length_is)
      ∙ is.vertex_is (following (vertex_count numbers) i) (following_lt numbers i l)

  -- Its edges are a rotation of a ring with as many edges, if each is that rotation's.
  edges_rotated : (r : ℕ) (ring : List ℕ) → length ring ≡ vertex_count numbers
      → ((i : ℕ) → i < vertex_count numbers → boundary_edge other i ≡ get_or ring ((r + i) % vertex_count numbers) 0) → boundary_edges other ≡ rotated r ring
  unfolding boundary_edges rotated
  edges_rotated r ring size each =
      ap (λ (c : ℕ). list_of c (boundary_edge other)) (count_is_lem is.length_is ∙ sym size)
      ∙ list_of_same (length ring) (λ i l. each i (omega arith) ∙ ap (λ (c : ℕ). get_or ring ((r + i) % c) 0) (sym size))

-- After place (s + i) mod c comes place (s + (i + 1) mod c) mod c.
turned_following : (c s i : ℕ) → (s + (i + 1) % c) % c ≡ ((s + i) % c + 1) % c
turned_following c s i = add-mod-mod s (i + 1) c ∙ ap (λ (n : ℕ). n % c) (sym (add_assoc s i 1)) ∙ sym (mod-add-mod (s + i) c 1)

module _ (s : ℕ) {numbers other : List ℤ} (is : IsBegunAt s numbers other) where
  abbrev c : ℕ
  c = vertex_count numbers

  -- A boundary begun at vertex s has rotation s of the edges.
  pub begun_edges : boundary_edges other ≡ rotated s (boundary_edges numbers)
  begun_edges =
      edges_rotated is s (boundary_edges numbers) (edges_length numbers)
      (λ i l.
      edge_of is i l ∙ ap (λ (j : ℕ). edge_between (vertex_at numbers ((s + i) % c)) (vertex_at numbers j)) (turned_following c s i)
      ∙ sym (edges_at numbers ((s + i) % c) (mod-lt (s + i) (omega arith))))

  -- If no two neighbours of the boundary are equal, none of it begun at vertex s are.
  pub begun_no_pair : NoEqualPair numbers → NoEqualPair other
  begun_no_pair no_pair = record {
    none = λ i l pair.
        let in_numbers : i < c = omega (arith, count_is_lem is.length_is) in
        no_pair.none ((s + i) % c) (mod-lt (s + i) (omega arith))
        (record { same = pair_of is i in_numbers pair ∙ ap (λ (j : ℕ). vertex_at numbers j) (turned_following c s i) });
  }

-- The edge from b to a has the reversed code of the edge from a to b.
pub edge_back : (a b : Vertex) → (a ≡ b → ⊥) → edge_between b a ≡ reversed_code (edge_between a b)
edge_back a b differ =
    ap₂ step_code (difference_opposite a.north b.north) (difference_opposite a.east b.east) ∙ code_back _ _ (step_between a b differ)

-- Read from the other end, vertex i is vertex c − 1 − i. The one that follows i is then the one before it, from which the edge c − 1 − (i + 1) mod c leads to it.
opposite_following : (c i : ℕ) → i < c → following c (c - 1 - (i + 1) % c) ≡ c - 1 - i
opposite_following c i l =
    dite (dec_lt (i + 1) c)
    (λ within.
    let place : c - 1 - (i + 1) + 1 ≡ c - 1 - i = omega arith in
    ap (λ (n : ℕ). following c (c - 1 - n)) (mod-eq_of_lt within) ∙ ap (λ (n : ℕ). n % c) place ∙ mod-eq_of_lt (omega arith))
    (λ last.
    let whole : i + 1 ≡ c = omega (arith, last) in
    let place : c - 1 - 0 + 1 ≡ c = omega arith in
    ap (λ (n : ℕ). following c (c - 1 - n)) (ap (λ (n : ℕ). n % c) whole ∙ mod_self c) ∙ ap (λ (n : ℕ). n % c) place ∙ mod_self c ∙ omega arith)

module _ {numbers other : List ℤ} (no_pair : NoEqualPair numbers) (is : IsOpposite numbers other) where
  -- In opposite order the edges are rotation 1 of the reversed ring.
  pub opposite_edges : boundary_edges other ≡ rotated 1 (reversed_ring (boundary_edges numbers))
  opposite_edges =
      let c : ℕ = vertex_count numbers in
      let edges : List ℕ = boundary_edges numbers in
      edges_rotated is 1 (reversed_ring edges) (reversed_length edges ∙ edges_length numbers)
      (λ i l.
      let q : ℕ = (i + 1) % c in
      let q_lt : q < c = mod-lt (i + 1) (omega arith) in
      let p : ℕ = c - 1 - q in
      let to : Vertex = vertex_at numbers p in
      let from : Vertex = vertex_at numbers (following c p) in
      let around : (1 + i) % c ≡ q = ap (λ (n : ℕ). n % c) (omega arith) in
      edge_of is i l
      ∙ ap (λ (j : ℕ). edge_between (vertex_at numbers j) to) (sym (opposite_following c i l))
      ∙ edge_back to from (λ same. no_pair.none p (omega arith) (record { same = same }))
      ∙ ap reversed_code (sym (edges_at numbers p (omega arith)))
      ∙ ap (λ (n : ℕ). reversed_code (get_or edges (n - 1 - q) 0)) (sym (edges_length numbers))
      ∙ sym (reversed_at edges q (omega (arith, edges_length numbers)))
      ∙ ap (λ (n : ℕ). get_or (reversed_ring edges) n 0) (sym around))

  -- In opposite order no two neighbours are equal either.
  pub opposite_no_pair : NoEqualPair other
  opposite_no_pair = record {
    none = λ i l pair.
        let c : ℕ = vertex_count numbers in
        let in_numbers : i < c = omega (arith, count_is_lem is.length_is) in
        let p : ℕ = c - 1 - (i + 1) % c in
        no_pair.none p (omega arith)
        (record { same = sym (pair_of is i in_numbers pair) ∙ ap (λ (j : ℕ). vertex_at numbers j) (sym (opposite_following c i in_numbers)) });
  }
