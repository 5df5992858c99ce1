-- Document 02, ticket 7: "Import a boundary from pairs of signed 32-bit whole numbers, north before east. .. The last vertex joins the first. Only edge bytes come
-- out, one per vertex". A boundary is a list of numbers, two for each vertex. `get_or` gives 0 past a list's end. A vertex is
-- the code's struct: how far north, how far east.
--
--   numbers_each           2 numbers a vertex
--   vertex_count           the number of vertices
--   vertex_at, following   vertex i; the vertex that follows a vertex
--   edge_between           the code of the edge from one vertex to another
--   boundary_edge          the code of edge i
--   boundary_edges         the codes of all edges, one per vertex
--   is_same_vertex         whether two vertices are equal
--   is_equal_pair          whether a vertex and the one that follows are "two equal neighbours"
--   first_equal_pair       the first vertex of the earliest such pair; the number of vertices if there is none
--   IsEqualPair, IsFirstEqualPair, NoEqualPair   the same as facts (joined by the laws of EqualPairs in proofs/)
--   HasVertices            a boundary whose vertices are those of another, in another order
--   IsBegunAt, IsOpposite, IsMoved    the same boundary from another vertex on, in opposite order, and moved as a whole
use Rattle.std.specs.Prelude.{ℕ, ◌+◌, ◌-◌, ◌*◌, ◌/◌, ◌%◌, ◌<◌, ◌≡◌, Bool, ◌&&◌, List, ℤ, pos, ◌+ℤ◌, ◌-ℤ◌, length, get_or}
use Rattle.std.specs.Ordering.{int_eq}
use Rattle.lists.specs.ByPlace.{list_of}
use Rattle.meaning.specs.Counting.{first_below}
use Rattle.vertices.specs.declared.boundary.Vertex.{Vertex}
use Rattle.vertices.specs.Steps.{step_code}

-- "pairs": two numbers a vertex.
abbrev pub numbers_each : ℕ
numbers_each = 2

-- The number of vertices. (Of an odd count of numbers the last is left out; such a list is refused by 15.)
abbrev pub vertex_count : List ℤ → ℕ
vertex_count numbers = length numbers / numbers_each

-- Vertex i, counted from 0: "north before east".
abbrev pub vertex_at : List ℤ → ℕ → Vertex
vertex_at numbers i = record { north = get_or numbers (numbers_each * i) (pos 0); east = get_or numbers (numbers_each * i + 1) (pos 0) }

-- "The last vertex joins the first": of `count` vertices, the one that follows vertex i.
abbrev pub following : ℕ → ℕ → ℕ
following count i = (i + 1) % count

-- The code of the edge from one vertex to another: "dn and de the steps north and east". Of two equal vertices it means nothing; such a boundary is refused by 16.
abbrev pub edge_between : Vertex → Vertex → ℕ
edge_between from to = step_code (to.north -ℤ from.north) (to.east -ℤ from.east)

-- The code of the boundary's edge i, from vertex i to the one that follows.
abbrev pub boundary_edge : List ℤ → ℕ → ℕ
boundary_edge numbers i = edge_between (vertex_at numbers i) (vertex_at numbers (following (vertex_count numbers) i))

-- "Only edge bytes come out, one per vertex": the edges of the boundary.
unfoldable pub boundary_edges : List ℤ → List ℕ
boundary_edges numbers = list_of (vertex_count numbers) (boundary_edge numbers)

-- Whether two vertices are equal.
abbrev pub is_same_vertex : Vertex → Vertex → Bool
is_same_vertex a b = int_eq a.north b.north && int_eq a.east b.east

-- "two equal neighbours": whether vertex i equals the one that follows. For the last vertex that is the first: "the closing pair".
unfoldable pub is_equal_pair : List ℤ → ℕ → Bool
is_equal_pair numbers i = is_same_vertex (vertex_at numbers i) (vertex_at numbers (following (vertex_count numbers) i))

-- "the first of the earliest pair, from 0 (the last vertex for the closing pair)"; the number of vertices if no two neighbours are equal.
unfoldable pub first_equal_pair : List ℤ → ℕ
first_equal_pair numbers = first_below (is_equal_pair numbers) (vertex_count numbers)

-- Vertex i and the one that follows are equal, as a fact.
pub record IsEqualPair (numbers : List ℤ) (i : ℕ) : Type 0 where
  pub same : vertex_at numbers i ≡ vertex_at numbers (following (vertex_count numbers) i)

-- "two equal neighbours, place the first of the earliest pair": the pair of this vertex is one, and no pair before it is.
pub record IsFirstEqualPair (numbers : List ℤ) (place : ℕ) : Type 0 where
  pub in_boundary : place < vertex_count numbers
  pub pair : IsEqualPair numbers place
  pub none_before : (i : ℕ) → i < place → IsEqualPair numbers i → ⊥

-- No two neighbours are equal.
pub record NoEqualPair (numbers : List ℤ) : Type 0 where
  pub none : (i : ℕ) → i < vertex_count numbers → IsEqualPair numbers i → ⊥

-- The second boundary has as many numbers as the first, and its vertex i is the first's vertex `of i`.
pub record HasVertices (of : ℕ → ℕ) (numbers other : List ℤ) : Type 0 where
  pub length_is : length other ≡ length numbers
  pub vertex_is : (i : ℕ) → i < vertex_count numbers → vertex_at other i ≡ vertex_at numbers (of i)

-- The same boundary, begun at vertex s.
abbrev pub IsBegunAt : ℕ → List ℤ → List ℤ → Type 0
IsBegunAt s numbers = HasVertices (λ i. (s + i) % vertex_count numbers) numbers

-- The same boundary, its vertices in opposite order.
abbrev pub IsOpposite : List ℤ → List ℤ → Type 0
IsOpposite numbers = HasVertices (λ i. vertex_count numbers - 1 - i) numbers

-- The same boundary, moved as a whole: `north` and `east` are added to each vertex.
pub record IsMoved (north east : ℤ) (numbers moved : List ℤ) : Type 0 where
  pub length_is : length moved ≡ length numbers
  pub north_is : (i : ℕ) → i < vertex_count numbers → (vertex_at moved i).north ≡ (vertex_at numbers i).north +ℤ north
  pub east_is : (i : ℕ) → i < vertex_count numbers → (vertex_at moved i).east ≡ (vertex_at numbers i).east +ℤ east
