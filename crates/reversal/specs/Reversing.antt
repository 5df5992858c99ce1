-- Document 02, ticket 6: "Outlines digitised the other way round." The codes and rings of an outline that is walked the other way, and the contracts of
-- `reversed_code`, `reverse` and `reversed`. (The two-way scan, which searches for a ring and for its reversed ring, is not defined here.)
-- Every definition gives a value for all numbers and lists. `get_or` gives 0 past a list's end.
--
--   half_turn        4 octants
--   reversed_code    the code of an edge walked the other way
--   reversed_ring    the ring of an outline walked the other way
--   most_reversed    256: the array that `reverse` fills and `reversed` returns has room for the longest ring
--   rotated          rotation r of a ring, as a list
--   IsReversedCode   the contract of `reversed_code`
--   IsReversed       the contract of `reverse` and `reversed`
use Rattle.std.specs.Prelude.{ℕ, ◌+◌, ◌-◌, ◌%◌, ◌≡◌, cond, List, length, get_or}
use Rattle.lists.specs.ByPlace.{list_of}
use Rattle.meaning.specs.Meanings.{rotation_edge}
use Rattle.meaning.specs.EdgeCodes.{octants, edge_code, length_class, octant_of, is_edge}

-- "each octant turns by 4 modulo 8": by how much.
abbrev pub half_turn : ℕ
half_turn = 4

-- "each octant turns by 4 modulo 8, length class kept; codes 248 to 255 map to themselves."
unfoldable pub reversed_code : ℕ → ℕ
reversed_code code = cond (is_edge code) (edge_code (length_class code) ((octant_of code + half_turn) % octants)) code

-- "Reversed, the edges come in opposite order": at place q stands the reversed code of the edge at place m − 1 − q.
unfoldable pub reversed_ring : List ℕ → List ℕ
reversed_ring ring = list_of (length ring) (λ q. reversed_code (get_or ring (length ring - 1 - q) 0))

-- "Rotation r of the ring, 0 ≤ r < m, has at its place q the ring's edge (r + q) mod m" (document 01): its m edges as a list.
unfoldable pub rotated : ℕ → List ℕ → List ℕ
rotated r ring = list_of (length ring) (rotation_edge ring r)

-- The places of the array that `reverse` fills and `reversed` returns. "Ring: m edges, 1 to 256" (document 01): as many as the longest ring has edges.
abbrev pub most_reversed : ℕ
most_reversed = 256

-- "The drawing office keeps this as a table of 256 codes": the contract of `reversed_code`, for every byte.
pub record IsReversedCode (code r : ℕ) : Type 0 where
  pub is : r ≡ reversed_code code

-- "Reversed, the edges come in opposite order": the contract of `reverse` and of `reversed`, for every ring; r is the array. The first m of its
-- 256 places have the reversed ring, and the others 0. Of a ring with more than 256 edges they have the first 256 edges of the reversed ring.
pub record IsReversed (ring r : List ℕ) : Type 0 where
  pub is : r ≡ list_of most_reversed (λ q. get_or (reversed_ring ring) q 0)
