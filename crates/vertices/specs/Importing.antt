-- Document 02, ticket 7: the refusals and the contract of `import_vertices`. "Refusals: 15, an odd count of numbers, or fewer than 3 or more than 4,096 vertices, place
-- 0; 16, two equal neighbours, place the first of the earliest pair, from 0 (the last vertex for the closing pair); 10 for room; in that order."
--
--   fewest_vertices, most_vertices   3 and 4,096
--   is_row15, row16                  the test whether row 15 is given; row 16
--   import_rows                      the rows in their order: 15, 16, 10
--   import_answer                    the answer that the call must give: the number of edges, or a refusal
--   imported_area                    the lent bytes at exit
--   paper_of                         document 01's number, place and count for what is returned
--   IsImported                       the contract of `import_vertices`
use Rattle.std.specs.Prelude.{ℕ, ◌/◌, ◌%◌, ◌≡◌, Bool, ◌||◌, List, [], ◌∷◌, ltb, eqb, ℤ, length, Option, Result}
use Rattle.lists.specs.Areas.{written}
use Rattle.answers.specs.declared.refusals.Refusal.{Refusal}
use Rattle.answers.specs.declared.refusals.Refusal.TheVariants.{OutputRoom, VertexCount, EqualNeighbours}
use Rattle.answers.specs.Paper.{Answer, Paper, answer_paper, answer_from}
use Rattle.answers.specs.Rows.{row, first_given, answer_by, area_by}
use Rattle.vertices.specs.Boundary.{numbers_each, vertex_count, boundary_edges, first_equal_pair}

-- "fewer than 3 .. vertices".
abbrev pub fewest_vertices : ℕ
fewest_vertices = 3

-- "more than 4,096 vertices".
abbrev pub most_vertices : ℕ
most_vertices = 4096

-- Row 15, for this many numbers: "an odd count of numbers, or fewer than 3 or more than 4,096 vertices".
abbrev pub is_row15 : ℕ → Bool
is_row15 given = eqb (given % numbers_each) 1 || (ltb (given / numbers_each) fewest_vertices || ltb most_vertices (given / numbers_each))

-- Row 16: "two equal neighbours, place the first of the earliest pair".
abbrev pub row16 : List ℤ → Option Refusal
row16 numbers = row (ltb (first_equal_pair numbers) (vertex_count numbers)) (EqualNeighbours (first_equal_pair numbers))

-- The rows for the numbers and the number of bytes lent, each with its refusal if it is given: 15, 16, and 10 if the call "lacks room for its whole output" (document
-- 01), a byte per vertex.
unfoldable pub import_rows : List ℤ → ℕ → List (Option Refusal)
import_rows numbers room = row (is_row15 (length numbers)) VertexCount ∷ row16 numbers ∷ row (ltb room (vertex_count numbers)) OutputRoom ∷ []

-- The answer with `room` bytes lent: the refusal of the first row that is given, else the number of edges.
unfoldable pub import_answer : List ℤ → ℕ → Answer ℕ
import_answer numbers room = answer_by (first_given (import_rows numbers room)) (vertex_count numbers)

-- The lent bytes after the call: the edges of the boundary, then the rest as it was. If the call is refused, all as it was.
unfoldable pub imported_area : List ℤ → List ℕ → List ℕ
imported_area numbers area = area_by (first_given (import_rows numbers (length area))) (written (boundary_edges numbers) area) area

-- Document 01's number, place and count for what is returned: the number of edges, or a refusal.
abbrev pub paper_of : Result ℕ Refusal → Paper ℕ
paper_of r = answer_paper 0 (answer_from (λ edges. edges) r)

-- The contract of `import_vertices`. It fixes number, place and count of the answer r and the bytes at exit `out`, on every input, accepted or refused.
pub record IsImported (numbers : List ℤ) (area : List ℕ) (r : Result ℕ Refusal) (out : List ℕ) : Type 0 where
  pub paper : paper_of r ≡ answer_paper 0 (import_answer numbers (length area))
  pub written : out ≡ imported_area numbers area
