-- Document 02, ticket 7: the table of refusals as it reads for `import_vertices`, each row's condition, number and place written out, in the order 15, 16, 10. The
-- contract uses `import_rows` of specs/Importing.antt. This is the same table in plain comparisons, and proofs/RowsOfImport.antt proves it for every answer that meets
-- the contract. The number is one of 0, 10, 15 and 16, so exactly one of the four conditions holds.
--
--   HasWrongCount   row 15 is given
--   IsRightCount    row 15 is not given
--   ImportRows      the table, for an answer's paper and the bytes at exit
use Rattle.std.specs.Prelude.{ℕ, ◌/◌, ◌%◌, ◌≤◌, ◌<◌, ◌≡◌, ◌↔◌, ◌⊎◌, List, ℤ, length}
use Rattle.answers.specs.Paper.{Paper}
use Rattle.vertices.specs.Boundary.{IsFirstEqualPair, NoEqualPair}

-- "an odd count of numbers, or fewer than 3 or more than 4,096 vertices": for this many numbers, row 15 is given.
abbrev pub HasWrongCount : ℕ → Type 0
HasWrongCount given = (given % 2 ≡ 1) ⊎ ((given / 2 < 3) ⊎ (4096 < given / 2))

-- An even count of numbers, and 3 to 4,096 vertices: for this many numbers, row 15 is not given.
pub record IsRightCount (given : ℕ) : Type 0 where
  pub even : given % 2 ≡ 0
  pub fewest : 3 ≤ given / 2
  pub most : given / 2 ≤ 4096

-- The table for an import of these numbers into the lent bytes `area`. p is the paper of its answer, `out` are the bytes at exit.
pub record ImportRows (numbers : List ℤ) (area : List ℕ) (p : Paper ℕ) (out : List ℕ) : Type 0 where
  -- "an odd count of numbers, or fewer than 3 or more than 4,096 vertices"
  pub row_15 : (p.number ≡ 15) ↔ HasWrongCount (length numbers)
  -- "two equal neighbours, place the first of the earliest pair", row 15 not given
  pub row_16 : (at : ℕ) → ((p.number ≡ 16) × (p.place ≡ at)) ↔ (IsRightCount (length numbers) × IsFirstEqualPair numbers at)
  -- fewer bytes are lent than there are vertices, rows 15 and 16 not given
  pub row_10 : (p.number ≡ 10) ↔ (IsRightCount (length numbers) × (NoEqualPair numbers × (length area < length numbers / 2)))
  -- Accepted exactly when none of these rows is given.
  pub accepted : (p.number ≡ 0) ↔ (IsRightCount (length numbers) × (NoEqualPair numbers × (length numbers / 2 ≤ length area)))
  -- No other number is given.
  pub number_is_one_of : (p.number ≡ 0) ⊎ ((p.number ≡ 10) ⊎ ((p.number ≡ 15) ⊎ (p.number ≡ 16)))
  -- Every other row has place 0, and so has an accepted answer.
  pub place_is : (p.number ≡ 16 → ⊥) → p.place ≡ 0
  -- A refusal carries "zero in every count".
  pub no_edges : 0 < p.number → p.counts ≡ 0
  -- A refusal "writes nothing to any lent area".
  pub untouched : 0 < p.number → out ≡ area
