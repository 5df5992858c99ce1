-- Document 01's table and rows 12, 14, 15 and 16 of document 02 once more, as rows of name, number and place, and a test that the definitions give each row.
-- antt computes it, so a wrong number or place in the definitions is refused here. Rows 6, 7, 9, 11, 14 and 16 have six different places, so that no two can be
-- confused.
use Prim.Native.Nat.{ℕ}
use mathlib.Core.Path.{◌≡◌, refl}
use mathlib.Core.Bool.{Bool, true, ◌&&◌}
use mathlib.Core.List.{List, [], ◌∷◌}
use lib.Dec.{eqb}
use Rattle.answers.specs.declared.refusals.Refusal.{Refusal}
use Rattle.answers.specs.declared.refusals.Refusal.TheVariants.{Ring, Allowance, Line, FindingsRoom, BookLength, Field, NotAbove, WordCount, NumberInRecord, OutputRoom, Input, RingMark, RingCode, VertexCount, EqualNeighbours}
use Rattle.answers.specs.Refusals.{number_of, place_of}

-- A row: the refusal's name, its number, its place.
data TableRow : Type 0 where
  table_row : Refusal → ℕ → ℕ → TableRow

-- Whether the definitions give this row.
unfoldable right : TableRow → Bool
right (table_row refusal number place) = eqb (number_of refusal) number && eqb (place_of refusal) place

-- Whether the definitions give each of these rows.
unfoldable all_right : List TableRow → Bool
all_right [] = true
all_right (r ∷ rs) = right r && all_right rs

-- The documents' table.
unfoldable table : List TableRow
table =
    table_row Ring 1 0
    ∷ table_row Allowance 2 0
    ∷ table_row Line 3 0
    ∷ table_row FindingsRoom 4 0
    ∷ table_row BookLength 5 0
    ∷ table_row (Field 13) 6 13
    ∷ table_row (NotAbove 26) 7 26
    ∷ table_row WordCount 8 0
    ∷ table_row (NumberInRecord 999) 9 999
    ∷ table_row OutputRoom 10 0
    ∷ table_row (Input 27) 11 27
    ∷ table_row RingMark 12 0
    ∷ table_row (RingCode 3) 14 3
    ∷ table_row VertexCount 15 0
    ∷ table_row (EqualNeighbours 4095) 16 4095
    ∷ []

-- The definitions give every row of the table.
rows_right : all_right table ≡ true
unfolding table all_right right
rows_right = refl
