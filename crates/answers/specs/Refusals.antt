-- Document 01, "What each call returns": the table of refusals, rows 1 to 11, and of document 02 row 12 (ticket 2), row 14 (ticket 6) and rows 15 and 16
-- (ticket 7). This file gives the number and the place of each refusal. Each call defines when its rows are given.
--
--   number_of            the column "No."
--   place_of             the column "Place"
--   number_of_row        the number of a row, if the rows are counted from 1
--   IsNumber, IsPlace    the contracts of `Refusal::number` and `Refusal::place`
--
-- A refusal whose place is always 0 holds no place. All 15 rows built so far are here, 1 to 12 and 14 to 16, and no
-- other. Row 13 comes with ticket 9.
use Rattle.std.specs.Prelude.{ℕ, ◌+◌, ◌≡◌, cond, ltb}
use Rattle.answers.specs.declared.refusals.Refusal.{Refusal}
use Rattle.answers.specs.declared.refusals.Refusal.TheVariants.{Ring, Allowance, Line, FindingsRoom, BookLength, Field, NotAbove, WordCount, NumberInRecord, OutputRoom, Input, RingMark, RingCode, VertexCount, EqualNeighbours}

-- The number of a refusal. Above each case stands the table's sentence for that row.
abbrev pub number_of : Refusal → ℕ
-- "m = 0 or m > 256"
number_of Ring = 1
-- "k ≥ m"
number_of Allowance = 2
-- "n > 65,536"
number_of Line = 3
-- "n ≥ m and fewer than" 4·(n − m + 1) "words are lent for findings"; document 01 has 3·(n − m + 1), and document 02, ticket 1, makes it 4. On a closed line
-- fewer than 4·n (ticket 3); for the two-way scan, "room for both passes, 8·(n − m + 1) words" (ticket 6).
number_of FindingsRoom = 4
-- "book longer than 13,000 bytes"; "5 at 15,000 bytes" (document 02, ticket 4)
number_of BookLength = 5
-- "a field isn't 13 bytes beginning 21 00 0A hex, or is cut off"; "6 admits both fields" (document 02, ticket 4)
number_of (Field place) = 6
-- "a record isn't above the one before it"
number_of (NotAbove place) = 7
-- "words to pack aren't a multiple of 3, or exceed 3,000"; "8 a multiple of 4, at most 4,000" (document 02, ticket 4)
number_of WordCount = 8
-- "a ring number to pack is above 65,535"; "9 also for a ceiling above 65,535" (document 02, ticket 4)
number_of (NumberInRecord place) = 9
-- "packing or unpacking lacks room for its whole output"; on a closed line, "when the join area is below 2·m − 2 bytes and n ≥ m" (document 02, ticket 3); importing
-- vertices, "10 for room" (ticket 7)
number_of OutputRoom = 10
-- "the program's input isn't as laid down below"
number_of (Input place) = 11
-- "a ring holding 255" (document 02, ticket 2)
number_of RingMark = 12
-- "a ring code above 247" (document 02, ticket 6)
number_of (RingCode place) = 14
-- "an odd count of numbers, or fewer than 3 or more than 4,096 vertices" (document 02, ticket 7)
number_of VertexCount = 15
-- "two equal neighbours" (document 02, ticket 7)
number_of (EqualNeighbours place) = 16

-- The place of a refusal. Above each case stand the row's number and the table's words; for row 11 the words of "The report program".
abbrev pub place_of : Refusal → ℕ
-- 1: "0"
place_of Ring = 0
-- 2: "0"
place_of Allowance = 0
-- 3: "0"
place_of Line = 0
-- 4: "0"
place_of FindingsRoom = 0
-- 5: "0"
place_of BookLength = 0
-- 6: "its byte offset"
place_of (Field place) = place
-- 7: "byte offset (reading) or record number from 0 (packing)"
place_of (NotAbove place) = place
-- 8: "0"
place_of WordCount = 0
-- 9: "record number"
place_of (NumberInRecord place) = place
-- 10: "0"
place_of OutputRoom = 0
-- 11: "the offset where the first such field begins or should begin", or 0
place_of (Input place) = place
-- 12: "place 0" (document 02, ticket 2)
place_of RingMark = 0
-- 14: "place the first such ring place" (document 02, ticket 6)
place_of (RingCode place) = place
-- 15: "place 0" (document 02, ticket 7)
place_of VertexCount = 0
-- 16: "place the first of the earliest pair, from 0 (the last vertex for the closing pair)" (document 02, ticket 7)
place_of (EqualNeighbours place) = place

-- The number of a row, if the rows are counted from 1. No row has number 13 yet, so the 13th row has number 14, and
-- so on.
abbrev pub number_of_row : ℕ → ℕ
number_of_row row = cond (ltb row 13) row (row + 1)

-- The contract of `Refusal::number`, which returns r.
pub record IsNumber (refusal : Refusal) (r : ℕ) : Type 0 where
  pub is : r ≡ number_of refusal

-- The contract of `Refusal::place`, which returns r.
pub record IsPlace (refusal : Refusal) (r : ℕ) : Type 0 where
  pub is : r ≡ place_of refusal
