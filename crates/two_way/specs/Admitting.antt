-- Document 02, ticket 6: the refusals of the two-way scan. "14, a ring code above 247, place the first such ring place, after 2 and in this scan only; 4 asks room
-- for both passes, 8·(n − m + 1) words." Rows 1, 12, 2 and 3 are those of every search. (255 is above 247 too, but row 12 comes first, so row 14 shows for 248 to
-- 254.) The line's codes are not tested: there 248 to 254 are no fault, and 255 is a mark.
--
--   passes, two_way_room     two passes; the words that row 4 requires
--   is_no_edge               whether a ring place has no edge code
--   first_no_edge            the first ring place that has none; the ring's length if there is none
--   first_place              the same place, if there is one
--   row14, is_two_way_row4   row 14; the test whether row 4 is given
--   two_way_rows             the rows in their order: 1, 12, 2, 14, 3, 4
--   IsFirstNoEdge            this place is the first that has no edge code: "place the first such ring place"
--   AllEdges                 row 14 is not given
--   TwoWayAdmitted           none of these rows is given
--   SaysFirstNoEdge          the contract of the private `first_no_edge`
use Rattle.std.specs.Prelude.{ℕ, ◌+◌, ◌-◌, ◌*◌, ◌≤◌, ◌<◌, ◌≡◌, Bool, cond, not, ◌&&◌, List, [], ◌∷◌, ◌++◌, ltb, leb, length, get_or}
use Rattle.std.specs.Prelude.{Option, None, Some}
use Rattle.meaning.specs.Counting.{first_below}
use Rattle.meaning.specs.Meanings.{HoldsMark}
use Rattle.meaning.specs.Findings.{words_each}
use Rattle.meaning.specs.EdgeCodes.{edge_codes, is_edge}
use Rattle.answers.specs.declared.refusals.Refusal.{Refusal}
use Rattle.answers.specs.declared.refusals.Refusal.TheVariants.{Line, FindingsRoom, RingCode}
use Rattle.answers.specs.Rows.{row}
use Rattle.findings.specs.Admitting.{most_ring, most_line, is_row3, ring_rows}

-- "forward findings, then backward ones": two passes.
abbrev pub passes : ℕ
passes = 2

-- "4 asks room for both passes, 8·(n − m + 1) words."
abbrev pub two_way_room : ℕ → ℕ → ℕ
two_way_room m n = passes * words_each * (n - m + 1)

-- "a ring code above 247": whether place q of the ring has no edge code.
abbrev pub is_no_edge : List ℕ → ℕ → Bool
is_no_edge ring q = not (is_edge (get_or ring q 0))

-- The first place of the ring that has no edge code; the ring's length if every place has one.
unfoldable pub first_no_edge : List ℕ → ℕ
first_no_edge ring = first_below (is_no_edge ring) (length ring)

-- Row 14: "a ring code above 247, place the first such ring place".
abbrev pub row14 : List ℕ → Option Refusal
row14 ring = row (ltb (first_no_edge ring) (length ring)) (RingCode (first_no_edge ring))

-- Row 4 of this scan: "n ≥ m and fewer than" 8·(n − m + 1) "words are lent for findings".
abbrev pub is_two_way_row4 : ℕ → ℕ → ℕ → Bool
is_two_way_row4 m n room = leb m n && ltb room (two_way_room m n)

-- The rows for the ring, k, n and the number of words lent for findings, each with its refusal if it is given: 1, 12 and 2 as for every search, 14 "after 2", 3
-- and 4.
unfoldable pub two_way_rows : List ℕ → ℕ → ℕ → ℕ → List (Option Refusal)
two_way_rows ring k n room =
    ring_rows ring k ++ row14 ring ∷ row (is_row3 n) Line ∷ row (is_two_way_row4 (length ring) n room) FindingsRoom ∷ []

-- "the first such ring place": this place has a code above 247, and no place before it has.
pub record IsFirstNoEdge (ring : List ℕ) (place : ℕ) : Type 0 where
  pub in_ring : place < length ring
  pub no_edge : edge_codes ≤ get_or ring place 0
  pub edges_before : (q : ℕ) → q < place → get_or ring q 0 < edge_codes

-- Every code of the ring is an edge code: row 14 is not given.
pub record AllEdges (ring : List ℕ) : Type 0 where
  pub each : (q : ℕ) → q < length ring → get_or ring q 0 < edge_codes

-- None of these rows is given: the document's limits hold, the ring holds no mark and edge codes only, and there is room for the findings of both passes.
pub record TwoWayAdmitted (ring : List ℕ) (k n room : ℕ) : Type 0 where
  pub some_edge : 0 < length ring
  pub most_ring : length ring ≤ most_ring
  pub no_mark : HoldsMark ring → ⊥
  pub allowed : k < length ring
  pub all_edges : AllEdges ring
  pub most_line : n ≤ most_line
  pub room_for : length ring ≤ n → two_way_room (length ring) n ≤ room

-- The first place of the ring that has no edge code, if one has none.
abbrev pub first_place : List ℕ → Option ℕ
first_place ring = cond (ltb (first_no_edge ring) (length ring)) (Some (first_no_edge ring)) None

-- The contract of `first_no_edge`, which returns r.
pub record SaysFirstNoEdge (ring : List ℕ) (r : Option ℕ) : Type 0 where
  pub is : r ≡ first_place ring
