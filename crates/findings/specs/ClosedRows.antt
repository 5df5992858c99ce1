-- Document 02, ticket 3: the refusals of survey and scan on a closed line. "findings room is 4·n words", because every place of the line can be a start; "in
-- this mode 4 uses that figure, and 10, after 4, is given when the join area is below 2·m − 2 bytes and n ≥ m". Rows 1, 12, 2 and 3 are those of every
-- search. Row 3 tests n alone: the line followed by its first m − 1 edges may be longer than 65,536.
--
--   closed_room                 the words that row 4 requires in this mode
--   join_bytes                  the bytes that row 10 requires
--   is_closed_row4, is_row10    the tests: whether each row is given
--   closed_rows                 the rows in their order: 1, 12, 2, 3, 4, 10
--   ClosedAdmitted              none of these rows is given
use Rattle.std.specs.Prelude.{ℕ, ◌-◌, ◌*◌, ◌≤◌, ◌<◌, Bool, ◌&&◌, List, [], ◌∷◌, ◌++◌, ltb, leb, length}
use Rattle.std.specs.Prelude.{Option}
use Rattle.meaning.specs.Meanings.{HoldsMark}
use Rattle.meaning.specs.Findings.{words_each}
use Rattle.answers.specs.declared.refusals.Refusal.{Refusal}
use Rattle.answers.specs.declared.refusals.Refusal.TheVariants.{FindingsRoom, OutputRoom}
use Rattle.answers.specs.Rows.{row}
use Rattle.findings.specs.Admitting.{most_ring, most_line, limit_rows}

-- "findings room is 4·n words"
abbrev pub closed_room : ℕ → ℕ
closed_room n = words_each * n

-- "2·m − 2 bytes": none for m = 1.
abbrev pub join_bytes : ℕ → ℕ
join_bytes m = 2 * m - 2

-- Row 4 in this mode: "n ≥ m and fewer than" 4·n "words are lent for findings".
abbrev pub is_closed_row4 : ℕ → ℕ → ℕ → Bool
is_closed_row4 m n room = leb m n && ltb room (closed_room n)

-- Row 10 in this mode: "when the join area is below 2·m − 2 bytes and n ≥ m". `joins` is the number of bytes lent for the join.
abbrev pub is_row10 : ℕ → ℕ → ℕ → Bool
is_row10 m n joins = leb m n && ltb joins (join_bytes m)

-- The rows for the ring, k, n, the number of words lent for findings and of bytes lent for the join, each with its refusal if it is given: 1, 12, 2 and 3 as
-- for every search, 4, and 10 "after 4".
unfoldable pub closed_rows : List ℕ → ℕ → ℕ → ℕ → ℕ → List (Option Refusal)
closed_rows ring k n room joins =
    limit_rows ring k n ++ row (is_closed_row4 (length ring) n room) FindingsRoom ∷ row (is_row10 (length ring) n joins) OutputRoom ∷ []

-- None of these rows is given: the document's limits hold, the ring holds no mark, and there is room for the findings and for the join.
pub record ClosedAdmitted (ring : List ℕ) (k n room joins : ℕ) : Type 0 where
  pub some_edge : 0 < length ring
  pub most_ring : length ring ≤ most_ring
  pub no_mark : HoldsMark ring → ⊥
  pub allowed : k < length ring
  pub most_line : n ≤ most_line
  pub room_for : length ring ≤ n → closed_room n ≤ room
  pub join_for : length ring ≤ n → join_bytes (length ring) ≤ joins
