-- Document 01, "What each call returns", rows 1 to 4 of the table: the refusals that lengths, k and room decide. Row 4 asks for four words for each
-- of the n − m + 1 windows, marked or not (document 02, ticket 1). And row 12 of ticket 2, which the ring's edges decide. Rows 1, 12, 2 and 3 are those
-- of every search; row 4 is that of survey, scan and report on an open line (specs/ClosedRows.antt has that of a closed line, crates/two_way that of the
-- two-way scan).
--
--   most_ring, most_line    the document's limits
--   room_required           the words that row 4 requires
--   is_row1 to is_row4,     the tests: whether each row is given
--   is_row12
--   ring_rows               rows 1, 12, 2, with which every search begins
--   limit_rows              rows 1, 12, 2, 3
--   admit_rows              the rows of survey and scan in their order: 1, 12, 2, 3, 4
--   IsRingLength            row 1 is not given
--   Admitted                none of these rows is given
--   verdict_of              the refusal that a returned verdict holds, if it holds one
--   IsVerdict               the contract of `admit_ring`, `admit` and `admit_closed`, for the rows that they test
use Rattle.std.specs.Prelude.{ℕ, ◌+◌, ◌-◌, ◌*◌, ◌≤◌, ◌<◌, ◌≡◌, Bool, ◌&&◌, ◌||◌, List, [], ◌∷◌, ◌++◌, ltb, leb, eqb, length}
use Rattle.std.specs.Prelude.{Option, None, Some}
use Rattle.std.specs.Prelude.{Result, Ok, Err}
use Rattle.meaning.specs.Meanings.{HoldsMark, holds_mark}
use Rattle.meaning.specs.Findings.{words_each}
use Rattle.answers.specs.declared.refusals.Refusal.{Refusal}
use Rattle.answers.specs.declared.refusals.Refusal.TheVariants.{Ring, Allowance, Line, FindingsRoom, RingMark}
use Rattle.answers.specs.Rows.{row, first_given}

-- "Ring: m edges, 1 to 256."
abbrev pub most_ring : ℕ
most_ring = 256

-- "Line: n edges, 0 to 65,536."
abbrev pub most_line : ℕ
most_line = 65536

-- "4·(n − m + 1) words" (document 02, ticket 1): room for as many findings as there are windows (for n ≥ m).
abbrev pub room_required : ℕ → ℕ → ℕ
room_required m n = words_each * (n - m + 1)

-- Row 1: "m = 0 or m > 256".
abbrev pub is_row1 : ℕ → Bool
is_row1 m = eqb m 0 || ltb most_ring m

-- Row 12: "a ring holding 255" (document 02, ticket 2).
abbrev pub is_row12 : List ℕ → Bool
is_row12 ring = holds_mark ring

-- Row 2: "k ≥ m".
abbrev pub is_row2 : ℕ → ℕ → Bool
is_row2 m k = leb m k

-- Row 3: "n > 65,536".
abbrev pub is_row3 : ℕ → Bool
is_row3 n = ltb most_line n

-- Row 4: "n ≥ m and fewer than" 4·(n − m + 1) "words are lent for findings"; document 02, ticket 1: "4 now asks 4·(n − m + 1) words".
abbrev pub is_row4 : ℕ → ℕ → ℕ → Bool
is_row4 m n room = leb m n && ltb room (room_required m n)

-- The rows that the ring and k decide, each with its refusal if it is given: 1, 2, and 12 "after 1 and before 2" (document 02, ticket 2).
unfoldable pub ring_rows : List ℕ → ℕ → List (Option Refusal)
ring_rows ring k = row (is_row1 (length ring)) Ring ∷ row (is_row12 ring) RingMark ∷ row (is_row2 (length ring) k) Allowance ∷ []

-- The rows that the document's limits and the ring's edges decide, for the ring, k and n: those above, then row 3.
unfoldable pub limit_rows : List ℕ → ℕ → ℕ → List (Option Refusal)
limit_rows ring k n = ring_rows ring k ++ row (is_row3 n) Line ∷ []

-- "Order: survey and scan 1 to 4": the rows above, then row 4 for the number of words lent.
unfoldable pub admit_rows : List ℕ → ℕ → ℕ → ℕ → List (Option Refusal)
admit_rows ring k n room = limit_rows ring k n ++ row (is_row4 (length ring) n room) FindingsRoom ∷ []

-- "Ring: m edges, 1 to 256": row 1 is not given.
pub record IsRingLength (m : ℕ) : Type 0 where
  pub some_edge : 0 < m
  pub most : m ≤ most_ring

-- None of these rows is given: the document's limits hold, the ring holds no mark, and there is room for the findings.
pub record Admitted (ring : List ℕ) (k n room : ℕ) : Type 0 where
  pub some_edge : 0 < length ring
  pub most_ring : length ring ≤ most_ring
  pub no_mark : HoldsMark ring → ⊥
  pub allowed : k < length ring
  pub most_line : n ≤ most_line
  pub room_for : length ring ≤ n → room_required (length ring) n ≤ room

-- The refusal that a verdict, the returned `Result`, holds; none if the call is accepted.
abbrev pub verdict_of : Result (Unit {0}) Refusal → Option Refusal
verdict_of (Ok _) = None
verdict_of (Err refusal) = Some refusal

-- The contract of `admit_ring`, of `admit`, of `admit_closed` and of the private `within_limits`, each for the rows that it tests: the verdict r holds the
-- refusal of the first row that is given, and accepts if no row is. `admit` tests `admit_rows`, where n is the line's length and `room` the number of words lent
-- for findings.
pub record IsVerdict (rows : List (Option Refusal)) (r : Result (Unit {0}) Refusal) : Type 0 where
  pub is : verdict_of r ≡ first_given rows
