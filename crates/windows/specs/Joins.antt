-- Filling the join area (document 02, ticket 3). What it must hold is `joined_with` of crates/meaning.
--
--   can_join       whether the area can be filled: the ring has an edge, a window fits in the line, and the area has at least 2·m − 2 bytes
--   join_used      how many bytes of the area windows may come from
--   IsJoinFilled   the contract of `fill_join`
use Rattle.std.specs.Prelude.{ℕ, ◌≡◌, Bool, cond, ◌&&◌, List, ltb, leb, length}
use Rattle.meaning.specs.Closed.{joined_with}
use Rattle.findings.specs.ClosedRows.{join_bytes}

-- Whether the join area of `joins` bytes can be filled for a ring of m edges and a line of n.
abbrev pub can_join : ℕ → ℕ → ℕ → Bool
can_join m n joins = ltb 0 m && (leb m n && leb (join_bytes m) joins)

-- How many bytes of the join area windows may come from: its first 2·m − 2, or none if it cannot be filled.
abbrev pub join_used : ℕ → ℕ → ℕ → ℕ
join_used m n joins = cond (can_join m n joins) (join_bytes m) 0

-- The contract of `fill_join`, which returns r; `join` and `out` are the area at entry and exit. If the area cannot be filled, it stays as it is.
pub record IsJoinFilled (line : List ℕ) (m : ℕ) (join : List ℕ) (r : ℕ) (out : List ℕ) : Type 0 where
  pub used_is : r ≡ join_used m (length line) (length join)
  pub filled : out ≡ cond (can_join m (length line) (length join)) (joined_with m line join) join
