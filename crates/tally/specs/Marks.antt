-- The place just past the last boundary mark of a part of the line (document 02, ticket 2). For the part from place 0 to a window's end, the window holds no mark
-- exactly when this place is at most the window's own: `start_iff_past` of proofs/PastMark.antt.
--
--   past_after    the place after one edge more
--   past_mark     the place just past the last mark of a part of the line; 0 if it has none
--   IsPastMark    the contract of `past_mark`
use Rattle.std.specs.Prelude.{ℕ, zero, suc, ◌+◌, ◌≡◌, cond, List, get_or}
use Rattle.meaning.specs.Meanings.{is_mark}

-- The place after one edge more: `next`, the place just past that edge, if it is a mark; else `past`, as before.
abbrev pub past_after : ℕ → ℕ → ℕ → ℕ
past_after edge past next = cond (is_mark edge) next past

-- The place just past the last mark among the line's places from `from` on; the last number is how many places. 0 if none of them has a mark.
unfoldable pub past_mark : List ℕ → ℕ → ℕ → ℕ
past_mark line from zero = 0
past_mark line from (suc places) =
    past_after (get_or line (from + places) 0) (past_mark line from places) (from + places + 1)

-- The contract of `past_mark`, which returns r.
pub record IsPastMark (edge past next r : ℕ) : Type 0 where
  pub is : r ≡ past_after edge past next
