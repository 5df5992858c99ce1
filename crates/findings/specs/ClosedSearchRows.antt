-- Documents 01 and 02: the table of refusals as it reads for survey and scan on a closed line (ticket 3), with "Given exactly when", number and place written
-- out, in the order 1, 12, 2, 3, 4, 10; and what the join area holds at exit. The contract uses `closed_rows` of specs/ClosedRows.antt. This is the same table
-- in plain comparisons, and proofs/RowsOfClosedSearching.antt proves it for every answer that meets the contract. The number is 0, one of 1 to 4, 10, or 12,
-- so exactly one of the seven conditions holds.
--
--   ClosedSearchRows    the table, for an answer's paper, the words and the join area at exit
use Rattle.std.specs.Prelude.{ℕ, ◌-◌, ◌*◌, ◌≤◌, ◌<◌, ◌≡◌, ◌↔◌, ◌⊎◌, List, ◌++◌, length, take, drop}
use Rattle.meaning.specs.Meanings.{HoldsMark}
use Rattle.answers.specs.Paper.{Paper}
use Rattle.findings.specs.Admitting.{IsRingLength}
use Rattle.findings.specs.Searching.{Counts}

-- The table for a search on a closed line: the ring has m edges, the line n, `join` is the lent join area and `words` are the lent words. p is the paper of the
-- answer; at exit the join area is `joined` and the words are `out`.
pub record ClosedSearchRows (ring line : List ℕ) (k : ℕ) (join words : List ℕ) (p : Paper Counts) (joined out : List ℕ) : Type 0 where
  -- "m = 0 or m > 256"
  pub row_1 : (p.number ≡ 1) ↔ ((length ring ≡ 0) ⊎ (256 < length ring))
  -- "a ring holding 255" (document 02, ticket 2), row 1 not given
  pub row_12 : (p.number ≡ 12) ↔ (IsRingLength (length ring) × HoldsMark ring)
  -- "k ≥ m", rows 1 and 12 not given
  pub row_2 : (p.number ≡ 2) ↔ (IsRingLength (length ring) × ((HoldsMark ring → ⊥) × (length ring ≤ k)))
  -- "n > 65,536", rows 1, 12 and 2 not given
  pub row_3 : (p.number ≡ 3) ↔ (IsRingLength (length ring) × ((HoldsMark ring → ⊥) × ((k < length ring) × (65536 < length line))))
  -- "n ≥ m and fewer than" 4·n "words are lent for findings", rows 1, 12, 2 and 3 not given
  pub row_4 : (p.number ≡ 4)
      ↔ (IsRingLength (length ring)
      × ((HoldsMark ring → ⊥) × ((k < length ring) × ((length line ≤ 65536) × ((length ring ≤ length line) × (length words < 4 * length line))))))
  -- "when the join area is below 2·m − 2 bytes and n ≥ m", rows 1, 12, 2, 3 and 4 not given
  pub row_10 : (p.number ≡ 10)
      ↔ (IsRingLength (length ring)
      × ((HoldsMark ring → ⊥)
      × ((k < length ring)
      × ((length line ≤ 65536) × ((length ring ≤ length line) × ((4 * length line ≤ length words) × (length join < 2 * length ring - 2)))))))
  -- Accepted exactly when none of these rows is given.
  pub accepted : (p.number ≡ 0)
      ↔ (IsRingLength (length ring)
      × ((HoldsMark ring → ⊥)
      × ((k < length ring)
      × ((length line ≤ 65536)
      × ((length ring ≤ length line → 4 * length line ≤ length words) × (length ring ≤ length line → 2 * length ring - 2 ≤ length join))))))
  -- No other number is given.
  pub numbers : (p.number ≤ 4) ⊎ ((p.number ≡ 10) ⊎ (p.number ≡ 12))
  -- Each of these rows has place 0, and so has an accepted answer.
  pub place_is : p.place ≡ 0
  -- A refusal carries "zero in every count".
  pub no_found : 0 < p.number → p.counts.found ≡ 0
  pub no_looks : 0 < p.number → p.counts.looks ≡ 0
  -- A refusal "writes nothing to any lent area".
  pub untouched : 0 < p.number → out ≡ words
  pub join_untouched : 0 < p.number → joined ≡ join
  -- "all of it for n < m" keeps its values, in an accepted call too.
  pub join_short : length line < length ring → joined ≡ join
  -- After an accepted call with n ≥ m the join area has "the line's last m−1 edges and its first m−1" in its first 2·m − 2 bytes; "later bytes .. keep their
  -- values".
  pub join_long : p.number ≡ 0 → length ring ≤ length line
      → joined ≡ drop (length line - (length ring - 1)) line ++ (take (length ring - 1) line ++ drop (2 * length ring - 2) join)
