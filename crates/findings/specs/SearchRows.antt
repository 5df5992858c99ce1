-- Document 01, "What each call returns": rows 1 to 4 of the table as they read for survey and scan, with "Given exactly when", number and place written out,
-- in their order; and row 12 of document 02, ticket 2, "after 1 and before 2". The contracts use `admit_rows` of specs/Admitting.antt. This is the same table
-- in plain comparisons, and proofs/RowsOfSearching.antt proves it for every answer that meets the contract. The number is 0, one of 1 to 4, or 12, so exactly
-- one of the six conditions holds.
--
--   SearchRows    the table, for an answer's paper and the words at exit
use Rattle.std.specs.Prelude.{ℕ, ◌+◌, ◌-◌, ◌*◌, ◌≤◌, ◌<◌, ◌≡◌, ◌↔◌, ◌⊎◌, List, length}
use Rattle.meaning.specs.Meanings.{HoldsMark}
use Rattle.answers.specs.Paper.{Paper}
use Rattle.findings.specs.Admitting.{IsRingLength}
use Rattle.findings.specs.Searching.{Counts}

-- The table for a search with the ring, whose length is m, and k, n and the lent words. p is the paper of its answer, `out` are the words at exit.
pub record SearchRows (ring : List ℕ) (k n : ℕ) (words : List ℕ) (p : Paper Counts) (out : List ℕ) : Type 0 where
  -- "m = 0 or m > 256"
  pub row_1 : (p.number ≡ 1) ↔ ((length ring ≡ 0) ⊎ (256 < length ring))
  -- "a ring holding 255" (document 02, ticket 2), row 1 not given
  pub row_12 : (p.number ≡ 12) ↔ (IsRingLength (length ring) × HoldsMark ring)
  -- "k ≥ m", rows 1 and 12 not given
  pub row_2 : (p.number ≡ 2) ↔ (IsRingLength (length ring) × ((HoldsMark ring → ⊥) × (length ring ≤ k)))
  -- "n > 65,536", rows 1, 12 and 2 not given
  pub row_3 : (p.number ≡ 3) ↔ (IsRingLength (length ring) × ((HoldsMark ring → ⊥) × ((k < length ring) × (65536 < n))))
  -- "n ≥ m and fewer than" 4·(n − m + 1) "words are lent for findings", rows 1, 12, 2 and 3 not given. (Document 01 has 3; document 02, ticket 1, makes it 4.)
  pub row_4 : (p.number ≡ 4)
      ↔ (IsRingLength (length ring)
      × ((HoldsMark ring → ⊥) × ((k < length ring) × ((n ≤ 65536) × ((length ring ≤ n) × (length words < 4 * (n - length ring + 1)))))))
  -- Accepted exactly when none of these rows is given.
  pub accepted : (p.number ≡ 0)
      ↔ (IsRingLength (length ring)
      × ((HoldsMark ring → ⊥) × ((k < length ring) × ((n ≤ 65536) × (length ring ≤ n → 4 * (n - length ring + 1) ≤ length words)))))
  -- No other number is given.
  pub numbers : (p.number ≤ 4) ⊎ (p.number ≡ 12)
  -- Each of these rows has place 0, and so has an accepted answer.
  pub place_is : p.place ≡ 0
  -- A refusal carries "zero in every count".
  pub no_found : 0 < p.number → p.counts.found ≡ 0
  pub no_looks : 0 < p.number → p.counts.looks ≡ 0
  -- A refusal "writes nothing to any lent area".
  pub untouched : 0 < p.number → out ≡ words
