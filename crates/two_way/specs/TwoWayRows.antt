-- Document 02, ticket 6: the table of refusals as it reads for the two-way scan, with "Given exactly when", number and place written out, in the order 1, 12, 2, 14,
-- 3, 4. The contract uses `two_way_rows` of specs/Admitting.antt. This is the same table in plain comparisons, and proofs/RowsOfTwoWay.antt proves it for every
-- answer that meets the contract. The number is one of 0 to 4, 12 or 14, so exactly one of the seven conditions holds.
--
--   TwoWayRows    the table, for an answer's paper and the words at exit
use Rattle.std.specs.Prelude.{ℕ, ◌+◌, ◌-◌, ◌*◌, ◌≤◌, ◌<◌, ◌≡◌, ◌↔◌, ◌⊎◌, List, length}
use Rattle.meaning.specs.Meanings.{HoldsMark}
use Rattle.answers.specs.Paper.{Paper}
use Rattle.findings.specs.Admitting.{IsRingLength}
use Rattle.findings.specs.Searching.{no_counts}
use Rattle.two_way.specs.Admitting.{IsFirstNoEdge, AllEdges}
use Rattle.two_way.specs.TwoWay.{TwoWayCounts}

-- The table for a two-way scan with the ring, whose length is m, and k, n and the lent words. p is the paper of its answer, `out` are the words at exit.
pub record TwoWayRows (ring : List ℕ) (k n : ℕ) (words : List ℕ) (p : Paper TwoWayCounts) (out : List ℕ) : Type 0 where
  -- "m = 0 or m > 256"
  pub row_1 : (p.number ≡ 1) ↔ ((length ring ≡ 0) ⊎ (256 < length ring))
  -- "a ring holding 255" (ticket 2), row 1 not given
  pub row_12 : (p.number ≡ 12) ↔ (IsRingLength (length ring) × HoldsMark ring)
  -- "k ≥ m", rows 1 and 12 not given
  pub row_2 : (p.number ≡ 2) ↔ (IsRingLength (length ring) × ((HoldsMark ring → ⊥) × (length ring ≤ k)))
  -- "a ring code above 247, place the first such ring place", rows 1, 12 and 2 not given
  pub row_14 : (at : ℕ)
      → ((p.number ≡ 14) × (p.place ≡ at)) ↔ (IsRingLength (length ring) × ((HoldsMark ring → ⊥) × ((k < length ring) × IsFirstNoEdge ring at)))
  -- "n > 65,536", rows 1, 12, 2 and 14 not given
  pub row_3 : (p.number ≡ 3) ↔ (IsRingLength (length ring) × ((HoldsMark ring → ⊥) × ((k < length ring) × (AllEdges ring × (65536 < n)))))
  -- "n ≥ m and fewer than" 8·(n − m + 1) "words are lent for findings", rows 1, 12, 2, 14 and 3 not given
  pub row_4 : (p.number ≡ 4)
      ↔ (IsRingLength (length ring)
      × ((HoldsMark ring → ⊥)
      × ((k < length ring) × (AllEdges ring × ((n ≤ 65536) × ((length ring ≤ n) × (length words < 8 * (n - length ring + 1))))))))
  -- Accepted exactly when none of these rows is given.
  pub accepted : (p.number ≡ 0)
      ↔ (IsRingLength (length ring)
      × ((HoldsMark ring → ⊥)
      × ((k < length ring) × (AllEdges ring × ((n ≤ 65536) × (length ring ≤ n → 8 * (n - length ring + 1) ≤ length words))))))
  -- No other number is given.
  pub numbers : (p.number ≤ 4) ⊎ ((p.number ≡ 12) ⊎ (p.number ≡ 14))
  -- Every other row has place 0, and so has an accepted answer.
  pub place_is : (p.number ≡ 14 → ⊥) → p.place ≡ 0
  -- A refusal carries "zero in every count" of both passes.
  pub no_forward : 0 < p.number → p.counts.forward ≡ no_counts
  pub no_backward : 0 < p.number → p.counts.backward ≡ no_counts
  -- A refusal "writes nothing to any lent area".
  pub untouched : 0 < p.number → out ≡ words
