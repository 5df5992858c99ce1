-- Document 01, "What each call returns": rows 1 to 7 of the table as they read for the report, with "Given exactly when", number and place written out, in
-- their order; and row 12 of document 02, ticket 2, "after 1 and before 2". The contract uses `report_rows` of specs/Report.antt. This is the same table in
-- plain comparisons, and proofs/RowsOfReport.antt proves it for every answer that meets the contract, if the book is a list of bytes. The number is one of 0 to
-- 7, or 12, so exactly one of the nine conditions holds.
--
--   ReportRows    the table, for an answer's paper and the words at exit
use Rattle.std.specs.Prelude.{ℕ, ◌+◌, ◌-◌, ◌*◌, ◌≤◌, ◌<◌, ◌≡◌, ◌↔◌, ◌⊎◌, List, length}
use Rattle.meaning.specs.Meanings.{HoldsMark}
use Rattle.answers.specs.Paper.{Paper}
use Rattle.silences.specs.Silences.{Silence}
use Rattle.silences.specs.Books.{IsBook}
use Rattle.silences.specs.Faults.{IsFieldFault, IsOrderFault}
use Rattle.findings.specs.Admitting.{IsRingLength, Admitted}
use Rattle.outlines.specs.Report.{ReportCounts}

-- The table for a report with the ring, whose length is m, and k, n, the book and the lent words. p is the paper of its answer, `out` are the words at exit.
-- `Admitted` says that none of rows 1, 12, 2, 3, 4 is given.
pub record ReportRows (ring : List ℕ) (k n : ℕ) (book words : List ℕ) (p : Paper ReportCounts) (out : List ℕ) : Type 0 where
  -- "m = 0 or m > 256"
  pub row_1 : (p.number ≡ 1) ↔ ((length ring ≡ 0) ⊎ (256 < length ring))
  -- "a ring holding 255" (document 02, ticket 2), row 1 not given
  pub row_12 : (p.number ≡ 12) ↔ (IsRingLength (length ring) × HoldsMark ring)
  -- "k ≥ m", rows 1 and 12 not given
  pub row_2 : (p.number ≡ 2) ↔ (IsRingLength (length ring) × ((HoldsMark ring → ⊥) × (length ring ≤ k)))
  -- "n > 65,536", rows 1, 12 and 2 not given
  pub row_3 : (p.number ≡ 3) ↔ (IsRingLength (length ring) × ((HoldsMark ring → ⊥) × ((k < length ring) × (65536 < n))))
  -- "n ≥ m and fewer than" 4·(n − m + 1) "words are lent for findings", rows 1, 12, 2 and 3 not given. The room is for all findings, hidden ones too.
  -- (Document 01 has 3; document 02, ticket 1, makes it 4.)
  pub row_4 : (p.number ≡ 4)
      ↔ (IsRingLength (length ring)
      × ((HoldsMark ring → ⊥) × ((k < length ring) × ((n ≤ 65536) × ((length ring ≤ n) × (length words < 4 * (n - length ring + 1)))))))
  -- "book longer than" 15,000 "bytes" (document 02, ticket 4), none of the rows above given
  pub row_5 : (p.number ≡ 5) ↔ (Admitted ring k n (length words) × (15000 < length book))
  -- "a field isn't 13 bytes beginning 21 00 0A hex", nor 15 bytes beginning 22 00 0C (document 02, ticket 4), "or is cut off"; place: its byte offset; none of
  -- the rows above given, and no earlier field is faulty
  pub row_6 : (at : ℕ) → ((p.number ≡ 6) × (p.place ≡ at)) ↔ (Admitted ring k n (length words) × ((length book ≤ 15000) × IsFieldFault book at))
  -- "a record isn't above the one before it"; place: its byte offset; none of the rows up to 5 given, and no earlier field is faulty
  pub row_7 : (at : ℕ) → ((p.number ≡ 7) × (p.place ≡ at)) ↔ (Admitted ring k n (length words) × ((length book ≤ 15000) × IsOrderFault book at))
  -- Accepted exactly when none of these rows is given: the call is admitted, and the book is a book of some list of silences.
  pub accepted : (p.number ≡ 0) ↔ (Admitted ring k n (length words) × ((ss : List Silence) × IsBook ss book))
  -- No other number is given.
  pub numbers : (p.number ≤ 7) ⊎ (p.number ≡ 12)
  -- Every other row has place 0, and so has an accepted answer.
  pub place_is : (p.number ≡ 6 → ⊥) → (p.number ≡ 7 → ⊥) → p.place ≡ 0
  -- A refusal carries "zero in every count".
  pub no_found : 0 < p.number → p.counts.found ≡ 0
  pub no_hidden : 0 < p.number → p.counts.hidden ≡ 0
  pub no_looks : 0 < p.number → p.counts.looks ≡ 0
  -- A refusal "writes nothing to any lent area".
  pub untouched : 0 < p.number → out ≡ words
