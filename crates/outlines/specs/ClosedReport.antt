-- Document 02, ticket 3: the report on a closed line. It is the report of specs/Report.antt, with the rows `closed_rows` before the book's, over the line
-- followed by its first m − 1 edges. The join area is written only if no row is given, the book's included.
--
--   IsClosedReported    the contract of `report_closed`
use Rattle.std.specs.Prelude.{ℕ, ◌≡◌, List, length}
use Rattle.meaning.specs.Closed.{closed_line}
use Rattle.answers.specs.Paper.{answer_paper}
use Rattle.findings.specs.ClosedRows.{closed_rows}
use Rattle.findings.specs.ClosedSearching.{join_at_exit}
use Rattle.std.specs.Prelude.{Result}
use Rattle.answers.specs.declared.refusals.Refusal.{Refusal}
use Rattle.outlines.specs.declared.quick.ReportCounts.{ReportCounts as ReportCountsStruct}
use Rattle.outlines.specs.Report.{report_rows, no_report_counts, report_answer, reported_words, paper_of}

-- The contract of `report_closed`. It fixes number, place and counts of the answer r, the words at exit `out` and the join area at exit `joined`, on every
-- input, accepted or refused.
pub record IsClosedReported (cell ring_number : ℕ) (ring line : List ℕ) (k : ℕ) (book join words : List ℕ) (r : Result ReportCountsStruct Refusal) (joined out : List ℕ) : Type 0 where
  pub paper : paper_of r
      ≡ answer_paper no_report_counts
      (report_answer (closed_rows ring k (length line) (length words) (length join)) ring (closed_line (length ring) line) k cell ring_number book)
  pub written : out
      ≡ reported_words (closed_rows ring k (length line) (length words) (length join)) ring (closed_line (length ring) line) k cell ring_number book words
  pub joined_is : joined ≡ join_at_exit (report_rows (closed_rows ring k (length line) (length words) (length join)) book) (length ring) line join
