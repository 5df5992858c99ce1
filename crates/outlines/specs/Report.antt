-- Document 01, "What each call returns", the report: "The report, given a 32-bit cell and a 16-bit ring number, runs the quick scan and returns found (hidden
-- ones included), hidden, looks"; "the report writes the shown ones only". Its contract, `IsReported`, is one record and holds on every input. The
-- definitions take the rows of a search that come before the book's (`rows`): for `report` they are `admit_rows` of crates/findings.
--
--   is_hidden, is_shown              a silence of the book hides the finding; none does
--   taken_by                         the findings of a list that pass a test, in their order
--   shown, hidden                    the findings of a list that are shown, and those that are hidden
--   report_rows                      the rows of a search, then the book's
--   report_refusal                   the refusal of the first of these rows that is given, if one is
--   ReportCounts, no_report_counts   found, hidden and looks; all zero
--   report_counts                    the counts of a report, given the silences of its book
--   report_answer                    the answer that a report must give: its counts, or a refusal
--   reported_words                   the lent words at exit
--   counts_of                        found, hidden and looks of a returned struct
--   answer_of, paper_of              a returned `Result` as an answer, and as document 01's number, place and counts
--   IsReportedBy                     the contract of a report, for its rows of a search
--   IsReported                       the contract of `report`
use Rattle.std.specs.Prelude.{ℕ, ◌≡◌, Bool, not, cond, List, [], ◌∷◌, ◌++◌, length}
use Rattle.std.specs.Prelude.{Option}
use Rattle.lists.specs.Areas.{written}
use Rattle.meaning.specs.Findings.{Finding, findings, words_of}
use Rattle.meaning.specs.Looks.{quick_looks}
use Rattle.answers.specs.declared.refusals.Refusal.{Refusal}
use Rattle.answers.specs.Paper.{Answer, Paper, answer_paper, answer_from}
use Rattle.answers.specs.Rows.{first_given, answer_by, area_by}
use Rattle.silences.specs.Silences.{address, Silence, hides}
use Rattle.silences.specs.Reading.{book_rows, silences_read}
use Rattle.findings.specs.Admitting.{admit_rows}
use Rattle.std.specs.Prelude.{Result}
use Rattle.outlines.specs.declared.quick.ReportCounts.{ReportCounts as ReportCountsStruct}

-- A finding is hidden exactly when one of the silences has the report's cell and ring number and the finding's start, and the finding's distance is at most its
-- ceiling: "It hides a finding at its address only up to that distance, and demand 2 reads so" (document 02, ticket 4).
abbrev pub is_hidden : List Silence → ℕ → ℕ → Finding → Bool
is_hidden silences cell ring_number f = hides silences (address cell ring_number f.start) f.distance

-- A finding is shown exactly when it is not hidden.
abbrev pub is_shown : List Silence → ℕ → ℕ → Finding → Bool
is_shown silences cell ring_number f = not (is_hidden silences cell ring_number f)

-- The findings of a list that pass the test `takes`, in their order.
unfoldable pub taken_by : (Finding → Bool) → List Finding → List Finding
taken_by takes [] = []
taken_by takes (f ∷ fs) = cond (takes f) (f ∷ taken_by takes fs) (taken_by takes fs)

-- The findings of a list that are shown.
abbrev pub shown : List Silence → ℕ → ℕ → List Finding → List Finding
shown silences cell ring_number fs = taken_by (is_shown silences cell ring_number) fs

-- The findings of a list that are hidden. "Hidden counts findings, not records."
abbrev pub hidden : List Silence → ℕ → ℕ → List Finding → List Finding
hidden silences cell ring_number fs = taken_by (is_hidden silences cell ring_number) fs

-- "report 1 to 7", with 12 "after 1 and before 2" (document 02, ticket 2): the rows of a search, then those of the book, 5, 6 and 7, each with its refusal if
-- it is given. The book's rows are tested for every line, also for one shorter than the ring.
unfoldable pub report_rows : List (Option Refusal) → List ℕ → List (Option Refusal)
report_rows rows book = rows ++ book_rows book

-- The refusal of the first of these rows that is given; none if no row is.
abbrev pub report_refusal : List (Option Refusal) → List ℕ → Option Refusal
report_refusal rows book = first_given (report_rows rows book)

-- "found (hidden ones included), hidden, looks"
pub record ReportCounts : Type 0 where
  pub found : ℕ
  pub hidden : ℕ
  pub looks : ℕ

-- "A refusal carries .. zero in every count"
abbrev pub no_report_counts : ReportCounts
no_report_counts = record { found = 0; hidden = 0; looks = 0 }

-- The counts of an accepted report whose book has these silences.
abbrev pub report_counts : List ℕ → List ℕ → ℕ → ℕ → ℕ → List Silence → ReportCounts
report_counts ring line k cell ring_number silences = record {
  found = length (findings ring line k);
  hidden = length (hidden silences cell ring_number (findings ring line k));
  looks = quick_looks ring line k;
}

-- The answer of a report: the refusal of the first of its rows that is given, else the counts by the book's silences.
unfoldable pub report_answer : List (Option Refusal) → List ℕ → List ℕ → ℕ → ℕ → ℕ → List ℕ → Answer ReportCounts
report_answer rows ring line k cell ring_number book = answer_by (report_refusal rows book) (report_counts ring line k cell ring_number (silences_read book))

-- The lent words after a report: the words of the shown findings without a gap, then the rest as it was. A refusal "writes nothing to any lent area".
unfoldable pub reported_words : List (Option Refusal) → List ℕ → List ℕ → ℕ → ℕ → ℕ → List ℕ → List ℕ → List ℕ
reported_words rows ring line k cell ring_number book words =
    area_by (report_refusal rows book) (written (words_of (shown (silences_read book) cell ring_number (findings ring line k))) words) words

-- Found, hidden and looks of a struct.
abbrev pub counts_of : ReportCountsStruct → ReportCounts
counts_of c = record { found = c.found; hidden = c.hidden; looks = c.looks }

-- The returned `Result` as an answer.
abbrev pub answer_of : Result ReportCountsStruct Refusal → Answer ReportCounts
answer_of r = answer_from counts_of r

-- Document 01's number, place and counts for the returned `Result`.
abbrev pub paper_of : Result ReportCountsStruct Refusal → Paper ReportCounts
paper_of r = answer_paper no_report_counts (answer_of r)

-- The contract of a report, for its rows of a search. It fixes number, place and counts of the answer r and the words at exit `out`, on every input, accepted
-- or refused.
pub record IsReportedBy (rows : List (Option Refusal)) (cell ring_number : ℕ) (ring line : List ℕ) (k : ℕ) (book words : List ℕ) (r : Result ReportCountsStruct Refusal) (out : List ℕ) : Type 0 where
  pub paper : paper_of r ≡ answer_paper no_report_counts (report_answer rows ring line k cell ring_number book)
  pub written : out ≡ reported_words rows ring line k cell ring_number book words

-- The contract of `report`: its rows of a search are those of survey and scan.
abbrev pub IsReported : ℕ → ℕ → List ℕ → List ℕ → ℕ → List ℕ → List ℕ → Result ReportCountsStruct Refusal → List ℕ → Type 0
IsReported cell ring_number ring line k book words r out =
    IsReportedBy (admit_rows ring k (length line) (length words)) cell ring_number ring line k book words r out
