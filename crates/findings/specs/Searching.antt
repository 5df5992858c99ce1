-- Document 01, "What each call returns", for the plain survey and the quick scan: "Survey and scan return found and looks", and the findings go into the lent
-- words. The two differ only in how many looks they take, so `searched`, `LineSearched`, `search_paper` and `IsSearched` take the looks as an argument. All but
-- `LineSearched` take the call's rows too, in the order in which the first that is given decides: survey and scan have `admit_rows` of specs/Admitting.antt.
--
--   Counts, no_counts      found and looks; both zero
--   searched               the answer that a search must give: its counts, or a refusal
--   searched_words         the lent words at exit
--   LineSearched           the contract of the search itself, once the call is accepted
--   counts_of              found and looks of a returned struct
--   answer_of, paper_of    a returned `Result` as an answer, and as document 01's number, place and counts
--   search_paper           number, place and counts that a search must give
--   IsSearched             the contract of survey and scan, each with its own looks
use Rattle.std.specs.Prelude.{ℕ, ◌≡◌, List, length}
use Rattle.std.specs.Prelude.{Option}
use Rattle.std.specs.Prelude.{Result}
use Rattle.meaning.specs.Findings.{findings, words_of}
use Rattle.lists.specs.Areas.{written}
use Rattle.answers.specs.declared.refusals.Refusal.{Refusal}
use Rattle.answers.specs.Paper.{Answer, Paper, answer_paper, answer_from}
use Rattle.answers.specs.Rows.{first_given, answer_by, area_by}
use Rattle.findings.specs.declared.searching.SearchCounts.{SearchCounts}

-- "found and looks"
pub record Counts : Type 0 where
  pub found : ℕ
  pub looks : ℕ

-- "A refusal carries .. zero in every count"
abbrev pub no_counts : Counts
no_counts = record { found = 0; looks = 0 }

-- The answer of a search with these rows that takes `looks` looks: the refusal of the first row that is given, else the number of findings and the looks.
unfoldable pub searched : List (Option Refusal) → List ℕ → List ℕ → ℕ → ℕ → Answer Counts
searched rows ring line k looks = answer_by (first_given rows) (record { found = length (findings ring line k); looks = looks })

-- The lent words after a search: the words of the findings "by rising start", then the rest as it was. If the call is refused, all as it was.
unfoldable pub searched_words : List (Option Refusal) → List ℕ → List ℕ → ℕ → List ℕ → List ℕ
searched_words rows ring line k words = area_by (first_given rows) (written (words_of (findings ring line k)) words) words

-- The contract of the search itself, once the call is accepted: all findings are counted, the looks are `expected`, and the findings' words are written.
pub record LineSearched (ring line : List ℕ) (k expected : ℕ) (words : List ℕ) (found looks : ℕ) (out : List ℕ) : Type 0 where
  pub found_is : found ≡ length (findings ring line k)
  pub looks_are : looks ≡ expected
  pub written : out ≡ written (words_of (findings ring line k)) words

-- Found and looks of a struct.
abbrev pub counts_of : SearchCounts → Counts
counts_of c = record { found = c.found; looks = c.looks }

-- The returned `Result` as an answer.
abbrev pub answer_of : Result SearchCounts Refusal → Answer Counts
answer_of r = answer_from counts_of r

-- Document 01's number, place and counts for the returned `Result`.
abbrev pub paper_of : Result SearchCounts Refusal → Paper Counts
paper_of r = answer_paper no_counts (answer_of r)

-- The number, place and counts that a search with these rows must give if it takes `looks` looks.
abbrev pub search_paper : List (Option Refusal) → List ℕ → List ℕ → ℕ → ℕ → Paper Counts
search_paper rows ring line k looks = answer_paper no_counts (searched rows ring line k looks)

-- The contract of a search with these rows. Survey and scan have the same rows; the looks, `expected`, are the only difference. It fixes number, place and
-- counts of the answer r and the words at exit `out`, on every input, accepted or refused.
pub record IsSearched (rows : List (Option Refusal)) (ring line : List ℕ) (k expected : ℕ) (words : List ℕ) (r : Result SearchCounts Refusal) (out : List ℕ) : Type 0 where
  pub paper : paper_of r ≡ search_paper rows ring line k expected
  pub written : out ≡ searched_words rows ring line k words
