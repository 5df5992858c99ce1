-- Document 02, ticket 3: the plain survey on a closed line. Refusals, found, words and join area are those of every search on a closed line
-- (specs/ClosedSearching.antt of crates/findings). Only the looks are its own: `survey_looks` of crates/meaning, for the line followed by its first m − 1 edges.
--
--   IsClosedSurveyed    the contract of `survey_closed`
use Rattle.std.specs.Prelude.{ℕ, List, length}
use Rattle.meaning.specs.Closed.{closed_line}
use Rattle.meaning.specs.Looks.{survey_looks}
use Rattle.std.specs.Prelude.{Result}
use Rattle.answers.specs.declared.refusals.Refusal.{Refusal}
use Rattle.findings.specs.declared.searching.SearchCounts.{SearchCounts}
use Rattle.findings.specs.ClosedSearching.{IsClosedSearched}

-- The contract of `survey_closed`, for ring, line, allowance, join area and lent words, the answer r, the join area at exit `joined` and the words at exit
-- `out`: it is a search on a closed line with the survey's looks.
abbrev pub IsClosedSurveyed : List ℕ → List ℕ → ℕ → List ℕ → List ℕ → Result SearchCounts Refusal → List ℕ → List ℕ → Type 0
IsClosedSurveyed ring line k join words r joined out =
    IsClosedSearched ring line k (survey_looks ring (closed_line (length ring) line)) join words r joined out
