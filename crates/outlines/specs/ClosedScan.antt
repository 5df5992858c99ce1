-- Document 02, ticket 3: the quick scan on a closed line. Refusals, found, words and join area are those of every search on a closed line
-- (specs/ClosedSearching.antt of crates/findings). Only the looks are its own: `quick_looks` of crates/meaning, for the line followed by its first m − 1 edges.
--
--   IsClosedScanned    the contract of `scan_closed`
use Rattle.std.specs.Prelude.{ℕ, List, length}
use Rattle.meaning.specs.Closed.{closed_line}
use Rattle.meaning.specs.Looks.{quick_looks}
use Rattle.std.specs.Prelude.{Result}
use Rattle.answers.specs.declared.refusals.Refusal.{Refusal}
use Rattle.findings.specs.declared.searching.SearchCounts.{SearchCounts}
use Rattle.findings.specs.ClosedSearching.{IsClosedSearched}

-- The contract of `scan_closed`, for ring, line, allowance, join area and lent words, the answer r, the join area at exit `joined` and the words at exit
-- `out`: it is a search on a closed line with the quick scan's looks.
abbrev pub IsClosedScanned : List ℕ → List ℕ → ℕ → List ℕ → List ℕ → Result SearchCounts Refusal → List ℕ → List ℕ → Type 0
IsClosedScanned ring line k join words r joined out =
    IsClosedSearched ring line k (quick_looks ring (closed_line (length ring) line) k) join words r joined out
