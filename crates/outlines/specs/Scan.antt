-- Document 01, "What each call returns", the quick scan. Refusals, found and words are those that survey and scan share (specs/Searching.antt of crates/findings). Only the
-- looks are its own, those of rules 1 to 5: `quick_looks` of crates/meaning.
--
--   IsScanned    the contract of `scan`
use Rattle.std.specs.Prelude.{ℕ, List, length}
use Rattle.meaning.specs.Looks.{quick_looks}
use Rattle.std.specs.Prelude.{Result}
use Rattle.answers.specs.declared.refusals.Refusal.{Refusal}
use Rattle.findings.specs.declared.searching.SearchCounts.{SearchCounts}
use Rattle.findings.specs.Admitting.{admit_rows}
use Rattle.findings.specs.Searching.{IsSearched}

-- The contract of `scan`, for ring, line, allowance and lent words, the answer r and the words at exit `out`: it is a search with the quick scan's looks.
abbrev pub IsScanned : List ℕ → List ℕ → ℕ → List ℕ → Result SearchCounts Refusal → List ℕ → Type 0
IsScanned ring line k words r out = IsSearched (admit_rows ring k (length line) (length words)) ring line k (quick_looks ring line k) words r out
