-- Document 02, ticket 3: what survey and scan answer on a closed line, and what they leave in the two lent areas. Found, looks and words are those of a search
-- (specs/Searching.antt) over the line that is searched in this mode, `closed_line` of crates/meaning; the rows are `closed_rows`. The join area is written only
-- if no row is given.
--
--   join_at_exit        the join area at exit, for the call's rows
--   IsClosedSearched    the contract of survey and scan on a closed line, each with its own looks
use Rattle.std.specs.Prelude.{ℕ, ◌≡◌, List, length}
use Rattle.std.specs.Prelude.{Option}
use Rattle.std.specs.Prelude.{Result}
use Rattle.meaning.specs.Closed.{closed_line, joined_with}
use Rattle.answers.specs.declared.refusals.Refusal.{Refusal}
use Rattle.answers.specs.Rows.{first_given, area_by}
use Rattle.findings.specs.declared.searching.SearchCounts.{SearchCounts}
use Rattle.findings.specs.Searching.{paper_of, search_paper, searched_words}
use Rattle.findings.specs.ClosedRows.{closed_rows}

-- The join area at exit. "The first 2·m − 2 bytes of the join area then hold the line's last m−1 edges and its first m−1; later bytes, and all of it for n < m,
-- keep their values" (`joined_with`). A refusal "writes nothing to any lent area" (document 01), so the area is then as before.
unfoldable pub join_at_exit : List (Option Refusal) → ℕ → List ℕ → List ℕ → List ℕ
join_at_exit rows m line join = area_by (first_given rows) (joined_with m line join) join

-- The contract of survey and scan on a closed line; the looks, `expected`, are the only difference. It fixes number, place and counts of the answer r, the
-- words at exit `out` and the join area at exit `joined`, on every input, accepted or refused. "For n ≥ m an accepted call's findings and looks are those
-- that the meanings and rules give for the line followed by its first m−1 edges, also where that is longer than 65,536."
pub record IsClosedSearched (ring line : List ℕ) (k expected : ℕ) (join words : List ℕ) (r : Result SearchCounts Refusal) (joined out : List ℕ) : Type 0 where
  pub paper : paper_of r ≡ search_paper (closed_rows ring k (length line) (length words) (length join)) ring (closed_line (length ring) line) k expected
  pub written : out ≡ searched_words (closed_rows ring k (length line) (length words) (length join)) ring (closed_line (length ring) line) k words
  pub joined_is : joined ≡ join_at_exit (closed_rows ring k (length line) (length words) (length join)) (length ring) line join
