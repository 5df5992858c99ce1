-- Survey and scan on a closed line. Their contract is that of a search with the rows `closed_rows` over the line `closed_line` (`closed_is_search`), so all
-- laws of searches hold; beside it stands the join area. There are two ways to meet it: a row is given, and the call is refused with both areas as they were;
-- or no row is given, the closed line is searched, and the join area holds the line's ends.
use Prim.Native.Nat.{ℕ}
use mathlib.Core.Path.{◌≡◌, sym, ◌∙◌}
use mathlib.Core.List.{List}
use Rattle.std.specs.Prelude.{None, Some}
use Rattle.std.specs.Prelude.{Result, Ok, Err}
use lib.ListN.{length}
use Rattle.meaning.specs.Closed.{closed_line, joined_with}
use Rattle.answers.specs.declared.refusals.Refusal.{Refusal}
use Rattle.answers.specs.Rows.{first_given}
use Rattle.findings.specs.declared.searching.SearchCounts.{SearchCounts}
use Rattle.findings.specs.Searching.{LineSearched, IsSearched}
use Rattle.findings.specs.ClosedRows.{closed_rows}
use Rattle.findings.specs.ClosedSearching.{IsClosedSearched}
use Rattle.findings.proofs.SearchAnswers.{refused_search, accepted_search}
use Rattle.findings.proofs.JoinAtExit.{join_refused, join_accepted}

-- A search on a closed line is a search with the rows `closed_rows` over the line `closed_line`.
pub closed_is_search : {ring line : List ℕ} {k expected : ℕ} {join words : List ℕ} {r : Result SearchCounts Refusal} {joined out : List ℕ}
    → IsClosedSearched ring line k expected join words r joined out
    → IsSearched (closed_rows ring k (length line) (length words) (length join)) ring (closed_line (length ring) line) k expected words r out
closed_is_search meets = record { paper = meets.paper; written = meets.written }

module _ {ring line : List ℕ} {k expected : ℕ} {join words : List ℕ} where
  -- If a row is given, returning its refusal and leaving both areas as they were meets the contract of a search on a closed line.
  pub refused_closed_search : {refusal : Refusal} → Some refusal ≡ first_given (closed_rows ring k (length line) (length words) (length join))
      → IsClosedSearched ring line k expected join words (Err refusal) join words
  refused_closed_search e =
      let search = refused_search e in
      record { paper = search.paper; written = search.written; joined_is = sym (join_refused _ (length ring) line join (sym e)) }

  -- If no row is given, the closed line is searched and the join area is `joined_with`, returning found and looks meets the contract of a search on a closed
  -- line.
  pub accepted_closed_search : {c : SearchCounts} {joined out : List ℕ} → None ≡ first_given (closed_rows ring k (length line) (length words) (length join))
      → LineSearched ring (closed_line (length ring) line) k expected words c.found c.looks out → joined ≡ joined_with (length ring) line join
      → IsClosedSearched ring line k expected join words (Ok c) joined out
  accepted_closed_search e done is =
      let search = accepted_search e done in
      record { paper = search.paper; written = search.written; joined_is = is ∙ sym (join_accepted _ (length ring) line join (sym e)) }
