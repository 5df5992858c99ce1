-- The rows of the table, 1, 12, 2, 3, 4, 10, hold for every answer of survey and scan on a closed line that meets the contract, and the join area is as the
-- table says. The answer has a row's number exactly when that row is the first that is given (SearchGives), and ClosedAdmitRows states when it is; JoinAtExit
-- has the join area.
use Prim.Native.Nat.{ℕ, ◌≤◌}
use mathlib.Core.Path.{◌≡◌, ap, ◌∙◌}
use mathlib.Core.Logic.Iff
use mathlib.Core.Logic.{◌⊎◌, inl}
use mathlib.Core.List.{List}
use native.Mathlib.Omega.{arith}
use lib.ListN.{length}
use Rattle.meaning.specs.Closed.{joined_with}
use Rattle.answers.specs.declared.refusals.Refusal.TheVariants.{Ring, Allowance, Line, FindingsRoom, OutputRoom, RingMark}
use Rattle.std.specs.Prelude.{Result}
use Rattle.answers.specs.declared.refusals.Refusal.{Refusal}
use Rattle.findings.specs.declared.searching.SearchCounts.{SearchCounts}
use Rattle.findings.specs.Searching.{Counts, paper_of}
use Rattle.findings.specs.ClosedSearching.{join_at_exit, IsClosedSearched}
use Rattle.findings.specs.ClosedSearchRows.{ClosedSearchRows}
use Rattle.findings.proofs.ClosedAdmitRows.{closed_row_1_iff, closed_row_12_iff, closed_row_2_iff, closed_row_3_iff, closed_row_4_iff, closed_row_10_iff, closed_none_iff, closed_row_numbers, closed_row_places}
use Rattle.findings.proofs.SearchGives.{search_number_iff, search_accepted_iff, search_number_by, search_place_by, search_no_counts, search_area, search_untouched}
use Rattle.findings.proofs.JoinAtExit.{join_short, join_long}
use Rattle.findings.proofs.ClosedSearchAnswers.{closed_is_search}

-- Every answer that meets the contract of survey or scan on a closed line, whatever its looks, obeys the table `ClosedSearchRows`.
pub rows_of_closed_search : {ring line : List ℕ} {k expected : ℕ} {join words : List ℕ} {r : Result SearchCounts Refusal} {joined out : List ℕ}
    → IsClosedSearched ring line k expected join words r joined out → ClosedSearchRows ring line k join words (paper_of r) joined out
unfolding join_at_exit
rows_of_closed_search {ring} {line} {k} {expected} {join} {words} meets =
    let n = length line in
    let room = length words in
    let joins = length join in
    let search = closed_is_search meets in
    record {
      row_1 = Iff.trans (search_number_iff search Ring (omega arith)) (closed_row_1_iff ring k n room joins);
      row_12 = Iff.trans (search_number_iff search RingMark (omega arith)) (closed_row_12_iff ring k n room joins);
      row_2 = Iff.trans (search_number_iff search Allowance (omega arith)) (closed_row_2_iff ring k n room joins);
      row_3 = Iff.trans (search_number_iff search Line (omega arith)) (closed_row_3_iff ring k n room joins);
      row_4 = Iff.trans (search_number_iff search FindingsRoom (omega arith)) (closed_row_4_iff ring k n room joins);
      row_10 = Iff.trans (search_number_iff search OutputRoom (omega arith)) (closed_row_10_iff ring k n room joins);
      accepted = Iff.trans (search_accepted_iff search) (closed_none_iff ring k n room joins);
      numbers =
          search_number_by search (λ (number : ℕ). (number ≤ 4) ⊎ ((number ≡ 10) ⊎ (number ≡ 12))) (inl (omega arith)) (closed_row_numbers ring k n room joins);
      place_is = search_place_by search (closed_row_places ring k n room joins);
      no_found = λ l. ap (λ (c : Counts). c.found) (search_no_counts search l);
      no_looks = λ l. ap (λ (c : Counts). c.looks) (search_no_counts search l);
      untouched = search_untouched search;
      join_untouched = search_area search (joined_with (length ring) line join) join meets.joined_is;
      join_short = λ short. meets.joined_is ∙ join_short _ (length ring) line join short;
      join_long = λ zero_is long. meets.joined_is ∙ join_long _ (length ring) line join ((search_accepted_iff search).0 zero_is) long;
    }
