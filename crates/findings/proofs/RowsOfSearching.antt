-- The rows of the table, 1, 12, 2, 3, 4, hold for every answer of survey and scan that meets the contract. The answer has a row's number exactly when that
-- row is the first that is given (SearchGives), and AdmitRows states when it is.
use Prim.Native.Nat.{ℕ, ◌≤◌}
use mathlib.Core.Path.{◌≡◌, ap}
use mathlib.Core.Logic.Iff
use mathlib.Core.Logic.{◌⊎◌, inl}
use mathlib.Core.List.{List}
use native.Mathlib.Omega.{arith}
use lib.ListN.{length}
use Rattle.answers.specs.declared.refusals.Refusal.TheVariants.{Ring, Allowance, Line, FindingsRoom, RingMark}
use Rattle.std.specs.Prelude.{Result}
use Rattle.answers.specs.declared.refusals.Refusal.{Refusal}
use Rattle.findings.specs.declared.searching.SearchCounts.{SearchCounts}
use Rattle.findings.specs.Admitting.{admit_rows}
use Rattle.findings.specs.Searching.{Counts, paper_of, IsSearched}
use Rattle.findings.specs.SearchRows.{SearchRows}
use Rattle.findings.proofs.AdmitRows.{row_1_iff, row_12_iff, row_2_iff, row_3_iff, row_4_iff, none_iff, row_numbers, row_places}
use Rattle.findings.proofs.SearchGives.{search_number_iff, search_accepted_iff, search_number_by, search_place_by, search_no_counts, search_untouched}

-- Every answer that meets the contract of survey or scan, whatever its looks, obeys the table `SearchRows`.
pub rows_of_search : {ring line : List ℕ} {k expected : ℕ} {words : List ℕ} {r : Result SearchCounts Refusal} {out : List ℕ}
    → IsSearched (admit_rows ring k (length line) (length words)) ring line k expected words r out → SearchRows ring k (length line) words (paper_of r) out
rows_of_search {ring} {line} {k} {expected} {words} meets =
    let n = length line in
    let room = length words in
    record {
      row_1 = Iff.trans (search_number_iff meets Ring (omega arith)) (row_1_iff ring k n room);
      row_12 = Iff.trans (search_number_iff meets RingMark (omega arith)) (row_12_iff ring k n room);
      row_2 = Iff.trans (search_number_iff meets Allowance (omega arith)) (row_2_iff ring k n room);
      row_3 = Iff.trans (search_number_iff meets Line (omega arith)) (row_3_iff ring k n room);
      row_4 = Iff.trans (search_number_iff meets FindingsRoom (omega arith)) (row_4_iff ring k n room);
      accepted = Iff.trans (search_accepted_iff meets) (none_iff ring k n room);
      numbers = search_number_by meets (λ (number : ℕ). (number ≤ 4) ⊎ (number ≡ 12)) (inl (omega arith)) (row_numbers ring k n room);
      place_is = search_place_by meets (row_places ring k n room);
      no_found = λ l. ap (λ (c : Counts). c.found) (search_no_counts meets l);
      no_looks = λ l. ap (λ (c : Counts). c.looks) (search_no_counts meets l);
      untouched = search_untouched meets;
    }
