-- What follows for every answer that meets the contract of `scan_closed`: the table of refusals holds, and an accepted scan has counted all findings of the
-- closed line. Its looks are the steps of rules 1 to 5 on the line followed by its first m − 1 edges: "The look bound reads with n + m − 1 in place of n".
-- SearchGives of crates/findings proves what holds for every search; the bounds are those of ClosedLooks of crates/meaning.
use Prim.Native.Nat.{ℕ, ◌+◌, ◌-◌, ◌*◌, ◌≤◌, ◌<◌}
use mathlib.Core.Path.{◌≡◌, refl}
use mathlib.Core.List.{List}
use native.Mathlib.Omega.{arith}
use lib.ListN.{length}
use Rattle.meaning.specs.Findings.{findings}
use Rattle.meaning.specs.Looks.{quick_looks}
use Rattle.meaning.specs.Closed.{closed_line}
use Rattle.meaning.proofs.ClosedLooks.{closed_quick_looks_le, closed_quick_looks_most, closed_quick_looks_short}
use Rattle.std.specs.Prelude.{Result}
use Rattle.answers.specs.declared.refusals.Refusal.{Refusal}
use Rattle.findings.specs.declared.searching.SearchCounts.{SearchCounts}
use Rattle.findings.specs.Searching.{paper_of}
use Rattle.findings.specs.ClosedSearchRows.{ClosedSearchRows}
use Rattle.findings.proofs.ClosedAdmitRows.{closed_accepted_edge}
use Rattle.findings.proofs.SearchGives.{accepted_gives, looks_of_search}
use Rattle.findings.proofs.ClosedSearchAnswers.{closed_is_search}
use Rattle.findings.proofs.RowsOfClosedSearching.{rows_of_closed_search}
use Rattle.outlines.specs.ClosedScan.{IsClosedScanned}

module _ (ring line : List ℕ) (k : ℕ) (join words : List ℕ) (r : Result SearchCounts Refusal) (joined out : List ℕ) (meets : IsClosedScanned ring line k join words r joined out) where
  -- Every answer of `scan_closed` obeys rows 1, 12, 2, 3, 4 and 10 of the table, and leaves the join area as the table says.
  pub closed_scan_rows : ClosedSearchRows ring line k join words (paper_of r) joined out
  closed_scan_rows = rows_of_closed_search meets

  -- The found of an accepted scan is the number of the closed line's findings.
  pub closed_scan_found_is : (paper_of r).number ≡ 0 → (paper_of r).counts.found ≡ length (findings ring (closed_line (length ring) line) k)
  closed_scan_found_is zero_is = (accepted_gives (closed_is_search meets) zero_is).found_is

  -- The looks of an accepted scan are `quick_looks`, the steps of rules 1 to 5, for the line followed by its first m − 1 edges.
  pub closed_scan_looks_are : (paper_of r).number ≡ 0 → (paper_of r).counts.looks ≡ quick_looks ring (closed_line (length ring) line) k
  closed_scan_looks_are zero_is = (accepted_gives (closed_is_search meets) zero_is).looks_are

  -- The looks of an accepted scan: "The look bound reads with n + m − 1 in place of n". For n ≥ m they are never above 3·m·(n + m − 1) − 2·m·m + m.
  pub closed_scan_looks_le : (paper_of r).number ≡ 0 → length ring ≤ length line
      → (paper_of r).counts.looks ≤ 3 * length ring * (length line + length ring - 1) - 2 * length ring * length ring + length ring
  closed_scan_looks_le zero_is long =
      let accepted = accepted_gives (closed_is_search meets) zero_is in
      rw accepted.looks_are
      (closed_quick_looks_le ring line (closed_accepted_edge ring k (length line) (length words) (length join) accepted.none_given) long k)

  -- The looks of `scan_closed` are at most 3·m·(n + m − 1) on every input, accepted or refused.
  pub closed_scan_looks_most : (paper_of r).counts.looks ≤ 3 * length ring * (length line + length ring - 1)
  closed_scan_looks_most =
      looks_of_search (closed_is_search meets) (λ (looks : ℕ). looks ≤ 3 * length ring * (length line + length ring - 1)) (omega arith)
      (λ none_given. closed_quick_looks_most ring line (closed_accepted_edge ring k (length line) (length words) (length join) none_given) k)

  -- On a line shorter than the ring `scan_closed` takes "no look", accepted or refused.
  pub closed_scan_no_looks : length line < length ring → (paper_of r).counts.looks ≡ 0
  closed_scan_no_looks short =
      looks_of_search (closed_is_search meets) (λ (looks : ℕ). looks ≡ 0) refl (λ none_given. closed_quick_looks_short ring line short k)
