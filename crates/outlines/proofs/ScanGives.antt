-- What follows for every answer that meets the contract of `scan`: rows 1 to 4 and 12 of the table hold, and an accepted scan has counted all findings. Its looks are
-- the steps of rules 1 to 5. "For n ≥ m they are never above 3·m·n − 2·m·m + m, which is at most 3·m·n." SearchGives of crates/findings proves what holds for
-- every search.
use Prim.Native.Nat.{ℕ, ◌+◌, ◌-◌, ◌*◌, ◌≤◌, ◌<◌}
use mathlib.Core.Path.{◌≡◌, refl}
use mathlib.Core.List.{List}
use native.Mathlib.Omega.{arith}
use lib.ListN.{length}
use Rattle.meaning.specs.Findings.{findings}
use Rattle.meaning.specs.Looks.{quick_looks}
use Rattle.meaning.proofs.LookBound.{quick_looks_le, quick_looks_most, quick_looks_short}
use Rattle.std.specs.Prelude.{Result}
use Rattle.answers.specs.declared.refusals.Refusal.{Refusal}
use Rattle.findings.specs.declared.searching.SearchCounts.{SearchCounts}
use Rattle.findings.specs.Searching.{paper_of}
use Rattle.findings.specs.SearchRows.{SearchRows}
use Rattle.findings.proofs.AdmitRows.{accepted_edge}
use Rattle.findings.proofs.RowsOfSearching.{rows_of_search}
use Rattle.findings.proofs.SearchGives.{accepted_gives, looks_of_search}
use Rattle.outlines.specs.Scan.{IsScanned}

module _ (ring line : List ℕ) (k : ℕ) (words : List ℕ) (r : Result SearchCounts Refusal) (out : List ℕ) (meets : IsScanned ring line k words r out) where
  -- Every answer of `scan` obeys rows 1 to 4 and 12 of the table.
  pub scan_rows : SearchRows ring k (length line) words (paper_of r) out
  scan_rows = rows_of_search meets

  -- The found of an accepted scan is the number of findings.
  pub scan_found_is : (paper_of r).number ≡ 0 → (paper_of r).counts.found ≡ length (findings ring line k)
  scan_found_is zero_is = (accepted_gives meets zero_is).found_is

  -- The looks of an accepted scan are `quick_looks`, the steps of rules 1 to 5.
  pub scan_looks_are : (paper_of r).number ≡ 0 → (paper_of r).counts.looks ≡ quick_looks ring line k
  scan_looks_are zero_is = (accepted_gives meets zero_is).looks_are

  -- The looks of an accepted scan: "For n ≥ m they are never above 3·m·n − 2·m·m + m".
  pub scan_looks_le : (paper_of r).number ≡ 0 → length ring ≤ length line
      → (paper_of r).counts.looks ≤ 3 * length ring * length line - 2 * length ring * length ring + length ring
  scan_looks_le zero_is h = rw (scan_looks_are zero_is) (quick_looks_le ring line k h)

  -- The looks of `scan` are at most 3·m·n on every input, accepted or refused.
  pub scan_looks_most : (paper_of r).counts.looks ≤ 3 * length ring * length line
  scan_looks_most =
      looks_of_search meets (λ (looks : ℕ). looks ≤ 3 * length ring * length line) (omega arith)
      (λ none_given. quick_looks_most ring line k (accepted_edge ring k (length line) (length words) none_given))

  -- On a line shorter than the ring `scan` takes "no look", accepted or refused.
  pub scan_no_looks : length line < length ring → (paper_of r).counts.looks ≡ 0
  scan_no_looks short = looks_of_search meets (λ (looks : ℕ). looks ≡ 0) refl (λ none_given. quick_looks_short ring line k short)
