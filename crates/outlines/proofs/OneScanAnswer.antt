-- Any two answers that meet the contract of `scan` are equal, and so are the words at exit, because a scan is a search (`search_unique` of crates/findings).
-- The same holds for `scan_closed` and its join area (`closed_search_unique`).
use Prim.Native.Nat.{ℕ}
use mathlib.Core.Path.{◌≡◌}
use mathlib.Core.List.{List}
use Rattle.std.specs.Prelude.{Result}
use Rattle.answers.specs.declared.refusals.Refusal.{Refusal}
use Rattle.findings.specs.declared.searching.SearchCounts.{SearchCounts}
use Rattle.findings.proofs.OneAnswer.{search_unique, closed_search_unique}
use Rattle.outlines.specs.Scan.{IsScanned}
use Rattle.outlines.specs.ClosedScan.{IsClosedScanned}

-- Any two answers that meet the contract of `scan` are equal, and so are the words at exit.
pub scan_unique : (ring line : List ℕ) (k : ℕ) (words : List ℕ) (r r' : Result SearchCounts Refusal) (out out' : List ℕ) → IsScanned ring line k words r out
    → IsScanned ring line k words r' out' → (r ≡ r') × (out ≡ out')
scan_unique ring line k words r r' out out' p p' = search_unique p p'

-- Any two answers that meet the contract of `scan_closed` are equal, and so are the join areas and the words at exit.
pub closed_scan_unique : (ring line : List ℕ) (k : ℕ) (join words : List ℕ) (r r' : Result SearchCounts Refusal) (joined joined' out out' : List ℕ)
    → IsClosedScanned ring line k join words r joined out → IsClosedScanned ring line k join words r' joined' out'
    → (r ≡ r') × (joined ≡ joined') × (out ≡ out')
closed_scan_unique ring line k join words r r' joined joined' out out' p p' = closed_search_unique p p'
