-- Precondition and contract of the private `scan_backward` of src/passes.rt, which makes the second pass.
--
--   CanScanBackward      the precondition: the call is admitted, and `forward.found` is the number of forward findings
--   IsScannedBackward    the contract: the counts of both passes, and the backward findings' words behind the forward ones
use Rattle.std.specs.Prelude.{ℕ, ◌*◌, ◌≡◌, List, length}
use Rattle.std.specs.Prelude.{Result}
use Rattle.lists.specs.Areas.{written_at}
use Rattle.meaning.specs.Findings.{findings, words_each, words_of}
use Rattle.answers.specs.declared.refusals.Refusal.{Refusal}
use Rattle.answers.specs.Paper.{accepted}
use Rattle.reversal.specs.Reversing.{reversed_ring}
use Rattle.findings.specs.declared.searching.SearchCounts.{SearchCounts}
use Rattle.findings.specs.Searching.{counts_of}
use Rattle.two_way.specs.declared.passes.TwoWayCounts.{TwoWayCounts as TwoWayCountsStruct}
use Rattle.two_way.specs.Admitting.{TwoWayAdmitted}
use Rattle.two_way.specs.TwoWay.{TwoWayCounts, pass_counts, answer_of}

-- The precondition of `scan_backward`: none of the call's rows is given, and `forward` has the number of forward findings.
pub record CanScanBackward (ring line : List ℕ) (k : ℕ) (words : List ℕ) (forward : SearchCounts) : Type 0 where
  pub admitted : TwoWayAdmitted ring k (length line) (length words)
  pub found_is : forward.found ≡ length (findings ring line k)

-- The counts of both passes, those of the forward pass as given.
abbrev pub both_counts : List ℕ → List ℕ → ℕ → SearchCounts → TwoWayCounts
both_counts ring line k forward = record { forward = counts_of forward; backward = pass_counts (reversed_ring ring) line k }

-- The contract of `scan_backward`: it returns the counts of both passes, and puts the words of the backward findings right behind those of the forward ones.
pub record IsScannedBackward (ring line : List ℕ) (k : ℕ) (words : List ℕ) (forward : SearchCounts) (r : Result TwoWayCountsStruct Refusal) (out : List ℕ) : Type 0 where
  pub answer_is : answer_of r ≡ accepted (both_counts ring line k forward)
  pub written : out ≡ written_at (words_each * forward.found) (words_of (findings (reversed_ring ring) line k)) words
