-- Any two answers that meet the contract of `scan_two_way` are equal, and so are the words at exit: the paper determines the answer (`answer_unique` of
-- crates/answers), and the answer determines the `Result`.
use Prim.Native.Nat.{ℕ}
use mathlib.Core.Path.{◌≡◌, refl, sym, ap, ◌∙◌}
use mathlib.Core.List.{List}
use Rattle.std.specs.Prelude.{Result, Ok, Err}
use Rattle.answers.specs.declared.refusals.Refusal.{Refusal}
use Rattle.answers.specs.Paper.{Answer, accepted, refused}
use Rattle.answers.proofs.OneAnswer.{answer_unique}
use Rattle.findings.specs.declared.searching.SearchCounts.{SearchCounts}
use Rattle.findings.specs.Searching.{Counts}
use Rattle.two_way.specs.declared.passes.TwoWayCounts.{TwoWayCounts as TwoWayCountsStruct}
use Rattle.two_way.specs.TwoWay.{TwoWayCounts, no_two_way_counts, answer_of, IsScannedTwoWay}

-- the struct that has these counts
abbrev struct_with : Counts → SearchCounts
struct_with c = record { found = c.found; looks = c.looks }

-- the `Result` for an answer
abbrev answer_back : Answer TwoWayCounts → Result TwoWayCountsStruct Refusal
answer_back (accepted counts) = Ok (record { forward = struct_with counts.forward; backward = struct_with counts.backward })
answer_back (refused refusal) = Err refusal

-- from its answer a `Result` is computed back
answer_back_lem : (r : Result TwoWayCountsStruct Refusal) → answer_back (answer_of r) ≡ r
answer_back_lem (Ok counts) = refl
answer_back_lem (Err refusal) = refl

-- Any two answers of `scan_two_way` are equal, and so are the words at exit.
pub two_way_unique : (ring line : List ℕ) (k : ℕ) (words : List ℕ) (r r' : Result TwoWayCountsStruct Refusal) (out out' : List ℕ) → IsScannedTwoWay ring line k words r out
    → IsScannedTwoWay ring line k words r' out' → (r ≡ r') × (out ≡ out')
two_way_unique ring line k words r r' out out' p p' = (
  sym (answer_back_lem r) ∙ ap answer_back (answer_unique no_two_way_counts (answer_of r) (answer_of r') (p.paper ∙ sym p'.paper)) ∙ answer_back_lem r',
  p.written ∙ sym p'.written,
)
