-- Lists whose numbers are all below a bound: the fact is built up number by number, from either end, and the test decides it.
use Prim.Native.Nat.{ℕ, zero, suc, ◌<◌}
use mathlib.Core.Path.{◌≡◌, refl}
use mathlib.Core.Bool.{true}
use mathlib.Core.Logic.Iff
use mathlib.Core.Logic.{◌↔◌}
use mathlib.Core.List.{List, [], ◌∷◌, ◌++◌}
use lib.ListN.{get_or}
use Rattle.lists.specs.Bounds.{AllBelow, all_below}
use Rattle.lists.proofs.SizesTested.{lt_iff, and_iff}

module _ {bound : ℕ} where
  -- The empty list is below every bound above 0.
  pub below_none : 0 < bound → AllBelow bound []
  below_none some = record { each_lt = λ i. some }

  -- A number below the bound can be added at the front.
  pub below_more : {number : ℕ} {numbers : List ℕ} → number < bound → AllBelow bound numbers → AllBelow bound (number ∷ numbers)
  below_more {number} {numbers} first others = record { each_lt = each }
    where
      each : (i : ℕ) → get_or (number ∷ numbers) i 0 < bound
      each zero = first
      each (suc i) = others.each_lt i

  -- The numbers after the first are below the bound too.
  below_rest : {number : ℕ} {numbers : List ℕ} → AllBelow bound (number ∷ numbers) → AllBelow bound numbers
  below_rest all = record { each_lt = λ i. all.each_lt (suc i) }

  -- A number below the bound can be added at the end.
  pub below_last : {number : ℕ} (numbers : List ℕ) → AllBelow bound numbers → number < bound → AllBelow bound (numbers ++ number ∷ [])
  below_last [] all last = below_more last all
  below_last (first ∷ numbers) all last = below_more (all.each_lt 0) (below_last numbers (below_rest all) last)

  -- If all numbers are below the bound, so is the last.
  pub last_below : {number : ℕ} (numbers : List ℕ) → AllBelow bound (numbers ++ number ∷ []) → number < bound
  last_below [] all = all.each_lt 0
  last_below (first ∷ numbers) all = last_below numbers (below_rest all)

-- For a bound above 0, the test `all_below` passes exactly when every number of the list is below the bound.
pub all_below_iff : (bound : ℕ) → 0 < bound → (numbers : List ℕ) → (all_below bound numbers ≡ true) ↔ AllBelow bound numbers
all_below_iff bound some [] = (λ e. below_none some, λ h. refl)
all_below_iff bound some (number ∷ numbers) =
    Iff.trans (and_iff (lt_iff number bound) (all_below_iff bound some numbers)) (
      λ h. below_more h.0 h.1,
      λ h. (h.each_lt 0, below_rest h),
    )
