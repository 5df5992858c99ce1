-- `least_of` computes the least count, and the least is unique: no count is below it and one equals it, so of two such numbers neither is lower.
use Prim.Native.Nat.{ℕ, ◌≤◌, ◌<◌}
use mathlib.Core.Path.{◌≡◌, refl, sym, ◌∙◌}
use mathlib.Core.List.{List}
use native.Mathlib.Omega.{arith}
use lib.ListN.{length, take, get_or}
use Rattle.std.proofs.lemmas.List.{length-take, get_or-take}
use Rattle.meaning.specs.Counting.{lowest}
use Rattle.meaning.proofs.Lowest.{lowest_is}
use Rattle.tally.specs.Counts.{least_of, IsLeast}

module _ (m : ℕ) (counts : List ℕ) where
  -- For m of at least 1, `least_of` is the least of the first m counts.
  pub least_of_is : 0 < m → IsLeast m counts (least_of m counts)
  unfolding least_of
  least_of_is some =
      let low = lowest_is (λ (r : ℕ). get_or counts r 0) m some in
      record { le = low.least; place = lowest (λ (r : ℕ). get_or counts r 0) m; place_lt = low.below; is = refl }

  -- Two leasts of the same counts are equal.
  least_one : (a b : ℕ) → IsLeast m counts a → IsLeast m counts b → a ≡ b
  least_one a b x y = omega (arith, x.le y.place y.place_lt, y.le x.place x.place_lt, x.is, y.is)

  -- Every number that is the least of the first m counts equals `least_of`.
  pub least_of_only : (least : ℕ) → IsLeast m counts least → least ≡ least_of m counts
  least_of_only least is = least_one least (least_of m counts) is (least_of_is (omega (arith, is.place_lt)))

  -- The least of the first m counts alone is the least of the first m counts.
  pub least_of_cut : {least : ℕ} → m ≤ length counts → IsLeast (length (take m counts)) (take m counts) least → IsLeast m counts least
  least_of_cut room is =
      let long : length (take m counts) ≡ m = omega (arith, length-take m counts) in
      record {
        le = λ r l. omega (arith, is.le r (omega (arith, long)), get_or-take m counts r 0 l);
        place = is.place;
        place_lt = omega (arith, is.place_lt, long);
        is = sym (get_or-take m counts is.place 0 (omega (arith, is.place_lt, long))) ∙ is.is;
      }
