-- `lowest_rotation` seeks the first place among the counts that has the given count. It is the lowest rotation that has it, or past the last one if none has it, and
-- this is `lowest_from`. If the given count is the least, this is the lowest rotation at which the counts are least.
use Prim.Native.Nat.{ℕ, zero, suc, ◌+◌, ◌-◌, ◌≤◌, ◌<◌, min}
use mathlib.Core.Path.{◌≡◌, refl, sym, ap, ◌∙◌}
use mathlib.Core.List.{List}
use mathlib.Core.Logic.{dite}
use native.Mathlib.Nat.{zero-add}
use native.Mathlib.Decide.{ℕ_discrete}
use native.Mathlib.Omega.{arith}
use lib.ListN.{length, take, get_or}
use Rattle.std.proofs.lemmas.List.{length-take, get_or-take}
use Rattle.std.specs.Prelude.{Option, None, Some, MatchOption}
use Rattle.std.specs.List.{AllWithin, HoldsAt}
use Rattle.std.specs.Option.{unwrap_or}
use borrow.Author.Tests.{eq-eqb, ne_eqb}
use Rattle.meaning.specs.Counting.{lowest}
use Rattle.meaning.proofs.Lowest.{lowest_is}
use Rattle.tally.specs.Counts.{most_counts, least_of, lowest_from, lowest_with, IsLowestWith, IsLeast}
use Rattle.tally.proofs.LeastIsOne.{least_of_only}

module _ (counts : List ℕ) (least : ℕ) where
  -- If of n rotations from a on the first d do not have the count, and the next one has it or there is no next one, then `lowest_from` is a + d.
  lowest_after : (n a d : ℕ) → d ≤ n → ((s : ℕ) → a ≤ s → s < a + d → get_or counts s 0 ≡ least → ⊥) → (d < n → get_or counts (a + d) 0 ≡ least)
      → lowest_from counts least n a ≡ a + d
  unfolding lowest_from
  lowest_after zero a d le none has = omega arith
  lowest_after (suc n) a d le none has = dite (ℕ_discrete d 0)
      (λ here.
      let there : a + d ≡ a = omega arith in
      rw (there, eq-eqb (get_or counts a 0) least (rw there at (has (omega arith)))) refl)
      (λ later.
      let there : a + 1 + (d - 1) ≡ a + d = omega (arith, later) in
      rw (ne_eqb (get_or counts a 0) least (none a (omega arith) (omega (arith, later))))
      (lowest_after n (a + 1) (d - 1) (omega arith) (λ s l h. none s (omega arith) (omega arith)) (λ l. rw there (has (omega arith))) ∙ there))

  -- The same from rotation 0 on.
  lowest_first : (n d : ℕ) → d ≤ n → ((s : ℕ) → s < d → get_or counts s 0 ≡ least → ⊥) → (d < n → get_or counts d 0 ≡ least) → lowest_from counts least n 0 ≡ d
  lowest_first n d le none has =
      lowest_after n 0 d le (λ s _ l. none s (omega arith)) (λ l. rw (zero-add d) (has l)) ∙ zero-add d

  -- If no rotation below r has the count, and r has it or is past the last rotation, then returning r meets the contract of `lowest_rotation`.
  seeking_ends : {r : ℕ} → length counts ≤ most_counts → r ≤ length counts → ((s : ℕ) → s < r → get_or counts s 0 ≡ least → ⊥)
      → (r < length counts → get_or counts r 0 ≡ least) → IsLowestWith (length counts) counts least r
  seeking_ends {r} most le none has =
      let all : min (length counts) most_counts ≡ length counts = omega arith in
      record { is = rw all (sym (lowest_first (length counts) r le none has)) }

  -- So if `position` found r as the first place among the counts that has the count, or none, then r, or the number of the counts if there is none, meets the
  -- contract of `lowest_rotation`.
  pub first_with : (r : Option ℕ) → length counts ≤ most_counts
      → MatchOption r (AllWithin (λ x. x ≡ least → ⊥) counts 0 (length counts))
      (λ i. (i < length counts) × HoldsAt (λ x. x ≡ least) counts i × AllWithin (λ x. x ≡ least → ⊥) counts 0 i)
      → IsLowestWith (length counts) counts least (unwrap_or r (length counts))
  first_with None most none = seeking_ends most (omega arith) (λ s l same. none s 0 (omega arith) l same) (λ l. absurd (omega arith))
  first_with (Some i) most found = seeking_ends most (omega (arith, found.0)) (λ s l same. found.2 s 0 (omega arith) l same) (λ l. found.1 0)

  -- Of the first n counts alone, the lowest rotation among them that has the count is the same.
  lowest_cut : (n k r : ℕ) → r + k ≤ n → lowest_from (take n counts) least k r ≡ lowest_from counts least k r
  unfolding lowest_from
  lowest_cut n zero r le = refl
  lowest_cut n (suc k) r le = rw (get_or-take n counts r 0 (omega arith), lowest_cut n k (r + 1) (omega arith)) refl

  -- So `finding_at` may cut the counts at m, or at 256 if m is above that.
  pub lowest_of_cut : (m : ℕ) {all r : ℕ} → all ≡ min m most_counts → all ≤ length counts → IsLowestWith (length (take all counts)) (take all counts) least r
      → r ≡ lowest_with m counts least
  lowest_of_cut m {all} all_is room cut =
      let long : min (length (take all counts)) most_counts ≡ all = omega (arith, length-take all counts) in
      cut.is
      ∙ ap (λ (n : ℕ). lowest_from (take all counts) least n 0) long
      ∙ lowest_cut all all 0 (omega arith)
      ∙ ap (λ (n : ℕ). lowest_from counts least n 0) all_is

  -- For m of at most 256 and the least of the first m counts, `lowest_with` is the lowest rotation at which the counts are least.
  pub lowest_least : {m : ℕ} → m ≤ most_counts → IsLeast m counts least → lowest_with m counts least ≡ lowest (λ r. get_or counts r 0) m
  unfolding least_of
  lowest_least {m} most is_least =
      let all : min m most_counts ≡ m = omega arith in
      let place : ℕ = lowest (λ r. get_or counts r 0) m in
      let low = lowest_is (λ (r : ℕ). get_or counts r 0) m (omega (arith, is_least.place_lt)) in
      let is : least ≡ get_or counts place 0 = least_of_only m counts least is_least in
      rw all (lowest_first m place (omega (arith, low.below)) (λ s l same. omega (arith, low.first s l)) (λ _. sym is))
