-- The loop of `count_ties`. Before turn r the ties are the number of rotations below r that have the given count; a turn adds 1 if rotation r has it. If the counts
-- are a start's tally and the given count is the least, these are the ties of that start.
use Prim.Native.Nat.{ℕ, ◌+◌, ◌≤◌, ◌<◌, min}
use mathlib.Core.Path.{◌≡◌, refl, ap, ◌∙◌}
use mathlib.Core.Bool.{Bool, true, false, cond}
use mathlib.Core.List.{List}
use native.Mathlib.Nat.{zero-add}
use native.Mathlib.Numerals.{add-one}
use native.Mathlib.Omega.{arith}
use lib.Dec.{eqb, ltb}
use lib.ListN.{length, get_or, take}
use mir.Val.{bool_byte}
use Rattle.std.proofs.lemmas.List.{length-take, get_or-take}
use borrow.Author.Tests.{lt-ltb, le-ltb}
use Rattle.meaning.specs.Counting.{one_if, count}
use Rattle.meaning.specs.Meanings.{reaches, rotations_reaching}
use Rattle.meaning.proofs.Count.{one_if_le, count_last, count_same}
use Rattle.tally.specs.Counts.{most_counts, last_count, count_is, ties_with, IsTies}
use Rattle.tally.specs.Tallied.{Tallied}

-- The invariant before turn r: `ties` of the rotations below r have the count.
pub record TiesSoFar (counts : List ℕ) (least ties r : ℕ) : Type 0 where
  pub ties_are : ties ≡ count (count_is counts least) 0 r
  pub ties_le : ties ≤ r

-- The byte of a test is 1 if the test is true, else 0.
byte_is : (b : Bool) → bool_byte b ≡ one_if b
byte_is true = refl
byte_is false = refl

-- The comparison of the count at r adds 1 if rotation r has the count.
pub one_tie : (counts : List ℕ) (least r : ℕ) {wanted one : ℕ} → wanted ≡ least → one ≡ bool_byte (eqb (get_or counts r 0) wanted) → one ≡ one_if (count_is counts least r)
one_tie counts least r same compared = compared ∙ byte_is _ ∙ rw same refl

module _ {counts : List ℕ} {least : ℕ} where
  -- Before the first turn there are no ties.
  pub ties_start : TiesSoFar counts least 0 0
  unfolding count
  ties_start = record { ties_are = refl; ties_le = omega arith }

  module _ {ties r : ℕ} (so_far : TiesSoFar counts least ties r) where
    -- Turn r adds 1 if rotation r has the count.
    pub ties_turn : {one : ℕ} → one ≡ one_if (count_is counts least r) → TiesSoFar counts least (ties + one) (r + 1)
    ties_turn {one} is = record {
      ties_are = omega (
        arith,
        so_far.ties_are,
        is,
        ap (count (count_is counts least) 0) (add-one r),
        count_last (count_is counts least) 0 r,
        ap (λ (s : ℕ). one_if (count_is counts least s)) (zero-add r),
      );
      ties_le = omega (arith, so_far.ties_le, is, one_if_le (count_is counts least r));
    }

    -- After the last turn the contract of `count_ties` is met, if the given count fits sixteen bits.
    pub ties_end : least ≤ last_count → length counts ≤ most_counts → r ≡ length counts → IsTies (length counts) counts least ties
    unfolding ties_with
    ties_end small most last =
        let all : min (length counts) most_counts ≡ length counts = omega arith in
        record { is = rw (le-ltb last_count least small, all) (so_far.ties_are ∙ ap (count (count_is counts least) 0) last) }

  -- If the given count is above 65,535, no rotation has it, so there are no ties.
  pub ties_none : {m : ℕ} → last_count < least → IsTies m counts least 0
  unfolding ties_with
  ties_none large = record { is = rw (lt-ltb last_count least large) refl }

-- `finding_at` may cut the counts at m, or at 256 if m is above that: as many of the first counts alone have the given count.
pub ties_of_cut : (m : ℕ) {all ties : ℕ} (counts : List ℕ) (least : ℕ) → all ≡ min m most_counts → all ≤ length counts
    → IsTies (length (take all counts)) (take all counts) least ties → ties ≡ ties_with m counts least
unfolding ties_with
ties_of_cut m {all} counts least all_is room cut =
    let long : min (length (take all counts)) most_counts ≡ all = omega (arith, length-take all counts) in
    cut.is
    ∙ ap (cond (ltb last_count least) 0)
    (ap (count (count_is (take all counts) least) 0) long
    ∙ count_same (count_is (take all counts) least) (count_is counts least) 0 all (λ r _ l. ap (λ (n : ℕ). eqb n least) (get_or-take all counts r 0 (omega arith)))
    ∙ ap (count (count_is counts least) 0) all_is)

-- If `least` is at most 65,535, as many counts of start i's tally are `least` as rotations reach the distance `least`.
pub tallied_ties : {ring line : List ℕ} {i : ℕ} {counts : List ℕ} (least : ℕ) → least ≤ last_count → length ring ≤ most_counts → Tallied ring line i counts
    → ties_with (length ring) counts least ≡ rotations_reaching ring line i least
unfolding ties_with rotations_reaching
tallied_ties {ring} {line} {i} {counts} least small most tallied =
    let all : min (length ring) most_counts ≡ length ring = omega arith in
    rw (le-ltb last_count least small, all)
    (count_same (count_is counts least) (reaches ring line i least) 0 (length ring)
    (λ r lo hi. ap (λ (d : ℕ). eqb d least) (tallied.each r (omega arith))))
