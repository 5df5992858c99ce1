-- A start's tally decides whether it is a finding. Its counts are the distances, so the least count is the least distance, the lowest rotation with that count is the
-- lowest that reaches it, and as many rotations have that count as reach it (`tallied_finding`). So a start is a finding exactly when its least count is at most k.
use Prim.Native.Nat.{ℕ, ◌≤◌, ◌<◌}
use mathlib.Core.Path.{◌≡◌, sym, ap, ◌∙◌}
use mathlib.Core.List.{List, [], ◌∷◌}
use native.Mathlib.Omega.{arith}
use lib.ListN.{length, get_or}
use Rattle.meaning.specs.Counting.{lowest}
use Rattle.meaning.specs.Meanings.{IsStart, distance, lowest_rotation, least_distance, rotations_reaching, ties}
use Rattle.meaning.specs.Findings.{Finding, finding_at, found_at}
use Rattle.meaning.proofs.Lowest.{lowest_is, lowest_unique}
use Rattle.meaning.proofs.Places.{distance_le, lowest_rotation_is, found_yes, found_no}
use Rattle.findings.specs.declared.searching.Finding.{Finding as FindingStruct}
use Rattle.findings.specs.Putting.{finding_of}
use Rattle.tally.specs.Counts.{most_counts, last_count, least_of, ties_with, finding_with, IsLeast, IsFindingAt}
use Rattle.tally.specs.Tallied.{Tallied}
use Rattle.tally.proofs.LeastIsOne.{least_of_only}
use Rattle.tally.proofs.LowestLoop.{lowest_least}
use Rattle.tally.proofs.TiesLoop.{tallied_ties}

module _ (ring line : List ℕ) (k i : ℕ) (counts : List ℕ) (least : ℕ) (pos : 0 < length ring)
    (t : Tallied ring line i counts) (l : IsLeast (length ring) counts least) where
  -- The lowest rotation at which the counts are least.
  abbrev place : ℕ
  place = lowest (λ r. get_or counts r 0) (length ring)

  -- The counts are the distances, so it is the lowest rotation that reaches the least distance.
  rotation_is : place ≡ lowest_rotation ring line i
  rotation_is =
      let low = lowest_is (λ (r : ℕ). get_or counts r 0) (length ring) pos in
      let here = t.each place low.below in
      lowest_unique (distance ring line i) (length ring) place (lowest_rotation ring line i)
      (record {
        below = low.below;
        least = λ s b. omega (arith, here, low.least s b, t.each s b);
        first = λ s b. omega (arith, here, low.first s b, t.each s (omega (arith, low.below)));
      })
      (lowest_rotation_is ring line pos i)

  -- The least count is the least distance.
  pub least_is : least ≡ least_distance ring line i
  unfolding least_of
  least_is =
      least_of_only (length ring) counts least l
      ∙ t.each place (lowest_is (λ (r : ℕ). get_or counts r 0) (length ring) pos).below
      ∙ ap (distance ring line i) rotation_is

  -- If the least count is above k, the start is no finding.
  pub least_no : k < least → found_at ring line k i ≡ []
  least_no h = found_no ring line k i (omega (arith, least_is))

  -- What `finding_with` makes of a start's tally and its least count is the finding at that start.
  pub tallied_finding : length ring ≤ most_counts → finding_of (finding_with (length ring) counts (record { 0 = i }) least) ≡ finding_at ring line i
  unfolding finding_with
  tallied_finding most =
      let near : least_distance ring line i ≤ length ring = distance_le ring line i (lowest_rotation ring line i) in
      let small : least ≤ last_count = omega (arith, least_is, near) in
      let tied : ties_with (length ring) counts least ≡ ties ring line i = tallied_ties least small most t ∙ ap (rotations_reaching ring line i) least_is in
      λ j. record { start = i; rotation = (lowest_least counts least most l ∙ rotation_is) j; distance = least_is j; ties = tied j }

  -- If the least count of a start is at most k, the finding at that start is the one that `finding_at` returns.
  pub least_yes : (f : FindingStruct) → length ring ≤ most_counts → IsFindingAt (length ring) counts (record { 0 = i }) least f → IsStart ring line i → least ≤ k
      → found_at ring line k i ≡ finding_of f ∷ []
  least_yes f most found start h =
      found_yes ring line k i start (omega (arith, least_is))
      ∙ ap (λ (g : Finding). g ∷ []) (sym (ap finding_of found.is ∙ tallied_finding most))
