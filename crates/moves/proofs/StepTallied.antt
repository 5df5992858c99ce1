-- A step turns the tally of start i into the tally of start i + 1: the first edge of the window at i leaves, and the last edge of the window at i + 1 enters
-- (`distance_step` of crates/meaning). No count wraps: a count that loses 1 is at least 1, because the leaving edge's comparison is one of those counted, and no
-- count is above 256.
use Prim.Native.Nat.{ℕ, suc, ◌+◌, ◌-◌, ◌%◌, ◌≤◌, ◌<◌}
use mathlib.Core.Path.{◌≡◌, ap, ◌∙◌}
use mathlib.Core.List.{List}
use native.Mathlib.Nat.{add-zero, mod-lt, mod-eq_of_lt}
use native.Mathlib.Omega.{arith}
use lib.ListN.{length, get_or}
use Rattle.meaning.specs.Counting.{one_if, count}
use Rattle.meaning.specs.Meanings.{window_edge, unequal, differs, distance}
use Rattle.meaning.proofs.Count.{count_le, one_if_le}
use Rattle.meaning.proofs.TallyStep.{distance_step}
use Rattle.tally.specs.Counts.{most_counts}
use Rattle.moves.specs.Moves.{changed_at, earlier, stepped_counts}
use Rattle.tally.specs.Tallied.{Tallied}
use Rattle.lists.proofs.StoreLoop.{stored_first_length, stored_first_at}
use Rattle.moves.proofs.NextRotation.{every_next, earlier_next}

module _ (ring line : List ℕ) (i : ℕ) where
  abbrev m : ℕ
  m = length ring

  -- The leaving edge's comparison is one of those that the distance counts.
  leaving_le : (r : ℕ) → r < m → one_if (unequal (window_edge line i 0) (get_or ring r 0)) ≤ distance ring line i r
  unfolding distance count differs
  leaving_le r l =
      let whole : m ≡ suc (m - 1) = omega arith in
      omega (
        arith,
        ap (count (differs ring line i r) 0) whole,
        ap (λ (p : ℕ). one_if (unequal (window_edge line i 0) (get_or ring p 0))) (ap (λ (p : ℕ). p % m) (add-zero r) ∙ mod-eq_of_lt l),
      )

  -- A distance is at most m.
  distance_most : (r : ℕ) → distance ring line i r ≤ m
  unfolding distance
  distance_most r = count_le (differs ring line i r) 0 m

  module _ (counts : List ℕ) (most : m ≤ most_counts) (tallied : Tallied ring line i counts) where
    abbrev leaving : ℕ
    leaving = window_edge line i 0

    abbrev entering : ℕ
    entering = window_edge line (i + 1) (m - 1)

    -- The changed count of rotation r is the distance of start i + 1 under the next rotation.
    changed_distance : (r : ℕ) → r < m → changed_at ring leaving entering counts r ≡ distance ring line (i + 1) ((r + 1) % m)
    unfolding changed_at
    changed_distance r l =
        omega (
          arith,
          distance_step ring line i r l,
          tallied.each r l,
          leaving_le r l,
          distance_most r,
          one_if_le (unequal leaving (get_or ring r 0)),
          one_if_le (unequal entering (get_or ring r 0)),
        )

    -- If the counts are the tally of start i, the counts after a step are the tally of start i + 1.
    pub tallied_step : Tallied ring line (i + 1) (stepped_counts ring leaving entering counts)
    tallied_step = record {
      size = stored_first_length m _ counts ∙ tallied.size;
      each = every_next (λ (s : ℕ). get_or (stepped_counts ring leaving entering counts) s 0 ≡ distance ring line (i + 1) s) m
          (λ r l.
          stored_first_at m (λ s. changed_at ring leaving entering counts (earlier m s)) counts ((r + 1) % m) (mod-lt (r + 1) (omega arith))
          (omega (arith, tallied.size))
          ∙ ap (changed_at ring leaving entering counts) (earlier_next m r l)
          ∙ changed_distance r l);
    }
