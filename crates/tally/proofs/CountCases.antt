-- Whether a window can be counted. The test `can_count` is a conjunction of comparisons, and the record `CanCount` states the same (`can_count_iff`). So a window
-- that passes meets the precondition of `count_edges`, and the two returns of `count_afresh` are the two cases of its contract.
use Prim.Native.Nat.{ℕ, ◌*◌}
use mathlib.Core.Path.{◌≡◌, refl}
use mathlib.Core.Bool.{Bool, true, false}
use mathlib.Core.List.{List}
use mathlib.Core.Logic.{◌↔◌}
use lib.ListN.{length}
use Rattle.tally.specs.declared.afresh.Fresh.{Fresh}
use Rattle.tally.specs.Counts.{most_counts, can_count, counted_to, counted_past, CanCount, IsCountedAfresh, IsCounted}
use Rattle.lists.proofs.SizesTested.{lt_iff, le_iff, and_iff}

-- The test `can_count` passes exactly when the window can be counted.
pub can_count_iff : (m room long : ℕ) → (can_count m room long ≡ true) ↔ CanCount m room long
unfolding can_count
can_count_iff m room long =
    let all = and_iff (and_iff (lt_iff 0 m) (le_iff m most_counts)) (and_iff (le_iff m room) (le_iff (2 * m) long)) in (
      λ e. let is = all.0 e in record { has_counts = record { some_edge = is.0.0; most = is.0.1; room = is.1.0 }; twice = is.1.1 },
      λ can. all.1 ((can.has_counts.some_edge, can.has_counts.most), (can.has_counts.room, can.twice)),
    )

module _ (doubled window old : List ℕ) where
  abbrev test : Bool
  test = can_count (length window) (length old) (length doubled)

  -- If the test `can_count` passes and the window is counted afresh, the contract of `count_afresh` is met.
  pub counted_yes : (new : List ℕ) (z : Fresh) → test ≡ true → IsCountedAfresh doubled window old new z → IsCounted doubled window old new z
  unfolding counted_to counted_past
  counted_yes new z passed counted = record {
    written = rw passed counted.written;
    least_is = rw passed counted.least_is;
    looks_are = rw passed counted.looks_are;
    past_is = rw passed counted.past_is;
  }

  -- If the test `can_count` fails, leaving the counts as they were and returning zeros meets the contract of `count_afresh`.
  pub counted_no : test ≡ false → IsCounted doubled window old old (record { least = 0; looks = 0; past = 0 })
  unfolding counted_to counted_past
  counted_no failed = record { written = rw failed refl; least_is = rw failed refl; looks_are = rw failed refl; past_is = rw failed refl }
