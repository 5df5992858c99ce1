-- A fresh count of a start's window gives the start's tally. The doubled ring's edge at q + r is the ring's at (r + q) mod m, which is rotation r's at q. So each
-- count is the distance of the window, read as a line of its own from place 0 on, under its rotation. This is also its distance at its start in the line
-- (`alone_distance` of crates/meaning).
use Prim.Native.Nat.{ℕ, ◌+◌, ◌≤◌, ◌<◌}
use mathlib.Core.Path.{◌≡◌, sym, ap, ◌∙◌}
use mathlib.Core.Bool.{true}
use mathlib.Core.List.{List}
use native.Mathlib.Nat.{zero-add, add_comm}
use native.Mathlib.Omega.{arith}
use lib.ListN.{length, get_or}
use Rattle.meaning.specs.Counting.{count}
use Rattle.meaning.specs.Meanings.{FitsInLine, window as window_in, unequal, differs, distance}
use Rattle.meaning.specs.Looks.{afresh_looks}
use Rattle.meaning.proofs.Count.{count_same}
use Rattle.meaning.proofs.Windows.{window_edge_is, window_length}
use Rattle.meaning.proofs.WindowAlone.{alone_distance}
use Rattle.tally.specs.declared.afresh.Fresh.{Fresh}
use Rattle.tally.specs.Marks.{past_mark}
use Rattle.tally.specs.Counts.{most_counts, differs_there, afresh_count, afresh_counts, can_count, counted_to, counted_past, IsDoubled, IsCounted}
use Rattle.tally.specs.Tallied.{Verified}
use Rattle.tally.proofs.PastMark.{past_same}
use Rattle.lists.proofs.StoreLoop.{stored_first_length, stored_first_at}
use Rattle.tally.proofs.LeastIsOne.{least_of_is}
use Rattle.tally.proofs.DoubledLoop.{doubled_edge_lem, doubled_length}
use Rattle.tally.proofs.CountCases.{can_count_iff}

module _ (ring doubled window : List ℕ) (some : 0 < length ring) (most : length ring ≤ most_counts) (twice : IsDoubled ring doubled)
    (long : length window ≡ length ring) where
  abbrev m : ℕ
  m = length ring

  -- Window and rotation r differ at q over the doubled ring exactly when they do over the ring.
  there_differs : (r q : ℕ) → r < m → q < m → differs_there doubled window r q ≡ differs ring window 0 r q
  unfolding differs
  there_differs r q below in_window =
      rw (zero-add q, add_comm r q) (ap (unequal (get_or window q 0)) (doubled_edge_lem ring most doubled twice (q + r) (omega arith)))

  -- The fresh count of rotation r is the distance of the window under r.
  count_distance : (r : ℕ) → r < m → afresh_count doubled window r ≡ distance ring window 0 r
  unfolding afresh_count distance
  count_distance r below =
      ap (count (differs_there doubled window r) 0) long
      ∙ count_same (differs_there doubled window r) (differs ring window 0 r) 0 m (λ q _ h. there_differs r q below (omega arith))

  -- The window can be counted.
  can_be : (old : List ℕ) → length old ≡ most_counts → can_count (length window) (length old) (length doubled) ≡ true
  can_be old size =
      (can_count_iff (length window) (length old) (length doubled)).1
      (record { has_counts = record { some_edge = omega (arith, long); most = omega (arith, long); room = omega (arith, long) }; twice = omega (arith, long, doubled_length ring doubled twice) })

  -- The window, as a line of its own, is verified at start 0.
  afresh_verified : (old new : List ℕ) (z : Fresh) → length old ≡ most_counts → IsCounted doubled window old new z
      → Verified ring window 0 (afresh_looks m) new z.least z.looks
  unfolding counted_to
  afresh_verified old new z size counted =
      let can = can_be old size in
      let is : new ≡ afresh_counts doubled window old = rw can at counted.written in
      record {
        tallied = record {
          size = ap length is ∙ stored_first_length _ _ old ∙ size;
          each = λ r l. ap (λ (xs : List ℕ). get_or xs r 0) is
              ∙ stored_first_at (length window) (afresh_count doubled window) old r (omega (arith, long)) (omega (arith, long, most))
              ∙ count_distance r l;
        };
        least_is = rw (rw can at counted.least_is, is, sym long) (least_of_is (length window) (afresh_counts doubled window old) (omega (arith, long)));
        looks_are = (rw can at counted.looks_are) ∙ ap afresh_looks long;
      }

-- If the window of start i is counted afresh over the ring's double, start i is verified: the counts are its tally, `least` is their least, and m·m looks are taken.
pub counted_verified : (ring line : List ℕ) (i : ℕ) (doubled old new edges : List ℕ) (z : Fresh) → length old ≡ most_counts → 0 < length ring
    → length ring ≤ most_counts → IsDoubled ring doubled → FitsInLine ring line i → edges ≡ window_in (length ring) line i
    → IsCounted doubled edges old new z → Verified ring line i (afresh_looks (length ring)) new z.least z.looks
counted_verified ring line i doubled old new edges z size some most twice in_line handed counted =
    let long : length edges ≡ length ring = ap length handed ∙ window_length ring line i in_line in
    let alone = afresh_verified ring doubled edges some most twice long old new z size counted in
    record {
      tallied = record {
        size = alone.tallied.size;
        each = λ r l. alone.tallied.each r l ∙ ap (λ (xs : List ℕ). distance ring xs 0 r) handed ∙ alone_distance ring line i r;
      };
      least_is = alone.least_is;
      looks_are = alone.looks_are;
    }

-- If the window at place 0 of the line is counted afresh, the place just past its last mark is that of the line's first m edges.
pub counted_past_lem : (ring line doubled old new edges : List ℕ) (z : Fresh) → length old ≡ most_counts → 0 < length ring → length ring ≤ most_counts
    → IsDoubled ring doubled → FitsInLine ring line 0 → edges ≡ window_in (length ring) line 0 → IsCounted doubled edges old new z → z.past ≡ past_mark line 0 (length ring)
unfolding counted_past
counted_past_lem ring line doubled old new edges z size some most twice in_line handed counted =
    let long : length edges ≡ length ring = ap length handed ∙ window_length ring line 0 in_line in
    rw (can_be ring doubled edges some most twice long old size) at counted.past_is
    ∙ ap (past_mark edges 0) long
    ∙ past_same edges line (length ring) (λ p l. ap (λ (xs : List ℕ). get_or xs p 0) handed ∙ window_edge_is (length ring) line 0 p l ∙ ap (λ (q : ℕ). get_or line q 0) (zero-add p))
