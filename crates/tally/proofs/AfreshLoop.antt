-- The two loops of the fresh count. A turn counts some edges more, for every rotation (`IsCountedOn`): in `count_part` one or four, in `count_edges` a part. Each loop
-- begins with zeros, at a place `from`. When the edges from there to q are counted, the count of rotation r is the number of these places where it differs from the
-- window. So a count is at most q - from, and eight bits hold those of a part. The looks are (q - from)·m. The place just past the last mark is that of the first q edges.
use Prim.Native.Nat.{ℕ, ◌+◌, ◌-◌, ◌*◌, ◌≤◌, ◌<◌}
use mathlib.Core.Path.{◌≡◌, refl, sym, ap, ◌∙◌}
use mathlib.Core.Bool.{Bool}
use mathlib.Core.List.{List, ◌++◌}
use native.Mathlib.Nat.{add-mul, mul-le-mul_left}
use native.Mathlib.Omega.{arith}
use lib.ListN.{length, take, drop, get_or, replicate, length-replicate, get_or-replicate}
use Rattle.std.proofs.lemmas.List.{length-take, get_or-take}
use Rattle.meaning.specs.Counting.{count}
use Rattle.meaning.proofs.Count.{count_split, count_le}
use Rattle.lists.specs.ByPlace.{StoredFirst}
use Rattle.lists.proofs.StoreLoop.{stored_again, stored_is}
use Rattle.tally.specs.declared.afresh.EdgesCounted.{EdgesCounted}
use Rattle.tally.specs.Marks.{past_mark}
use Rattle.tally.specs.Counts.{most_counts, last_count, differs_there, afresh_count, afresh_counts, CanCount, IsLeast, CanCountOn, IsCountedOn, IsPartEnd, CanAddPart, IsCountedAfresh}
use Rattle.tally.proofs.StoredFront.{stored_front}
use Rattle.tally.proofs.LeastIsOne.{least_of_only}

-- What a loop begins with: a window that can be counted, with an edge at `from`, before `end`, and with a 0 for each rotation.
pub record NoneCounted (doubled window zeros : List ℕ) (from end : ℕ) : Type 0 where
  pub can : CanCount (length window) (length zeros) (length doubled)
  pub has_edge : from < end
  pub end_le : end ≤ length window
  pub each : (r : ℕ) → r < length window → get_or zeros r 0 ≡ 0

-- The invariant of a loop over the edges from `from` to `end`, when those before q are counted: each of the m counts is that of these places, (q - from)·m looks are taken, and `past` is the
-- place just past the last mark before q.
pub record CountingAfresh (doubled window zeros : List ℕ) (from end : ℕ) (counts : List ℕ) (looks past q : ℕ) : Type 0 where
  pub from_le : from ≤ q
  pub turn_le : q ≤ end
  pub stored : StoredFirst (length window) (λ r. count (differs_there doubled window r) from (q - from)) zeros counts
  pub looks_are : looks ≡ (q - from) * length window
  pub looks_le : looks ≤ most_counts * (q - from)
  pub past_is : past ≡ past_mark window 0 q

-- A window that can be counted can be counted with any number of counts that is enough for its rotations.
with_room : {m room other long : ℕ} → CanCount m room long → m ≤ other → CanCount m other long
with_room can enough = record { has_counts = record { some_edge = can.has_counts.some_edge; most = can.has_counts.most; room = enough }; twice = can.twice }

-- Filling the first m counts with zeros stores a 0 at each of them.
pub cleared : (m : ℕ) {old zeros : List ℕ} → m ≤ length old → zeros ≡ replicate (length (take m old)) 0 → StoredFirst m (λ _. 0) old (zeros ++ drop m old)
cleared m {old} {zeros} room filled =
    let long : length zeros ≡ m = ap length filled ∙ length-replicate _ 0 ∙ omega (arith, length-take m old) in
    stored_front _ _ room long (λ r l. ap (λ (xs : List ℕ). get_or xs r 0) filled ∙ get_or-replicate _ r 0 0 (omega (arith, length-take m old)))

-- `count_edges` begins with the counts so cleared, at place 0.
pub edges_begin : {doubled window zeros : List ℕ} (old : List ℕ) → CanCount (length window) (length old) (length doubled) → zeros ≡ replicate (length (take (length window) old)) 0
    → NoneCounted doubled window (zeros ++ drop (length window) old) 0 (length window)
edges_begin {window = window} old can filled =
    let none = cleared (length window) {old = old} can.has_counts.room filled in
    record {
      can = with_room can (omega (arith, none.size, can.has_counts.room));
      has_edge = can.has_counts.some_edge;
      end_le = omega arith;
      each = none.first;
    }

-- `count_part` begins with an array of zeros. The part ends with the window at the latest (`IsPartEnd`).
pub part_begins : {doubled window counts : List ℕ} {last from past end : ℕ} → CanCountOn doubled window counts last from (length window) past
    → IsPartEnd from (length window) end → NoneCounted doubled window (replicate most_counts 0) from end
part_begins on ends = record {
  can = with_room on.can (omega (arith, on.can.has_counts.most, length-replicate {A = ℕ} most_counts 0));
  has_edge = ends.some;
  end_le = ends.end_le;
  each = λ r l. get_or-replicate most_counts r 0 0 (omega (arith, on.can.has_counts.most));
}

module _ {doubled window zeros : List ℕ} {from end : ℕ} (begin : NoneCounted doubled window zeros from end) where
  abbrev m : ℕ
  m = length window

  -- Before the first turn no edge is counted.
  pub counting_afresh_start : {past : ℕ} → past ≡ past_mark window 0 from → CountingAfresh doubled window zeros from end zeros 0 past from
  unfolding count
  counting_afresh_start past_is =
      let none : from - from ≡ 0 = omega arith in
      record {
        from_le = omega arith;
        turn_le = omega (arith, begin.has_edge);
        stored = record { size = refl; first = λ r l. rw none (begin.each r l); rest = λ r l. refl };
        looks_are = rw none (omega arith);
        looks_le = omega arith;
        past_is = past_is;
      }

  module _ {counts : List ℕ} {looks past q : ℕ} (known : CountingAfresh doubled window zeros from end counts looks past q) where
    -- In every turn the window can still be counted, because the number of counts does not change.
    pub counting_afresh_can : CanCount m (length counts) (length doubled)
    counting_afresh_can = with_room begin.can (omega (arith, known.stored.size, begin.can.has_counts.room))

    -- A count is at most the number of edges counted.
    counting_afresh_le : (r : ℕ) → r < m → get_or counts r 0 ≤ q - from
    counting_afresh_le r l = omega (arith, known.stored.first r l, count_le (differs_there doubled window r) from (q - from))

    -- The next edges can be counted, if a count can hold the number of edges from `from` to `end`.
    pub counting_afresh_on : {last : ℕ} → end ≤ from + last → q < end → CanCountOn doubled window counts last q end past
    counting_afresh_on fits h = record {
      can = counting_afresh_can;
      has_edge = h;
      end_le = begin.end_le;
      each_le = λ r l. omega (arith, known.from_le, counting_afresh_le r l);
      past_is = known.past_is;
    }

    -- A turn counts some edges from q on.
    pub counting_afresh_turn : {new : List ℕ} {z : EdgesCounted} → IsCountedOn doubled window q end counts new z
        → CountingAfresh doubled window zeros from end new (looks + z.looks) z.past (q + z.edges)
    counting_afresh_turn {new} {z} on =
        let here : from + (q - from) ≡ q = omega (arith, known.from_le) in
        let more : q + z.edges - from ≡ q - from + z.edges = omega (arith, known.from_le) in
        record {
          from_le = omega (arith, known.from_le);
          turn_le = on.within;
          stored = stored_again known.stored on.stored
              (λ r l.
              let differ : ℕ → Bool = differs_there doubled window r in
              rw (known.stored.first r l, more)
              (sym (count_split differ from (q - from) z.edges ∙ ap (λ (p : ℕ). count differ from (q - from) + count differ p z.edges) here)));
          looks_are = rw more (omega (arith, known.looks_are, on.looks_are, add-mul (q - from) z.edges m));
          looks_le = omega (arith, more, known.looks_le, on.looks_are, mul-le-mul_left z.edges begin.can.has_counts.most);
          past_is = on.past_is;
        }

    -- The part's counts can be added to those that `count_part` was given.
    pub counting_part_add : {old : List ℕ} {past₀ : ℕ} → CanCountOn doubled window old last_count from m past₀ → CanAddPart (take m old) (take m counts)
    counting_part_add {old} on =
        let long : length (take m counts) ≡ m = omega (arith, length-take m counts, counting_afresh_can.has_counts.room) in
        record {
          size = omega (arith, length-take m old, on.can.has_counts.room, long);
          each_le = λ r l.
              let below : r < m = omega (arith, long) in
              omega (
                arith,
                known.turn_le,
                begin.end_le,
                on.each_le r below,
                counting_afresh_le r below,
                get_or-take m old r 0 below,
                get_or-take m counts r 0 below,
              );
        }

    -- After the last turn of `count_part` the part's counts are added to the first m of those before it: its edges are counted.
    pub counting_part_end : {old sums : List ℕ} → m ≤ length old → end ≤ q
        → StoredFirst (length (take m counts)) (λ r. get_or (take m old) r 0 + get_or (take m counts) r 0) (take m old) sums
        → IsCountedOn doubled window from m old (sums ++ drop m old) (record { edges = end - from; looks = looks; past = past })
    counting_part_end {old} {sums} room h added =
        let long : length (take m counts) ≡ m = omega (arith, length-take m counts, counting_afresh_can.has_counts.room) in
        let part_edges : q - from ≡ end - from = omega (arith, known.turn_le) in
        let sum : (r : ℕ) → r < m → get_or sums r 0 ≡ get_or old r 0 + count (differs_there doubled window r) from (end - from) = λ r l.
        added.first r (omega (arith, long))
        ∙ rw (get_or-take m old r 0 l, get_or-take m counts r 0 l, known.stored.first r l, part_edges) refl in
        record {
          some = omega (arith, begin.has_edge);
          within = omega (arith, begin.has_edge, begin.end_le);
          stored = stored_front _ _ room (omega (arith, added.size, length-take m old)) sum;
          looks_are = known.looks_are ∙ ap (λ (n : ℕ). n * m) part_edges;
          past_is = known.past_is ∙ ap (past_mark window 0) (omega (arith, known.turn_le, begin.has_edge));
        }

-- After the last turn of `count_edges` the window is counted afresh, at m·m looks.
pub counting_afresh_end : {doubled window old cleared counts : List ℕ} {looks past q least : ℕ} → StoredFirst (length window) (λ _. 0) old cleared
    → CountingAfresh doubled window cleared 0 (length window) counts looks past q → length window ≤ q → IsLeast (length window) counts least
    → IsCountedAfresh doubled window old counts (record { least = least; looks = looks; past = past })
unfolding afresh_count
counting_afresh_end {doubled} {window} {old} {cleared} {counts} {looks} {past} {q} {least} none known h is_least =
    let m : ℕ = length window in
    let all : q ≡ m = omega (arith, known.turn_le) in
    let every_edge : q - 0 ≡ m = omega arith in
    let written : counts ≡ afresh_counts doubled window old = stored_is (stored_again none known.stored (λ r l. ap (count (differs_there doubled window r) 0) every_edge)) in
    record {
      written = written;
      least_is = least_of_only m (afresh_counts doubled window old) least (rw written at is_least);
      looks_are = known.looks_are ∙ ap (λ (n : ℕ). n * m) every_edge;
      past_is = known.past_is ∙ ap (past_mark window 0) all;
    }
