-- Counts of differing edges, one for each rotation. A window is counted afresh by comparing its edges with those of every rotation. The rotations are read off
-- the doubled ring, so no comparison takes a place mod m. Then the least count is found, the lowest rotation that has it, and how many have it.
--
--   most_counts, last_count      256: one count for each rotation of the longest ring; 65,535: the largest number that a count can hold
--   last_part_count              255: the largest number that a count over a part of a window can hold
--   least_of                     the least of the first m counts
--   lowest_from, lowest_with     the lowest rotation that has a given count
--   count_is, ties_with          whether a rotation has a given count; how many rotations have it
--   doubled_edge, doubled_ring   the ring twice, end to end: rotation r is its m edges from place r on
--   differs_there, afresh_count  the number of places where a window and a rotation differ
--   afresh_counts                the counts after a fresh count: one for each rotation, the others kept
--   can_count, CanCount          whether a window can be counted: the test, and the same as facts
--   TallyResult, counted_to      the result of a fresh count: the counts, their least, the looks
--   counted_past                 the place just past the last mark of a counted window
--   finding_with                 the finding at a start with a given least count
--   IsComparison, IsDoubled, IsCounted, IsFindingAt   the contracts of `differing`, `double`, `count_afresh` and `finding_at`
--   differs_over, run_counted    whether one of some neighbouring window edges differs from a rotation's edge over it; the count of a rotation after them
--   IsLowestWith, IsTies, HasCounts, IsLeast, CanCountOn, IsCountedOn, IsPartEnd, CanAddPart, IsCountedAfresh   preconditions and contracts of private functions
use Rattle.std.specs.Prelude.{ℕ, zero, suc, ◌+◌, ◌-◌, ◌*◌, ◌%◌, ◌≤◌, ◌<◌, min, ◌≡◌, Bool, cond, ◌&&◌, List, ltb, leb, eqb, length, get_or}
use Rattle.lists.specs.ByPlace.{list_of, stored_first, StoredFirst}
use Rattle.answers.specs.declared.places.LinePlace.{LinePlace}
use Rattle.findings.specs.declared.searching.Finding.{Finding as FindingStruct}
use Rattle.meaning.specs.Counting.{one_if, count, lowest}
use Rattle.meaning.specs.Meanings.{unequal}
use Rattle.meaning.specs.Looks.{afresh_looks}
use Rattle.findings.specs.Admitting.{most_ring}
use Rattle.tally.specs.declared.afresh.Fresh.{Fresh}
use Rattle.tally.specs.declared.afresh.EdgesCounted.{EdgesCounted}
use Rattle.tally.specs.Marks.{past_mark}

-- The number of counts: one for each rotation of the longest ring.
abbrev pub most_counts : ℕ
most_counts = most_ring

-- The largest number that a count can hold: it has sixteen bits.
abbrev pub last_count : ℕ
last_count = 65535

-- The largest number that a count over a part of a window can hold: it has eight bits.
abbrev pub last_part_count : ℕ
last_part_count = 255

-- The least of the first m counts. (With m = 0 it is the first count.)
unfoldable pub least_of : ℕ → List ℕ → ℕ
least_of m counts = get_or counts (lowest (λ r. get_or counts r 0) m) 0

-- The lowest of the n rotations from r on whose count is `least`; r + n if none has it.
unfoldable pub lowest_from : List ℕ → ℕ → ℕ → ℕ → ℕ
lowest_from counts least zero r = r
lowest_from counts least (suc n) r =
    let later : ℕ = lowest_from counts least n (r + 1) in
    cond (eqb (get_or counts r 0) least) r later

-- The lowest of the first m rotations whose count is `least`; m if none has it. There are 256 counts, so a larger m is taken as 256.
abbrev pub lowest_with : ℕ → List ℕ → ℕ → ℕ
lowest_with m counts least = lowest_from counts least (min m most_counts) 0

-- Whether the count of rotation r is `least`.
abbrev pub count_is : List ℕ → ℕ → ℕ → Bool
count_is counts least r = eqb (get_or counts r 0) least

-- How many of the first m rotations have the count `least`. There are 256 counts, so a larger m is taken as 256. A `least` above 65,535 gives 0: no count is that
-- large.
unfoldable pub ties_with : ℕ → List ℕ → ℕ → ℕ
ties_with m counts least =
    let ties : ℕ = count (count_is counts least) 0 (min m most_counts) in
    cond (ltb last_count least) 0 ties

-- The edge at place p of the ring twice, end to end; 0 past the second ring. For a ring of more than 256 edges it is 0 everywhere.
unfoldable pub doubled_edge : List ℕ → ℕ → ℕ
doubled_edge ring p = cond (leb (length ring) most_counts && ltb p (2 * length ring)) (get_or ring (p % length ring) 0) 0

-- The ring twice, end to end, followed by zeros: 512 places, the longest ring twice.
abbrev pub doubled_ring : List ℕ → List ℕ
doubled_ring ring = list_of (2 * most_counts) (doubled_edge ring)

-- Window and rotation r differ at place q. The edge of rotation r at q is that of the doubled ring at q + r.
abbrev pub differs_there : List ℕ → List ℕ → ℕ → ℕ → Bool
differs_there doubled window r q = unequal (get_or window q 0) (get_or doubled (q + r) 0)

-- "the number of places where window and rotation r differ", counted over the doubled ring.
unfoldable pub afresh_count : List ℕ → List ℕ → ℕ → ℕ
afresh_count doubled window r = count (differs_there doubled window r) 0 (length window)

-- The counts after a fresh count of a window of m edges: count r is that of rotation r for r below m, and the others are kept.
abbrev pub afresh_counts : List ℕ → List ℕ → List ℕ → List ℕ
afresh_counts doubled window old = stored_first (length window) (afresh_count doubled window) old

-- Whether a window of m edges can be counted with `room` counts and a doubled ring of `long` edges: m is 1 to 256, there are at least m counts, and the doubled
-- ring has at least 2·m edges.
unfoldable pub can_count : ℕ → ℕ → ℕ → Bool
can_count m room long = (ltb 0 m && leb m most_counts) && (leb m room && leb (2 * m) long)

-- The result of computing a tally: the counts, their least, the looks.
pub record TallyResult : Type 0 where
  pub counts : List ℕ
  pub least : ℕ
  pub looks : ℕ

-- The result of a fresh count of a window, at m·m looks. If the window cannot be counted, no count changes, and least and looks are 0.
unfoldable pub counted_to : List ℕ → List ℕ → List ℕ → TallyResult
counted_to doubled window old =
    let new : List ℕ = afresh_counts doubled window old in
    let counted : TallyResult = record { counts = new; least = least_of (length window) new; looks = afresh_looks (length window) } in
    let unchanged : TallyResult = record { counts = old; least = 0; looks = 0 } in
    cond (can_count (length window) (length old) (length doubled)) counted unchanged

-- The contract of `differing`: it returns 1 if the two edges differ, else 0.
pub record IsComparison (a b r : ℕ) : Type 0 where
  pub is : r ≡ one_if (unequal a b)

-- The contract of `double`: at exit the lent array is the doubled ring.
pub record IsDoubled (ring doubled : List ℕ) : Type 0 where
  pub is : doubled ≡ doubled_ring ring

-- The place just past the last mark of a window that is counted; 0 if the window cannot be counted.
unfoldable pub counted_past : List ℕ → List ℕ → List ℕ → ℕ
counted_past doubled window old = cond (can_count (length window) (length old) (length doubled)) (past_mark window 0 (length window)) 0

-- The contract of `count_afresh`: `old` are the counts at entry, `new` those at exit, `z` is the returned struct.
pub record IsCounted (doubled window old new : List ℕ) (z : Fresh) : Type 0 where
  pub written : new ≡ (counted_to doubled window old).counts
  pub least_is : z.least ≡ (counted_to doubled window old).least
  pub looks_are : z.looks ≡ (counted_to doubled window old).looks
  pub past_is : z.past ≡ counted_past doubled window old

-- "It carries start, rotation, distance: the least distance, and the lowest r that reaches it", and how many reach it: the finding at a start, given its counts
-- and the least of them.
unfoldable pub finding_with : ℕ → List ℕ → LinePlace → ℕ → FindingStruct
finding_with m counts start least =
    record { start = start; rotation = record { 0 = lowest_with m counts least }; distance = least; ties = ties_with m counts least }

-- The contract of `finding_at`, which returns f.
pub record IsFindingAt (m : ℕ) (counts : List ℕ) (start : LinePlace) (least : ℕ) (f : FindingStruct) : Type 0 where
  pub is : f ≡ finding_with m counts start least

-- From here on: preconditions and contracts of private functions.

-- The contract of `lowest_rotation`; r is the number of the ring place that it returns.
pub record IsLowestWith (m : ℕ) (counts : List ℕ) (least r : ℕ) : Type 0 where
  pub is : r ≡ lowest_with m counts least

-- The contract of `count_ties`, which returns `ties`.
pub record IsTies (m : ℕ) (counts : List ℕ) (least ties : ℕ) : Type 0 where
  pub is : ties ≡ ties_with m counts least

-- A ring of m edges, 1 to 256, has a count for each of its rotations among `counts` counts.
pub record HasCounts (m counts : ℕ) : Type 0 where
  pub some_edge : 0 < m
  pub most : m ≤ most_counts
  pub room : m ≤ counts

-- What `can_count` tests, as facts: a window of m edges can be counted with `room` counts and a doubled ring of `long` edges.
pub record CanCount (m room long : ℕ) : Type 0 where
  pub has_counts : HasCounts m room
  pub twice : 2 * m ≤ long

-- Of some neighbouring window edges, edge e differs from rotation r's edge over it. `place` is the ring place that rotation 0 has over the first, so over edge e
-- rotation r has the doubled ring's edge at place + e + r.
abbrev pub differs_over : List ℕ → List ℕ → ℕ → ℕ → ℕ → Bool
differs_over doubled edges place r e = unequal (get_or edges e 0) (get_or doubled (place + e + r) 0)

-- The count of rotation r after n neighbouring window edges more; `place` as above.
abbrev pub run_counted : List ℕ → List ℕ → ℕ → List ℕ → ℕ → ℕ → ℕ
run_counted doubled old place edges n r = get_or old r 0 + count (differs_over doubled edges place r) 0 n

-- `least` is the least of the first m counts: none of them is below it, and the one at `place` equals it.
pub record IsLeast (m : ℕ) (counts : List ℕ) (least : ℕ) : Type 0 where
  pub le : (r : ℕ) → r < m → least ≤ get_or counts r 0
  pub place : ℕ
  pub place_lt : place < m
  pub is : get_or counts place 0 ≡ least

-- The precondition of `count_run`, `count_some` and `count_part`: a window can be counted and has an edge at q, before `end`; each of its counts plus the number of
-- edges from q to `end` is at most `last`, the largest number that a count can hold (255 in the first two, 65,535 in `count_part`); and `past` is the place just past
-- the last mark of its first q edges. For `count_part` `end` is the window's end.
pub record CanCountOn (doubled window counts : List ℕ) (last q end past : ℕ) : Type 0 where
  pub can : CanCount (length window) (length counts) (length doubled)
  pub has_edge : q < end
  pub end_le : end ≤ length window
  pub each_le : (r : ℕ) → r < length window → get_or counts r 0 + (end - q) ≤ last
  pub past_is : past ≡ past_mark window 0 q

-- The contract of `count_run`, `count_some` and `count_part`: the next `edges` edges of the window are counted, from place q on, at least one, and none from `end`
-- on. The count of each rotation grows by the number of these places where it differs from the window. Each edge costs m looks. `past` is the place just past the last
-- mark up to there. `old` and `new` are the counts at entry and exit, z is returned.
pub record IsCountedOn (doubled window : List ℕ) (q end : ℕ) (old new : List ℕ) (z : EdgesCounted) : Type 0 where
  pub some : 0 < z.edges
  pub within : q + z.edges ≤ end
  pub stored : StoredFirst (length window) (λ r. get_or old r 0 + count (differs_there doubled window r) q z.edges) old new
  pub looks_are : z.looks ≡ z.edges * length window
  pub past_is : z.past ≡ past_mark window 0 (q + z.edges)

-- The contract of `part_end`: the part of a window of m edges that begins at `from` ends at `end`. It has an edge, and at most as many as its counts can hold.
pub record IsPartEnd (from m end : ℕ) : Type 0 where
  pub some : from < end
  pub end_le : end ≤ m
  pub fits : end ≤ from + last_part_count

-- The precondition of `add_part`: there are as many counts as in the part, and sixteen bits hold each sum.
pub record CanAddPart (counts part : List ℕ) : Type 0 where
  pub size : length counts ≡ length part
  pub each_le : (r : ℕ) → r < length part → get_or counts r 0 + get_or part r 0 ≤ last_count

-- The contract of `count_edges`: a window that can be counted is counted afresh, at m·m looks. `old` and `new` are the counts at entry and exit, z is returned.
pub record IsCountedAfresh (doubled window old new : List ℕ) (z : Fresh) : Type 0 where
  pub written : new ≡ afresh_counts doubled window old
  pub least_is : z.least ≡ least_of (length window) (afresh_counts doubled window old)
  pub looks_are : z.looks ≡ afresh_looks (length window)
  pub past_is : z.past ≡ past_mark window 0 (length window)
