-- The counts moved along the line, a step at a time, whatever they hold. Rule 5: "it moves s steps, each 2·m looks (the leaving and the entering edge,
-- each against m ring edges)". A move may also end early, at the first start whose least count is below a given bound: the survey moves on to the next
-- place whose least count is at most k. Windows come from the line and its join area, the parts p; n is the length of the whole line (specs/Windows.antt of
-- crates/windows).
--
--   sixteen_bits                2^16, the number of values of a count
--   changed_count, changed_at   count − (leaving edge differs) + (entering edge differs), mod 2^16
--   earlier                     the rotation before a rotation
--   stepped_counts              the counts after a step
--   leaving_edge, entering_edge the first edge of a window, and the last edge of the window after it
--   CountsAt, unmoved           one point of a move: start, counts, their least, looks, the place just past the last mark; the point before the first step
--   step_on, move_on            one step; at most a given number of steps
--   can_move, CanMove           whether counts can be moved: the test, and the same as facts
--   moved_from                  the counts moved, or unchanged if they cannot be moved
--   reached_with                the returned struct and the final counts, as one point of a move
--   IsMoved                     the contract of `move_tally`
--   IsReached                   the result of moving a start's tally, as facts
--   IsStepped, IsMovedOn        the contracts of private functions
use Rattle.std.specs.Prelude.{ℕ, zero, suc, ◌+◌, ◌-◌, ◌*◌, ◌%◌, ◌^◌, ◌≤◌, ◌<◌, ◌≡◌, Bool, cond, ◌&&◌, List, ltb, leb, eqb, length, get_or}
use Rattle.lists.specs.ByPlace.{stored_first}
use Rattle.meaning.specs.Counting.{one_if}
use Rattle.meaning.specs.Meanings.{unequal, least_distance}
use Rattle.meaning.specs.Looks.{step_looks}
use Rattle.findings.specs.Limits.{most_places}
use Rattle.windows.specs.Windows.{Parts, window_of, whole_line}
use Rattle.tally.specs.declared.counts.Least.{Least}
use Rattle.tally.specs.Marks.{past_after, past_mark}
use Rattle.tally.specs.Counts.{most_counts, least_of, HasCounts}
use Rattle.tally.specs.Tallied.{Verified}
use Rattle.moves.specs.declared.steps.Reached.{Reached}

-- The number of values that a count of sixteen bits has.
abbrev pub sixteen_bits : ℕ
sixteen_bits = 2 ^ 16

-- count − lost + won, mod 2^16. `lost` is 1 if the leaving edge differs, `won` is 1 if the entering edge differs. A count of 0 that loses 1 wraps.
abbrev pub changed_count : ℕ → ℕ → ℕ → ℕ
changed_count count lost won = (count + (sixteen_bits - lost) + won) % sixteen_bits

-- The count of rotation r after the leaving and the entering edge are compared with the ring's edge at place r.
unfoldable pub changed_at : List ℕ → ℕ → ℕ → List ℕ → ℕ → ℕ
changed_at ring leaving entering old r =
    changed_count (get_or old r 0) (one_if (unequal leaving (get_or ring r 0))) (one_if (unequal entering (get_or ring r 0)))

-- The rotation before rotation r, r − 1; before rotation 0 it is the last, m − 1.
unfoldable pub earlier : ℕ → ℕ → ℕ
earlier m r = cond (eqb r 0) (m - 1) (r - 1)

-- The counts after a step: each of the m changed counts is kept under the next rotation's number, and the counts from m on are unchanged.
abbrev pub stepped_counts : List ℕ → ℕ → ℕ → List ℕ → List ℕ
stepped_counts ring leaving entering old = stored_first (length ring) (λ r. changed_at ring leaving entering old (earlier (length ring) r)) old

-- One point of a move: the start, the counts there, their least (0 before the first step), the looks so far, and the place just past the last mark that entered so
-- far (0 if none did).
pub record CountsAt : Type 0 where
  pub start : ℕ
  pub counts : List ℕ
  pub least : ℕ
  pub looks : ℕ
  pub past : ℕ

-- The point before the first step: the start to move from, and the counts as they are.
abbrev pub unmoved : ℕ → List ℕ → CountsAt
unmoved from counts = record { start = from; counts = counts; least = 0; looks = 0; past = 0 }

-- "the leaving" edge of a step from start i: the first edge of the window at i.
abbrev pub leaving_edge : ℕ → Parts → ℕ → ℕ
leaving_edge m p i = get_or (window_of m p i) 0 0

-- "the entering edge" of that step: the last edge of the window at i + 1.
abbrev pub entering_edge : ℕ → Parts → ℕ → ℕ
entering_edge m p i = get_or (window_of m p (i + 1)) (m - 1) 0

-- One step along the line, whose windows come from the parts p. If the entering edge is a mark, the place just past it is the next window's end.
unfoldable pub step_on : List ℕ → Parts → CountsAt → CountsAt
step_on ring p at =
    let entering : ℕ = entering_edge (length ring) p at.start in
    let new : List ℕ = stepped_counts ring (leaving_edge (length ring) p at.start) entering at.counts in
    let past : ℕ = past_after entering at.past (at.start + 1 + length ring) in
    record { start = at.start + 1; counts = new; least = least_of (length ring) new; looks = at.looks + step_looks (length ring); past = past }

-- At most the given number of steps: the move ends at the first start reached whose least count is below `below`, else after the last step.
unfoldable pub move_on : List ℕ → Parts → ℕ → ℕ → CountsAt → CountsAt
move_on ring p below zero at = at
move_on ring p below (suc left) at =
    let next : CountsAt = step_on ring p at in
    let later : CountsAt = move_on ring p below left next in
    cond (ltb next.least below) next later

-- Whether `room` counts of a ring of m edges can be moved `steps` steps from start `from` along a whole line of n edges: m is 1 to 256, there is a count for
-- each rotation, n is at most 2^32, and the window after the last step still fits in the line.
unfoldable pub can_move : ℕ → ℕ → ℕ → ℕ → ℕ → Bool
can_move m room n from steps = (ltb 0 m && (leb m most_counts && leb m room)) && (leb n most_places && leb (from + steps + m) n)

-- The counts moved from start `from` by at most `steps` steps. If they cannot be moved, no count changes, and the other numbers are 0.
abbrev pub moved_from : List ℕ → Parts → ℕ → ℕ → ℕ → List ℕ → CountsAt
moved_from ring p from steps below old =
    let n : ℕ = length (whole_line (length ring) p) in
    cond (can_move (length ring) (length old) n from steps) (move_on ring p below steps (unmoved from old)) (unmoved from old)

-- The returned struct and the final counts, as one record.
abbrev pub reached_with : Reached → List ℕ → CountsAt
reached_with r counts = record { start = r.start.0; counts = counts; least = r.least; looks = r.looks; past = r.past }

-- The contract of `move_tally` and `move_counts`. `from` is the number of the line place to move from, `old` are the counts at entry, `new` those at exit, r is the returned struct.
pub record IsMoved (ring : List ℕ) (p : Parts) (from steps below : ℕ) (old new : List ℕ) (r : Reached) : Type 0 where
  pub is : reached_with r new ≡ moved_from ring p from steps below old

-- The result of moving the tally of start `from`. The start reached is 1 to `steps` steps on. The counts are its tally, r has their least, and each step took 2·m
-- looks. No start that was passed has a least distance below `below`. If the move ended early, the start reached has a least count below `below`. The edges that
-- entered are those from place from + m on, one for each step.
pub record IsReached (ring line : List ℕ) (from steps below : ℕ) (counts : List ℕ) (r : Reached) : Type 0 where
  pub after : from < r.start.0
  pub start_le : r.start.0 ≤ from + steps
  pub verified : Verified ring line r.start.0 ((r.start.0 - from) * step_looks (length ring)) counts r.least r.looks
  pub passed : (j : ℕ) → from < j → j < r.start.0 → below ≤ least_distance ring line j
  pub stopped : r.start.0 < from + steps → r.least < below
  pub past_is : r.past ≡ past_mark line (from + length ring) (r.start.0 - from)

-- From here on: preconditions and contracts of private functions.

-- The contract of `step`: the counts after one step, their least, and 2·m looks. `old` and `new` are the counts at entry and exit, z is the returned struct.
pub record IsStepped (ring : List ℕ) (leaving entering : ℕ) (old new : List ℕ) (z : Least) : Type 0 where
  pub written : new ≡ stepped_counts ring leaving entering old
  pub least_is : z.least ≡ least_of (length ring) new
  pub looks_are : z.looks ≡ step_looks (length ring)

-- What `can_move` tests, as facts; the precondition of `move_along`.
pub record CanMove (m room n from steps : ℕ) : Type 0 where
  pub has_counts : HasCounts m room
  pub most_line : n ≤ most_places
  pub in_line : from + steps + m ≤ n

-- The contract of `move_along`: the counts are moved by at most `steps` steps.
pub record IsMovedOn (ring : List ℕ) (p : Parts) (from steps below : ℕ) (old new : List ℕ) (r : Reached) : Type 0 where
  pub is : reached_with r new ≡ move_on ring p below steps (unmoved from old)
