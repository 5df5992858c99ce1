-- The tally of a start, moved along the whole line with a join area that is right, is the tally of the start reached. By induction on the steps left: after each
-- step the counts are the tally of the start there (`tallied_step`), and its least count is its least distance. The move goes on only from starts whose least count
-- is not below the bound. Each edge that enters is asked whether it is a mark (`past_next` of crates/tally).
use Prim.Native.Nat.{ℕ, zero, suc, ◌+◌, ◌-◌, ◌*◌, ◌≤◌, ◌<◌}
use mathlib.Core.Path.{◌≡◌, refl, sym, ◌∙◌}
use mathlib.Core.Bool.{true}
use mathlib.Core.List.{List}
use mathlib.Core.Logic.{dite}
use native.Mathlib.Nat.{add-mul}
use native.Mathlib.Decide.{dec_lt, ℕ_discrete}
use native.Mathlib.Omega.{arith}
use lib.ListN.{length}
use Rattle.meaning.specs.Meanings.{FitsInLine, window_edge, least_distance}
use Rattle.meaning.specs.Looks.{step_looks}
use Rattle.moves.specs.declared.steps.Reached.{Reached}
use Rattle.tally.specs.Marks.{past_mark}
use Rattle.findings.specs.Limits.{most_places}
use Rattle.windows.specs.Windows.{Parts, whole_line, Joined}
use Rattle.tally.specs.Counts.{most_counts, IsLeast}
use Rattle.moves.specs.Moves.{leaving_edge, entering_edge, CountsAt, unmoved, reached_with, step_on, move_on, can_move, IsMoved, IsReached}
use Rattle.windows.proofs.WindowEdges.{whole_edge}
use Rattle.tally.specs.Tallied.{Tallied}
use Rattle.tally.proofs.PastMark.{past_none, past_next}
use Rattle.tally.proofs.LeastIsOne.{least_of_is}
use Rattle.moves.proofs.MoveLoop.{move_none, move_stops, move_goes_on}
use Rattle.moves.proofs.MoveCases.{can_move_iff}
use Rattle.moves.proofs.StepTallied.{tallied_step}
use Rattle.tally.proofs.TallyFinding.{least_is}

module _ (ring : List ℕ) (p : Parts) (below : ℕ) (some : 0 < length ring) (most : length ring ≤ most_counts) (joined : Joined (length ring) p) where
  abbrev m : ℕ
  m = length ring

  -- the whole line, whose windows the parts hold
  abbrev line : List ℕ
  line = whole_line m p

  -- On a move from start `from` to point c, the edges from place from + m on entered, one for each step: c has the place just past their last mark.
  abbrev Noted : ℕ → CountsAt → Type 0
  Noted from c = c.past ≡ past_mark line (from + m) (c.start - from)

  -- The tally at point `at` is moved to point `to`, by at least one step and at most `left`.
  record CameTo (at : CountsAt) (left : ℕ) (to : CountsAt) : Type 0 where
    pub after : at.start < to.start
    pub start_le : to.start ≤ at.start + left
    pub tallied : Tallied ring line to.start to.counts
    pub least_is : IsLeast m to.counts to.least
    pub looks_are : to.looks ≡ at.looks + (to.start - at.start) * step_looks m
    pub passed : (j : ℕ) → at.start < j → j < to.start → below ≤ least_distance ring line j
    pub stopped : to.start < at.start + left → to.least < below
    pub noted : (from : ℕ) → from ≤ at.start → Noted from at → Noted from to

  module _ (at : CountsAt) (fits : at.start + 1 + m ≤ length line) (tallied : Tallied ring line at.start at.counts) where
    abbrev next : CountsAt
    next = step_on ring p at

    leaves : leaving_edge m p at.start ≡ window_edge line at.start 0
    leaves = whole_edge m p some at.start (omega arith) joined 0 some

    enters : entering_edge m p at.start ≡ window_edge line (at.start + 1) (m - 1)
    enters = whole_edge m p some (at.start + 1) fits joined (m - 1) (omega arith)

    next_start_lem : next.start ≡ at.start + 1
    unfolding step_on
    next_start_lem = refl

    next_looks : next.looks ≡ at.looks + step_looks m
    unfolding step_on
    next_looks = refl

    next_tallied : Tallied ring line next.start next.counts
    unfolding step_on
    next_tallied = rw (leaves, enters) (tallied_step ring line at.start at.counts most tallied)

    next_least : IsLeast m next.counts next.least
    unfolding step_on
    next_least = least_of_is m next.counts some

    next_noted : (from : ℕ) → from ≤ at.start → Noted from at → Noted from next
    unfolding step_on
    next_noted from le so_far =
        let place : at.start + 1 + (m - 1) ≡ at.start + m = omega arith in
        let end : at.start + 1 + m ≡ at.start + m + 1 = omega arith in
        let steps : at.start + 1 - from ≡ suc (at.start - from) = omega arith in
        rw (enters, place, end, so_far, steps) (past_next line (from + m) (at.start - from) (at.start + m) (omega arith))

    -- One step that is the last, or whose least count is below the bound.
    came_one : (left : ℕ) → (0 < left → next.least < below) → CameTo at (suc left) next
    came_one left near =
        let one : next.start - at.start ≡ 1 = omega (arith, next_start_lem) in
        record {
          after = omega (arith, next_start_lem);
          start_le = omega (arith, next_start_lem);
          tallied = next_tallied;
          least_is = next_least;
          looks_are = rw one (omega (arith, next_looks));
          passed = λ j l h. absurd (omega (arith, next_start_lem));
          stopped = λ l. near (omega (arith, next_start_lem));
          noted = next_noted;
        }

    -- One step whose least count is not below the bound, and the move on from there.
    came_on : (left : ℕ) (to : CountsAt) → below ≤ next.least → CameTo next left to → CameTo at (suc left) to
    came_on left to far on =
        let more : to.start - at.start ≡ 1 + (to.start - next.start) = omega (arith, next_start_lem, on.after) in
        record {
          after = omega (arith, next_start_lem, on.after);
          start_le = omega (arith, next_start_lem, on.start_le);
          tallied = on.tallied;
          least_is = on.least_is;
          looks_are = rw more (omega (arith, on.looks_are, next_looks, add-mul 1 (to.start - next.start) (step_looks m)));
          passed = λ j l h. dite (ℕ_discrete j next.start)
              (λ here. rw here (omega (arith, far, least_is ring line 0 next.start next.counts next.least some next_tallied next_least)))
              (λ past. on.passed j (omega (arith, past, next_start_lem)) h);
          stopped = λ l. on.stopped (omega (arith, next_start_lem));
          noted = λ from le so_far. on.noted from (omega (arith, next_start_lem)) (next_noted from le so_far);
        }

  -- A move of at least one and at most `left` + 1 steps.
  came : (left : ℕ) (at : CountsAt) → at.start + suc left + m ≤ length line → Tallied ring line at.start at.counts → CameTo at (suc left) (move_on ring p below (suc left) at)
  came zero at ends tallied = dite (dec_lt (step_on ring p at).least below)
      (λ near. rw (move_stops ring p below 0 at near) (came_one at (omega arith) tallied 0 (λ _. near)))
      (λ far.
      rw (move_goes_on ring p below 0 at (omega (arith, far)), move_none ring p below (step_on ring p at))
      (came_one at (omega arith) tallied 0 (λ l. absurd (omega arith))))
  came (suc left) at ends tallied = dite (dec_lt (step_on ring p at).least below)
      (λ near. rw (move_stops ring p below (suc left) at near) (came_one at (omega arith) tallied (suc left) (λ _. near)))
      (λ far.
      rw (move_goes_on ring p below (suc left) at (omega (arith, far)))
      (came_on at (omega arith) tallied (suc left) (move_on ring p below (suc left) (step_on ring p at)) (omega (arith, far))
      (came left (step_on ring p at) (omega (arith, next_start_lem at (omega arith) tallied)) (next_tallied at (omega arith) tallied))))

  module _ (from steps : ℕ) (old : List ℕ) (tallied : Tallied ring line from old) (some_step : 0 < steps) (ends : FitsInLine ring line (from + steps))
      (most_line : length line ≤ most_places) where
    -- The tally can be moved.
    can_be : can_move m (length old) (length line) from steps ≡ true
    can_be =
        (can_move_iff m (length old) (length line) from steps).1
        (record { has_counts = record { some_edge = some; most = most; room = omega (arith, tallied.size) }; most_line = most_line; in_line = ends.in_line })

    -- For a ring of 1 to 256 edges, a whole line of at most 2^32 edges, a join area that is right and 1 step or more: if the counts are the tally of start
    -- `from` and a window fits in the whole line at from + steps, then `move_tally` gives the tally of the start reached (`IsReached`).
    pub moved_tallied : (new : List ℕ) (r : Reached) → IsMoved ring p from steps below old new r → IsReached ring line from steps below new r
    moved_tallied new r moved =
        let is : reached_with r new ≡ move_on ring p below steps (unmoved from old) = rw can_be at moved.is in
        let whole : steps ≡ suc (steps - 1) = omega arith in
        let to : CameTo (unmoved from old) steps (reached_with r new) = rw (is, whole) (came (steps - 1) (unmoved from old) (omega (arith, ends.in_line)) tallied) in
        record {
          after = to.after;
          start_le = to.start_le;
          verified = record { tallied = to.tallied; least_is = to.least_is; looks_are = to.looks_are ∙ omega arith };
          passed = to.passed;
          stopped = to.stopped;
          past_is = let none : from - from ≡ 0 = omega arith in to.noted from (omega arith) (rw none (sym (past_none line (from + m))));
        }
