-- The loop of `move_along`. Before the turn at start i, making the remaining steps from here gives the same result as the whole move (`Moving`). The leaving edge is
-- the first of the window at i and the entering edge the last of the window at i + 1, so a turn is `step_on`. The move ends when the least count is below `below`.
-- A step takes at most 512 looks, so a machine word holds the sum.
use Prim.Native.Nat.{ℕ, zero, suc, ◌+◌, ◌-◌, ◌*◌, ◌≤◌, ◌<◌}
use mathlib.Core.Path.{◌≡◌, refl, sym, ap, ◌∙◌}
use mathlib.Core.List.{List}
use native.Mathlib.Nat.{add-mul}
use native.Mathlib.Omega.{arith}
use lib.Dec.{ltb}
use lib.ListN.{length, get_or}
use borrow.Author.Tests.{lt-ltb, le-ltb}
use Rattle.lists.proofs.Cases.{by_test}
use Rattle.meaning.specs.Looks.{step_looks}
use Rattle.answers.specs.declared.places.LinePlace.{LinePlace}
use Rattle.windows.specs.Windows.{Parts, whole_line, IsWindow}
use Rattle.tally.specs.declared.counts.Least.{Least}
use Rattle.tally.specs.Marks.{past_after, IsPastMark}
use Rattle.tally.specs.Counts.{most_counts, least_of}
use Rattle.moves.specs.Moves.{stepped_counts, leaving_edge, entering_edge, CountsAt, unmoved, step_on, move_on, CanMove, IsStepped, IsMovedOn}
use Rattle.lists.proofs.StoreLoop.{stored_first_length}

module _ (ring : List ℕ) (p : Parts) (below : ℕ) where
  -- With no step left, the move ends where it is.
  pub move_none : (at : CountsAt) → move_on ring p below 0 at ≡ at
  unfolding move_on
  move_none at = refl

  -- If the least count after a step is below the bound, this step ends the move.
  pub move_stops : (left : ℕ) (at : CountsAt) → (step_on ring p at).least < below → move_on ring p below (suc left) at ≡ step_on ring p at
  unfolding move_on
  move_stops left at near = rw (lt-ltb (step_on ring p at).least below near) refl

  -- If the least count after a step is not below the bound, the move goes on from there.
  pub move_goes_on : (left : ℕ) (at : CountsAt) → below ≤ (step_on ring p at).least
      → move_on ring p below (suc left) at ≡ move_on ring p below left (step_on ring p at)
  unfolding move_on
  move_goes_on left at far = rw (le-ltb (step_on ring p at).least below far) refl

-- The invariant before the turn at start i. `still` says that the remaining steps from here give the same result as the whole move.
pub record Moving (ring : List ℕ) (p : Parts) (from steps below : ℕ) (old counts : List ℕ) (least looks past i : ℕ) : Type 0 where
  pub from_le : from ≤ i
  pub start_le : i ≤ from + steps
  pub size : length counts ≡ length old
  pub looks_le : looks ≤ (i - from) * step_looks most_counts
  pub still : move_on ring p below (from + steps - i) (record { start = i; counts = counts; least = least; looks = looks; past = past })
      ≡ move_on ring p below steps (unmoved from old)

module _ (ring : List ℕ) (p : Parts) (from steps below : ℕ) (old : List ℕ) (can : CanMove (length ring) (length old) (length (whole_line (length ring) p)) from steps) where
  abbrev m : ℕ
  m = length ring

  module _ (counts : List ℕ) (least looks past i : ℕ) (before : Moving ring p from steps below old counts least looks past i) where
    abbrev here_at : CountsAt
    here_at = record { start = i; counts = counts; least = least; looks = looks; past = past }

    module _ (goes_on : i < from + steps) (here next new : List ℕ) (z : Least) (here_is : IsWindow p i m here) (next_is : IsWindow p (i + 1) m next)
        (stepped : IsStepped ring (get_or here 0 0) (get_or next (m - 1) 0) counts new z) {past' : ℕ} (asked : IsPastMark (get_or next (m - 1) 0) past (i + 1 + m) past') where
      leaves : get_or here 0 0 ≡ leaving_edge m p i
      leaves = ap (λ (xs : List ℕ). get_or xs 0 0) here_is.is

      enters : get_or next (m - 1) 0 ≡ entering_edge m p i
      enters = ap (λ (xs : List ℕ). get_or xs (m - 1) 0) next_is.is

      new_is : new ≡ stepped_counts ring (leaving_edge m p i) (entering_edge m p i) counts
      new_is =
          stepped.written ∙ ap (λ (e : ℕ). stepped_counts ring e (get_or next (m - 1) 0) counts) leaves
          ∙ ap (λ (e : ℕ). stepped_counts ring (leaving_edge m p i) e counts) enters

      abbrev there : CountsAt
      there = record { start = i + 1; counts = new; least = z.least; looks = looks + z.looks; past = past' }

      -- The turn is one step.
      step_is : step_on ring p here_at ≡ there
      unfolding step_on
      step_is = λ j. record {
        start = i + 1;
        counts = sym new_is j;
        least = (ap (least_of m) (sym new_is) ∙ sym stepped.least_is) j;
        looks = ap (λ (n : ℕ). looks + n) (sym stepped.looks_are) j;
        past = sym (asked.is ∙ ap (λ (x : ℕ). past_after x past (i + 1 + m)) enters) j;
      }

      one_less : from + steps - i ≡ suc (from + steps - (i + 1))
      one_less = omega arith

      least_of_step : (step_on ring p here_at).least ≡ z.least
      least_of_step = ap (λ (c : CountsAt). c.least) step_is

      -- If the least count after a turn is below the bound, returning there meets the contract.
      pub moving_stops : z.least < below → IsMovedOn ring p from steps below old new (record { start = record { 0 = i + 1 }; least = z.least; looks = looks + z.looks; past = past' })
      moving_stops near = record {
        is = sym step_is ∙ sym (move_stops ring p below (from + steps - (i + 1)) here_at (omega (arith, least_of_step)))
            ∙ ap (λ (n : ℕ). move_on ring p below n here_at) (sym one_less) ∙ before.still;
      }

      -- If the least count after a turn is not below the bound, the invariant holds before the next turn.
      pub moving_turn : below ≤ z.least → Moving ring p from steps below old new z.least (looks + z.looks) past' (i + 1)
      moving_turn far = record {
        from_le = omega (arith, before.from_le);
        start_le = omega arith;
        size = ap length stepped.written ∙ stored_first_length m _ counts ∙ before.size;
        looks_le = omega (arith, before.looks_le, before.from_le, stepped.looks_are, can.has_counts.most);
        still = ap (move_on ring p below (from + steps - (i + 1))) (sym step_is)
            ∙ sym (move_goes_on ring p below (from + steps - (i + 1)) here_at (omega (arith, least_of_step)))
            ∙ ap (λ (n : ℕ). move_on ring p below n here_at) (sym one_less) ∙ before.still;
      }

    -- If no step is left, returning there meets the contract.
    pub moving_end : {start : LinePlace} → start.0 ≡ i → from + steps ≤ i → IsMovedOn ring p from steps below old counts (record { start = start; least = least; looks = looks; past = past })
    moving_end start_is done =
        let none : from + steps - i ≡ 0 = omega arith in
        record {
          is = (λ j. record { start = start_is j; counts = counts; least = least; looks = looks; past = past })
              ∙ sym (move_none ring p below here_at)
              ∙ ap (λ (n : ℕ). move_on ring p below n here_at) (sym none)
              ∙ before.still;
        }

-- A move of at most `left` steps adds at most `left` times the looks of a step.
pub move_looks_le : (ring : List ℕ) (p : Parts) (below left : ℕ) (at : CountsAt) → (move_on ring p below left at).looks ≤ at.looks + left * step_looks (length ring)
unfolding move_on step_on
move_looks_le ring p below zero at = omega arith
move_looks_le ring p below (suc left) at =
    by_test (λ (c : CountsAt). c.looks ≤ at.looks + suc left * step_looks (length ring)) (ltb (step_on ring p at).least below)
    (λ _. omega (arith, add-mul 1 left (step_looks (length ring))))
    (λ _. omega (arith, move_looks_le ring p below left (step_on ring p at), add-mul 1 left (step_looks (length ring))))
