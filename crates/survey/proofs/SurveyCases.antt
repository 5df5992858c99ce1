-- The two cases of `verify_on`, "the first afresh and each next by one step". Place 0 is counted afresh. For i above 0 the tally of place i − 1 is moved, to
-- the next place whose least count is at most k or to the last window.
use Prim.Native.Nat.{ℕ, ◌+◌, ◌-◌, ◌*◌, ◌≤◌, ◌<◌}
use mathlib.Core.Path.{◌≡◌, ap, ◌∙◌}
use mathlib.Core.List.{List}
use native.Mathlib.Numerals.{add-one}
use native.Mathlib.Omega.{arith}
use lib.ListN.{length}
use borrow.Author.Tests.{ne_eqb}
use Rattle.meaning.specs.Meanings.{FitsInLine}
use Rattle.meaning.specs.Looks.{step_looks, survey_looks_below}
use Rattle.meaning.proofs.SurveyLooks.{survey_looks_first, survey_looks_below_lem}
use Rattle.tally.specs.declared.afresh.Fresh.{Fresh}
use Rattle.moves.specs.declared.steps.Reached.{Reached}
use Rattle.tally.proofs.AfreshTallied.{counted_verified, counted_past_lem}
use Rattle.moves.proofs.MovedTallied.{moved_tallied}
use Rattle.windows.specs.Windows.{Parts, whole_line, IsWindow, IsWholeLength}
use Rattle.windows.proofs.WindowEdges.{fitting_window}
use Rattle.tally.specs.Counts.{IsCounted}
use Rattle.moves.specs.Moves.{IsMoved, IsReached}
use Rattle.survey.specs.Survey.{CanVerifyOn, IsVerifiedOn}

module _ {ring doubled : List ℕ} {p : Parts} {k i : ℕ} {old : List ℕ} (can : CanVerifyOn ring doubled p k i old) where
  -- the whole line, whose windows the parts hold
  abbrev line : List ℕ
  line = whole_line (length ring) p

  -- If i is 0 and its window is counted afresh, the contract of `verify_on` is met.
  pub first_verified : {edges counts : List ℕ} {z : Fresh} → i ≡ 0 → IsWindow p i (length ring) edges → IsCounted doubled edges old counts z
      → IsVerifiedOn ring line k i counts (record { start = record { 0 = i }; least = z.least; looks = z.looks; past = z.past })
  unfolding survey_looks_below
  first_verified {edges} {counts} {z} first handed counted =
      let is_window = fitting_window can.can_tally.some_edge handed can.in_line can.joined in
      let v = counted_verified ring line i doubled old counts edges z can.can_tally.size can.can_tally.some_edge can.can_tally.most can.twice can.in_line is_window counted in
      record {
        start_ge = omega arith;
        in_line = can.in_line;
        tallied = v.tallied;
        least_is = v.least_is;
        looks_are = rw first (omega (arith, v.looks_are, survey_looks_first ring line (omega (arith, can.in_line))));
        passed = λ j lo hi. absurd (omega arith);
        past_is =
            let all : 0 + length ring - 0 ≡ length ring = omega arith in
            rw (first, all)
            (counted_past_lem ring line doubled old counts edges z can.can_tally.size can.can_tally.some_edge can.can_tally.most can.twice
            (rw first at can.in_line) (rw first at is_window) counted);
      }

  -- the survey's looks for the starts below i, and a step for each start from i to j, are its looks for the starts up to j
  steps_cost : (j : ℕ) → 0 < i → i ≤ j → FitsInLine ring line j
      → survey_looks_below ring line i + (j - (i - 1)) * step_looks (length ring) ≡ survey_looks_below ring line (j + 1)
  steps_cost j after l in_line =
      let here : i ≡ i - 1 + 1 = omega arith in
      let all : (i - 1) + (j - (i - 1)) ≡ j = omega arith in
      omega (
        arith,
        ap (survey_looks_below ring line) (here ∙ add-one (i - 1)) ∙ survey_looks_below_lem ring line (i - 1) (omega (arith, can.in_line)),
        ap (survey_looks_below ring line) (add-one j) ∙ survey_looks_below_lem ring line j in_line,
        ap (λ (x : ℕ). x * step_looks (length ring)) all,
      )

  -- If i is above 0 and the tally of start i − 1 is moved, at most to the last start, the contract of `verify_on` is met.
  pub moved_verified : {n : ℕ} {counts : List ℕ} {r : Reached} → 0 < i → IsWholeLength (length ring) p n
      → IsMoved ring p (i - 1) (n - length ring - (i - 1)) (k + 1) old counts r → IsVerifiedOn ring line k i counts r
  moved_verified {n} {counts} {r} after long by =
      let moved : IsMoved ring p (i - 1) (length line - length ring - (i - 1)) (k + 1) old counts r = rw long.is at by in
      let reached : IsReached ring line (i - 1) (length line - length ring - (i - 1)) (k + 1) counts r =
      moved_tallied ring p (k + 1) can.can_tally.some_edge can.can_tally.most can.joined (i - 1) (length line - length ring - (i - 1)) old (can.before after)
      (omega (arith, can.in_line)) (omega (arith, can.in_line)) (omega (arith, can.most_places)) counts r moved in
      let in_line : FitsInLine ring line r.start.0 = omega (arith, can.in_line, reached.start_le) in
      record {
        start_ge = omega (arith, reached.after);
        in_line = in_line;
        tallied = reached.verified.tallied;
        least_is = reached.verified.least_is;
        looks_are = rw reached.verified.looks_are (steps_cost r.start.0 after (omega (arith, reached.after)) in_line);
        passed = λ j lo hi. omega (arith, reached.passed j (omega arith) hi);
        past_is =
            let places : r.start.0 + length ring - (i - 1 + length ring) ≡ r.start.0 - (i - 1) = omega arith in
            rw (ne_eqb i 0 (λ e. omega arith), places) reached.past_is;
      }
