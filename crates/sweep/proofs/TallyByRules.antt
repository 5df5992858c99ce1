-- With the ring's own double and the tally of the last verified start, `tally_by` verifies a start by rule 5: the counts are its tally, with their least and the
-- looks of the rule. For a fresh count this is `counted_verified` of crates/tally, for a moved tally `moved_tallied` of crates/moves. The move makes all its
-- steps, because no least count is below 0.
use Prim.Native.Nat.{ℕ, ◌+◌, ◌-◌, ◌*◌, ◌≤◌, ◌<◌}
use mathlib.Core.Path.{◌≡◌, refl}
use mathlib.Core.List.{List}
use mathlib.Core.Logic.{⊎_elim}
use Rattle.std.specs.Prelude.{Option, None, Some}
use native.Mathlib.Omega.{arith}
use lib.ListN.{length}
use borrow.Author.Tests.{lt-ltb, le-ltb, lt-leb}
use Rattle.meaning.specs.Looks.{afresh_looks, step_looks, tally_looks}
use Rattle.lists.proofs.Cases.{le_or_lt}
use Rattle.windows.specs.Windows.{Parts, window_of, whole_line, Joined}
use Rattle.windows.proofs.WindowEdges.{fitting_window}
use Rattle.tally.specs.Counts.{TallyResult, counted_to, counted_past}
use Rattle.tally.specs.Tallied.{Verified}
use Rattle.tally.proofs.AfreshTallied.{counted_verified}
use Rattle.moves.specs.declared.steps.Reached.{Reached}
use Rattle.moves.specs.Moves.{CountsAt, moved_from, IsReached}
use Rattle.moves.proofs.MovedTallied.{moved_tallied}
use Rattle.answers.specs.declared.places.LinePlace.{LinePlace}
use Rattle.sweep.specs.VerifyingRules.{last_start, TalliedBefore, CanVerify}
use Rattle.sweep.specs.Sweeps.{moved_to, tally_by}

-- If the counts are the tally of the last verified start, before i, then they are so before every later i'.
pub before_later : (ring line counts : List ℕ) (i i' : ℕ) (last : Option ℕ) → i ≤ i' → TalliedBefore ring line i counts last → TalliedBefore ring line i' counts last
before_later ring line counts i i' None l h = tt
before_later ring line counts i i' (Some last) l h = (omega arith, h.1)

module _ (ring doubled : List ℕ) (p : Parts) (i : ℕ) (old : List ℕ) (joined : Joined (length ring) p) where
  abbrev m : ℕ
  m = length ring

  -- the whole line, whose windows the parts hold
  abbrev line : List ℕ
  line = whole_line m p

  -- The result t verifies start i, at these looks.
  abbrev VerifiedAt : ℕ → TallyResult → Type 0
  VerifiedAt looks t = Verified ring line i looks t.counts t.least t.looks

  -- A fresh count verifies start i, at m·m looks.
  afresh_by_rules : (last : Option ℕ) → CanVerify ring doubled line i old last → VerifiedAt (afresh_looks m) (counted_to doubled (window_of m p i) old)
  afresh_by_rules last can =
      let t : TallyResult = counted_to doubled (window_of m p i) old in
      counted_verified ring line i doubled old t.counts (window_of m p i) (record { least = t.least; looks = t.looks; past = counted_past doubled (window_of m p i) old })
      can.can_tally.size can.can_tally.some_edge can.can_tally.most can.twice can.in_line
      (fitting_window can.can_tally.some_edge (record { is = refl }) can.in_line joined)
      (record { written = refl; least_is = refl; looks_are = refl; past_is = refl })

  -- The tally moved from the last verified start verifies start i, at 2·m looks for each step.
  moved_by_rules : (from : ℕ) → CanVerify ring doubled line i old (Some from) → VerifiedAt ((i - from) * step_looks m) (moved_to ring p from (i - from) old)
  unfolding moved_to
  moved_by_rules from can =
      let before : from < i = can.before.0 in
      let to : CountsAt = moved_from ring p from (i - from) 0 old in
      let r : Reached = record { start = record { 0 = to.start }; least = to.least; looks = to.looks; past = to.past } in
      let reached : IsReached ring line from (i - from) 0 to.counts r =
      moved_tallied ring p 0 can.can_tally.some_edge can.can_tally.most joined from (i - from) old can.before.1 (omega arith)
      (omega (arith, can.in_line)) (omega (arith, can.most_line)) to.counts r (record { is = refl }) in
      let there : to.start ≡ i =
      ⊎_elim (λ l. omega (arith, reached.start_le)) (λ l. absurd (omega (arith, reached.stopped l))) (le_or_lt (from + (i - from)) to.start) in
      rw there at reached.verified

  -- Under `CanVerify`, `tally_by` verifies start i, at the looks of rule 5.
  pub tally_by_rules : (last : Option LinePlace) → CanVerify ring doubled line i old (last_start last)
      → VerifiedAt (tally_looks m (last_start last) i) (tally_by ring doubled p i last old)
  unfolding tally_by tally_looks
  tally_by_rules None can = afresh_by_rules None can
  tally_by_rules (Some from) can =
      rw (lt-leb i from.0 can.before.0)
      (⊎_elim
      (λ near. rw (le-ltb m (2 * (i - from.0)) near) (moved_by_rules from.0 can))
      (λ far. rw (lt-ltb m (2 * (i - from.0)) far) (afresh_by_rules (Some from.0) can))
      (le_or_lt (2 * (i - from.0)) m))
