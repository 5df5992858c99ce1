-- `sweep::verifying::verify` meets its contract: its two returns are the four cases of `tally_by` (`TallyWays`).
use native.Mathlib.Omega.{arith}
use Rattle.sweep.proofs.TallyWays.{tallied_first, tallied_behind, tallied_far, tallied_moved}
use Rattle.sweep.proofs.verifying.verify.Goals.{in_default-via-in-Some+then-from-start+else-start-from, in_default-via-in-Some+else-from-start, in_default-via-in_default}
use Rattle.sweep.proofs.verifying.verify.Goals as goal

-- 2·s ≤ m: the tally is moved.
pub returns-in-Some : goal.returns-in-Some
returns-in-Some c =
    tallied_moved _ c.in-Some.is (omega (arith, c.if-from-start.true)) (omega (arith, c.if-start-from.true)) c.move_tally-reached.ensures

-- 2·s > m, not beyond the last verified start, or no earlier tally.
pub returns-in_default : goal.returns-in_default
returns-in_default c =
    elim c.in_default.branch [
      | in_default-via-in-Some+then-from-start+else-start-from w ↦
          tallied_far _ c.verify_afresh.ensures w.in-Some.is (omega (arith, w.if-from-start.true)) (omega (arith, w.if-start-from.false))
      | in_default-via-in-Some+else-from-start w ↦ tallied_behind _ c.verify_afresh.ensures w.in-Some.is (omega (arith, w.if-from-start.false))
      | in_default-via-in_default w ↦ tallied_first _ c.verify_afresh.ensures w.in_default.is
    ]
