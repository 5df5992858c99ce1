-- `packing::judging::judge` meets its contract. The loop's invariant is `JudgedTo`: the records before the words left are passed. Each return is one case of the
-- next record, or that none is left.
use mathlib.Core.Path.{sym}
use mathlib.Core.Logic.{inl, inr}
use native.Mathlib.Omega.{arith}
use Rattle.packing.proofs.JudgeLoop.{judge_too_large, judge_not_above, judge_turn, judge_end}
use Rattle.packing.proofs.judging.judge.Goals as goal
use Rattle.packing.proofs.judging.judge.Goals.{then-record-gt-MOST_RING_NUMBER-via-then-record-gt-MOST_RING_NUMBER, then-record-gt-MOST_RING_NUMBER-via-else-record-gt-MOST_RING_NUMBER+then-record-gt-MOST_CEILING}

-- row 9 at this record, by its ring number or its ceiling
pub returns-then-record-gt-MOST_RING_NUMBER : goal.returns-then-record-gt-MOST_RING_NUMBER
returns-then-record-gt-MOST_RING_NUMBER c =
    let s = c.in-Some.ensures.steps in
    judge_too_large c.loop-i.invariant _ _ s.0.1.0 s.0.1.1 s.1
    (elim c.then-record-gt-MOST_RING_NUMBER.branch [
      | then-record-gt-MOST_RING_NUMBER-via-then-record-gt-MOST_RING_NUMBER w ↦ inl (omega arith)
      | then-record-gt-MOST_RING_NUMBER-via-else-record-gt-MOST_RING_NUMBER+then-record-gt-MOST_CEILING w ↦ inr (omega arith)
    ])

-- row 7 at this record
pub returns-then-not-is_above : goal.returns-then-not-is_above
returns-then-not-is_above c =
    let s = c.in-Some.ensures.steps in
    judge_not_above c.loop-i.invariant _ _ s.0.1.0 s.0.1.1 (record { ring_number_le = omega arith; ceiling_le = omega arith }) s.1 (sym c.if-not-is_above.ensures)

-- this record is passed
pub loop-i-preserved : goal.loop-i-preserved
loop-i-preserved c =
    let s = c.in-Some.ensures.steps in
    judge_turn c.loop-i.invariant _ _ s.0.1.0 s.0.1.1 (record { ring_number_le = omega arith; ceiling_le = omega arith }) s.2 s.0.0 (sym c.if-not-is_above.ensures)

-- no record is left
pub returns : goal.returns
returns c = judge_end c.loop-i.invariant c.in-None.ensures.steps.0.1.0
