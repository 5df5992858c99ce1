-- `outlines::quick::scan_windows` meets its contract: the loop keeps `QuickLoop`. The sweep's answer decides the turn: it reports no finding, or one, for which
-- the book is asked. The measure is n + 1 - start.
use mathlib.Core.Path.{refl, ap}
use native.Mathlib.Omega.{arith}
use Rattle.windows.proofs.WindowEdges.{fits_whole, past_whole}
use Rattle.sweep.specs.SweepRules.{state_of, found_of}
use Rattle.outlines.proofs.QuickLoop.{quick_start, quick_found_le, quick_end, quick_less, quick_none, quick_can_ask, quick_found}
use Rattle.outlines.proofs.quick.scan_windows.Goals as goal

pub loop-at-init : goal.loop-at-init
loop-at-init c =
    (refl, (c.whole_length-n.ensures, quick_start c.requires refl refl refl refl refl c.field_at-held.ensures))

-- A finding, for which the book is asked.
pub ask-asked-requires : goal.ask-asked-requires
ask-asked-requires c =
    let told = c.in-Found.is in
    quick_can_ask c.loop-at.invariant.1.1 c.sweep_on.ensures (ap state_of told) (ap found_of told)

pub loop-at-smaller-in-Found-1 : goal.loop-at-smaller-in-Found-1
loop-at-smaller-in-Found-1 c =
    let told = c.in-Found.is in
    quick_less c.loop-at.invariant.1.1 c.sweep_on.ensures (ap state_of told) (fits_whole c.loop-at.invariant.1.0 c.loop-at-test.true)

pub loop-at-preserved-in-Found-1 : goal.loop-at-preserved-in-Found-1
loop-at-preserved-in-Found-1 c =
    let told = c.in-Found.is in
    (refl, (c.loop-at.invariant.1.0, quick_found c.loop-at.invariant.1.1 c.sweep_on.ensures (ap state_of told) (ap found_of told) c.ask-asked.ensures c.put_shown.ensures))

-- No window fits in the line any more.
pub loop-at-smaller-in-Ended : goal.loop-at-smaller-in-Ended
loop-at-smaller-in-Ended c =
    let told = c.in-Ended.next-1-is in
    quick_less c.loop-at.invariant.1.1 c.sweep_on.ensures (ap state_of told) (fits_whole c.loop-at.invariant.1.0 c.loop-at-test.true)

pub loop-at-preserved-in-Ended : goal.loop-at-preserved-in-Ended
loop-at-preserved-in-Ended c =
    let told = c.in-Ended.next-1-is in
    (refl, (c.loop-at.invariant.1.0, quick_none c.loop-at.invariant.1.1 c.sweep_on.ensures (ap state_of told) (ap found_of told)))

-- A candidate that is no finding.
pub loop-at-smaller : goal.loop-at-smaller
loop-at-smaller c =
    let told = c.in-Ended.next-in-NoFinding-1-is in
    quick_less c.loop-at.invariant.1.1 c.sweep_on.ensures (ap state_of told) (fits_whole c.loop-at.invariant.1.0 c.loop-at-test.true)

pub loop-at-preserved : goal.loop-at-preserved
loop-at-preserved c =
    let told = c.in-Ended.next-in-NoFinding-1-is in
    (refl, (c.loop-at.invariant.1.0, quick_none c.loop-at.invariant.1.1 c.sweep_on.ensures (ap state_of told) (ap found_of told)))

-- Past the last window.
pub overflow_add-found : goal.overflow_add-found
overflow_add-found c = omega (arith, quick_found_le c.loop-at.invariant.1.1)

pub returns : goal.returns
returns c = quick_end c.loop-at.invariant.1.1 (past_whole c.loop-at.invariant.1.0 c.loop-at-test.false)
