-- `survey::plain::verify_on` meets its contract: start 0 is counted afresh, and for a later start the tally of the start before is moved (`SurveyCases`).
use native.Mathlib.Omega.{arith}
use Rattle.survey.proofs.SurveyCases.{first_verified, moved_verified}
use Rattle.survey.proofs.plain.verify_on.Goals as goal

-- Start 0.
pub returns-then-start-eq0 : goal.returns-then-start-eq0
returns-then-start-eq0 c =
    first_verified c.requires (omega (arith, c.if-start-eq0.true)) c.window.ensures c.count_afresh-first.ensures

-- A later start, and those after it.
pub returns-else-start-eq0 : goal.returns-else-start-eq0
returns-else-start-eq0 c =
    moved_verified c.requires (omega (arith, c.if-start-eq0.false)) c.whole_length.ensures c.move_tally.ensures
