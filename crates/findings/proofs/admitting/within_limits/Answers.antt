-- `findings::admitting::within_limits` meets its contract: one of rows 1, 12, 2 is given and `admit_ring` refuses; or none of them is, and the line's length
-- decides whether row 3 is given (`LimitRows`).
use mathlib.Core.Path.{sym}
use native.Mathlib.Omega.{arith}
use Rattle.findings.specs.Admitting.{limit_rows}
use Rattle.answers.proofs.Returned.{returned}
use Rattle.findings.proofs.LimitRows.{within_ring, refused_early, limit_3_iff, no_limit_iff}
use Rattle.findings.proofs.admitting.within_limits.Goals as goal

-- One of rows 1, 12, 2 is given.
pub returns-in_err-admit_ring : goal.returns-in_err-admit_ring
unfolding limit_rows
returns-in_err-admit_ring c = rw (returned c.from_residual.ensures.1) (refused_early _ c.in_err-admit_ring.ensures)

-- A line that is too long.
pub returns-then-n-gt-MOST_LINE : goal.returns-then-n-gt-MOST_LINE
returns-then-n-gt-MOST_LINE c =
    let within = within_ring _ _ c.in_ok-admit_ring.ensures in
    record { is = sym ((limit_3_iff _ _ _).1 (within.0, (within.1.0, omega arith))) }

-- All within the limits.
pub returns : goal.returns
returns c =
    let within = within_ring _ _ c.in_ok-admit_ring.ensures in
    record { is = sym ((no_limit_iff _ _ _).1 (within.0, (within.1.0, omega arith))) }
