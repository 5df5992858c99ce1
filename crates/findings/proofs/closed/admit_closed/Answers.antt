-- `findings::closed::admit_closed` meets its contract: one of rows 1, 12, 2, 3 is given and `within_limits` refuses; or none of them is, and the comparisons
-- passed so far decide whether row 4 or row 10 is given (`ClosedAdmitRows`).
use mathlib.Core.Path.{sym}
use native.Mathlib.Omega.{arith}
use Rattle.findings.specs.ClosedRows.{closed_rows}
use Rattle.answers.proofs.Returned.{returned}
use Rattle.findings.proofs.LimitRows.{within_limits, refused_early}
use Rattle.findings.proofs.ClosedAdmitRows.{closed_row_4_iff, closed_row_10_iff, closed_none_iff}
use Rattle.findings.proofs.closed.admit_closed.Goals as goal

-- One of rows 1, 12, 2, 3 is given.
pub returns-in_err-within_limits : goal.returns-in_err-within_limits
unfolding closed_rows
returns-in_err-within_limits c = rw (returned c.from_residual.ensures.1) (refused_early _ c.in_err-within_limits.ensures)

-- A line shorter than the ring.
pub returns-then-n-m : goal.returns-then-n-m
returns-then-n-m c =
    let within = within_limits _ _ _ c.in_ok-within_limits.ensures in
    record { is = sym ((closed_none_iff _ _ _ _ _).1 (within.0, (within.1.0, omega arith))) }

pub overflow_mul-n : goal.overflow_mul-n
overflow_mul-n c =
    let within = within_limits _ _ _ c.in_ok-within_limits.ensures in
    omega arith

-- Too little room for the findings.
pub returns-then-room-n : goal.returns-then-room-n
returns-then-room-n c =
    let within = within_limits _ _ _ c.in_ok-within_limits.ensures in
    record { is = sym ((closed_row_4_iff _ _ _ _ _).1 (within.0, (within.1.0, omega arith))) }

pub overflow_sub-m : goal.overflow_sub-m
overflow_sub-m c =
    let within = within_limits _ _ _ c.in_ok-within_limits.ensures in
    omega arith

-- Too little room for the join.
pub returns-then-joins-m : goal.returns-then-joins-m
returns-then-joins-m c =
    let within = within_limits _ _ _ c.in_ok-within_limits.ensures in
    record { is = sym ((closed_row_10_iff _ _ _ _ _).1 (within.0, (within.1.0, omega arith))) }

-- Room enough.
pub returns : goal.returns
returns c =
    let within = within_limits _ _ _ c.in_ok-within_limits.ensures in
    record { is = sym ((closed_none_iff _ _ _ _ _).1 (within.0, (within.1.0, omega arith))) }
