-- `findings::admitting::admit` meets its contract: one of rows 1, 12, 2, 3 is given and `within_limits` refuses; or none of them is, and the comparisons
-- passed so far decide whether row 4 is given (`AdmitRows`).
use mathlib.Core.Path.{sym}
use native.Mathlib.Omega.{arith}
use Rattle.findings.specs.Admitting.{admit_rows}
use Rattle.answers.proofs.Returned.{returned}
use Rattle.findings.proofs.LimitRows.{within_limits, refused_early}
use Rattle.findings.proofs.AdmitRows.{row_4_iff, none_iff}
use Rattle.findings.proofs.admitting.admit.Goals as goal
use Rattle.findings.proofs.admitting.admit.Goals.{else-m-n-via-then-m-n+else-room-n, else-m-n-via-else-m-n}

-- One of rows 1, 12, 2, 3 is given.
pub returns-in_err-within_limits : goal.returns-in_err-within_limits
unfolding admit_rows
returns-in_err-within_limits c = rw (returned c.from_residual.ensures.1) (refused_early _ c.in_err-within_limits.ensures)

pub overflow_add-n : goal.overflow_add-n
overflow_add-n c =
    let within = within_limits _ _ _ c.in_ok-within_limits.ensures in
    omega arith

pub overflow_mul-n : goal.overflow_mul-n
overflow_mul-n c =
    let within = within_limits _ _ _ c.in_ok-within_limits.ensures in
    omega arith

-- Too little room.
pub returns-then-room-n : goal.returns-then-room-n
returns-then-room-n c =
    let within = within_limits _ _ _ c.in_ok-within_limits.ensures in
    record { is = sym ((row_4_iff _ _ _ _).1 (within.0, (within.1.0, omega arith))) }

-- A line shorter than the ring, or room enough.
pub returns : goal.returns
returns c =
    let within = within_limits _ _ _ c.in_ok-within_limits.ensures in
    record {
      is = sym ((none_iff _ _ _ _).1 (
        within.0,
        (
          within.1.0,
          (
            within.1.1.0,
            (
              within.1.1.1,
              elim c.else-m-n.branch [
                | else-m-n-via-then-m-n+else-room-n w ↦ λ _. omega arith
                | else-m-n-via-else-m-n w ↦ λ fits. omega arith
              ],
            ),
          ),
        ),
      ));
    }
