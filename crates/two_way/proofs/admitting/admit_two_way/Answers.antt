-- `two_way::admitting::admit_two_way` meets its contract: one of rows 1, 12, 2 is given and `admit_ring` refuses; or none of them is, and what `first_no_edge`
-- returned and the comparisons passed so far decide which of rows 14, 3, 4 is the first, or that none is given (`TwoWayAdmitRows`).
use mathlib.Core.Path.{sym}
use native.Mathlib.Omega.{arith}
use Rattle.answers.proofs.Returned.{returned}
use Rattle.findings.proofs.LimitRows.{within_ring, refused_early}
use Rattle.two_way.specs.Admitting.{two_way_rows}
use Rattle.two_way.proofs.TwoWayAdmitRows.{first_told, with_edges, two_way_14_iff, two_way_3_iff, two_way_4_iff, two_way_none_iff}
use Rattle.two_way.proofs.admitting.admit_two_way.Goals as goal
use Rattle.two_way.proofs.admitting.admit_two_way.Goals.{else-m-n-via-then-m-n+else-room-n, else-m-n-via-else-m-n}

-- One of rows 1, 12, 2 is given.
pub returns-in_err-admit_ring : goal.returns-in_err-admit_ring
unfolding two_way_rows
returns-in_err-admit_ring c = rw (returned c.from_residual.ensures.1) (refused_early _ c.in_err-admit_ring.ensures)

-- A code that is no edge's.
pub returns-in-Some : goal.returns-in-Some
returns-in-Some c =
    let within = within_ring _ _ c.in_ok-admit_ring.ensures in
    record { is = sym ((two_way_14_iff _ _ _ _ _).1 (within.0, (within.1.0, (within.1.1, first_told c.in-Some.ensures)))) }

-- A line that is too long.
pub returns-then-n-gt-MOST_LINE : goal.returns-then-n-gt-MOST_LINE
returns-then-n-gt-MOST_LINE c =
    record { is = sym ((two_way_3_iff _ _ _ _).1 (with_edges c.in_ok-admit_ring.ensures c.in_default.ensures (omega arith))) }

-- Too little room.
pub returns-then-room-n : goal.returns-then-room-n
returns-then-room-n c =
    record { is = sym ((two_way_4_iff _ _ _ _).1 (with_edges c.in_ok-admit_ring.ensures c.in_default.ensures (omega arith))) }

-- A line shorter than the ring, or room enough.
pub returns : goal.returns
returns c =
    record {
      is = sym ((two_way_none_iff _ _ _ _).1 (with_edges c.in_ok-admit_ring.ensures c.in_default.ensures (
        omega arith,
        elim c.else-m-n.branch [
          | else-m-n-via-then-m-n+else-room-n w ↦ λ _. omega arith
          | else-m-n-via-else-m-n w ↦ λ fits. omega arith
        ],
      )));
    }
