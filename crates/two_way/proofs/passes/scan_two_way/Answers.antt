-- `two_way::passes::scan_two_way` meets its contract: a row is given and the call is refused; or none is, the forward scan does not refuse, and with the backward
-- scan behind it the contract is met (`TwoWayAnswers`).
use mathlib.Core.Path.{sym}
use Rattle.answers.proofs.Returned.{returned}
use Rattle.two_way.proofs.TwoWayAdmitRows.{two_way_no_row_iff}
use Rattle.two_way.proofs.PassesAccepted.{forward_not_refused, can_scan_backward}
use Rattle.two_way.proofs.TwoWayAnswers.{refused_two_way, passes_two_way}
use Rattle.two_way.proofs.passes.scan_two_way.Goals as goal

pub scan_backward-requires : goal.scan_backward-requires
scan_backward-requires c =
    can_scan_backward ((two_way_no_row_iff _ _ _ _).0 (sym c.in_ok-admit_two_way.ensures.is)) c.in_ok-forward.ensures

-- Refused.
pub returns-in_err-admit_two_way : goal.returns-in_err-admit_two_way
returns-in_err-admit_two_way c = rw (returned c.from_residual.ensures.1) (refused_two_way _ _ _ _ c.in_err-admit_two_way.ensures.is)

-- Refused by the forward scan: never.
pub returns-in_err-forward : goal.returns-in_err-forward
returns-in_err-forward c =
    absurd (forward_not_refused ((two_way_no_row_iff _ _ _ _).0 (sym c.in_ok-admit_two_way.ensures.is)) c.in_err-forward.ensures)

-- Accepted.
pub returns : goal.returns
returns c =
    passes_two_way _ _ _ _ ((two_way_no_row_iff _ _ _ _).0 (sym c.in_ok-admit_two_way.ensures.is)) c.in_ok-forward.ensures c.scan_backward.ensures
