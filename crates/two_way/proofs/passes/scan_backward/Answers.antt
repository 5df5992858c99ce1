-- `two_way::passes::scan_backward` meets its contract: the scan is lent the reversed ring and the words behind those of the forward findings, and does not refuse
-- (`BackwardPass`).
use native.Mathlib.Omega.{arith}
use Rattle.two_way.proofs.BackwardPass.{found_le, behind_le, backward_not_refused, scanned_backward}
use Rattle.two_way.proofs.passes.scan_backward.Goals as goal

pub overflow_mul-behind : goal.overflow_mul-behind
overflow_mul-behind c =
    omega (arith, found_le _ _ _ _ _ c.requires)

pub offset_bounds-words-behind : goal.offset_bounds-words-behind
offset_bounds-words-behind c =
    omega (arith, found_le _ _ _ _ _ c.requires)

pub slice_bounds-scan-count : goal.slice_bounds-scan-count
slice_bounds-scan-count c =
    behind_le _ _ _ _ _ c.requires

pub slice_bounds-scan-start : goal.slice_bounds-scan-start
slice_bounds-scan-start c =
    behind_le _ _ _ _ _ c.requires

-- Refused: never.
pub returns-in_err-backward : goal.returns-in_err-backward
returns-in_err-backward c = absurd (backward_not_refused _ _ _ _ _ c.requires _ c.reverse.ensures c.in_err-backward.ensures)

-- Accepted.
pub returns : goal.returns
returns c = scanned_backward _ _ _ _ _ c.requires _ c.reverse.ensures c.in_ok-backward.ensures
