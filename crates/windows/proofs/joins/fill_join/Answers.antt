-- `windows::joins::fill_join` meets its contract: at each early return the area cannot be filled; else the line's last m − 1 edges and its first m − 1 are copied, one
-- behind the other (`JoinFilled`).
use native.Mathlib.Omega.{arith}
use Rattle.windows.proofs.JoinFilled.{is_filled}
use Rattle.windows.proofs.joins.fill_join.Goals as goal

-- Both ends of the line are copied.
pub returns : goal.returns
returns c =
    is_filled _ _ _ _ _ (omega (arith, c.if-m-eq0.false)) c.if-n-m.false (omega (arith, c.if-join-ends.false))
    c.copy_from_slice.ensures.after c.copy_from_slice-2.ensures.after
