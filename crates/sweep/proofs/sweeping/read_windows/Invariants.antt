-- `sweep::sweeping::read_windows` meets its contract: the loop keeps `StillWindows`. A turn ends where `window` returns no edge, because no window fits in the whole
-- line there (`none_is_past`); else it passes a window that is stopped, or ends at the candidate. The measure is n + 1 - i.
use Prim.Native.Nat.{◌+◌, ◌-◌}
use lib.ListN.{length}
use Rattle.windows.specs.Windows.{parts_of, whole_line}
use Rattle.sweep.proofs.WindowTurns.{StillWindows}
use Rattle.sweep.proofs.sweeping.read_windows.Given as goal

abbrev pub invariant-loop-edges : goal.invariant-loop-edges
invariant-loop-edges l = StillWindows l.tables.ring.now l.tables.vectors.now (parts_of l.parts) l.k l.initial.i l.i l.looks

abbrev pub decreases-loop-edges : goal.decreases-loop-edges
decreases-loop-edges l = length (whole_line (length l.tables.ring.now) (parts_of l.parts)) + 1 - l.i
