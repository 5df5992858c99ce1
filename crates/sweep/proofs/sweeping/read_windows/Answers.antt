-- `sweep::sweeping::read_windows` meets its contract: the loop keeps `StillWindows`. A turn ends where `window` returns no edge, because no window fits in the whole
-- line there (`none_is_past`); else it passes a window that is stopped, or ends at the candidate. The measure is n + 1 - i.
use mathlib.Core.Path.{sym, ap, ◌∙◌}
use native.Mathlib.Omega.{arith}
use borrow.Author.Tests.{eqb-true}
use Rattle.windows.proofs.WindowEdges.{none_is_past}
use Rattle.sweep.proofs.WindowTurns.{windows_start, windows_end, windows_fit, windows_size, windows_next_le, windows_looks_le, windows_stop, windows_turn}
use Rattle.sweep.specs.Reads.{unread_from}
use Rattle.sweep.proofs.sweeping.read_windows.Goals as goal

pub loop-edges-init : goal.loop-edges-init
loop-edges-init c = windows_start c.requires

-- No window fits in the whole line any more.
pub returns-then-is_empty : goal.returns-then-is_empty
returns-then-is_empty c =
    let known = c.loop-edges.invariant in
    windows_end known (none_is_past known.can.some_edge c.window-edges.ensures (eqb-true _ _ (sym c.is_empty.ensures ∙ c.if-is_empty.true)))

pub read_window-read-requires : goal.read_window-read-requires
read_window-read-requires c =
    let handed = c.window-edges.ensures in
    let known = c.loop-edges.invariant in
    let size = windows_size known handed c.is_empty.ensures c.if-is_empty.false in (omega (arith, size, known.can.some_edge), omega (arith, size, known.can.most))

pub overflow_add-looks : goal.overflow_add-looks
overflow_add-looks c =
    let handed = c.window-edges.ensures in
    let known = c.loop-edges.invariant in
    let in_line = windows_fit known handed c.is_empty.ensures c.if-is_empty.false in
    omega (
      arith,
      windows_looks_le known in_line handed c.read_window-read.ensures,
      windows_next_le known in_line handed c.read_window-read.ensures,
      known.can.most_line,
    )

pub overflow_add-i : goal.overflow_add-i
overflow_add-i c =
    let handed = c.window-edges.ensures in
    let known = c.loop-edges.invariant in
    let in_line = windows_fit known handed c.is_empty.ensures c.if-is_empty.false in
    let left_is = ap unread_from c.in-Some.is in
    omega (arith, known.can.most_line, windows_next_le known in_line handed c.read_window-read.ensures, left_is)

pub overflow_add-i-in-Some : goal.overflow_add-i-in-Some
overflow_add-i-in-Some c =
    let handed = c.window-edges.ensures in
    let known = c.loop-edges.invariant in
    let in_line = windows_fit known handed c.is_empty.ensures c.if-is_empty.false in
    let left_is = ap unread_from c.in-Some.is in
    omega (arith, known.can.most_line, windows_next_le known in_line handed c.read_window-read.ensures, left_is)

-- The candidate.
pub returns-in-None : goal.returns-in-None
returns-in-None c =
    let handed = c.window-edges.ensures in
    let known = c.loop-edges.invariant in
    let in_line = windows_fit known handed c.is_empty.ensures c.if-is_empty.false in
    windows_stop known in_line handed c.read_window-read.ensures c.in-None.is

pub loop-edges-smaller : goal.loop-edges-smaller
loop-edges-smaller c =
    let known = c.loop-edges.invariant in
    let in_line = windows_fit known c.window-edges.ensures c.is_empty.ensures c.if-is_empty.false in
    omega (arith, in_line.in_line)

-- A window that is stopped.
pub loop-edges-preserved : goal.loop-edges-preserved
loop-edges-preserved c =
    let handed = c.window-edges.ensures in
    let known = c.loop-edges.invariant in
    let in_line = windows_fit known handed c.is_empty.ensures c.if-is_empty.false in
    windows_turn known in_line handed c.read_window-read.ensures c.in-Some.is
