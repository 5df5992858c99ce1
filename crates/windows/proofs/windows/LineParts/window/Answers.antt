-- `windows::windows::LineParts::window` meets its contract: the tests decide whether the window begins behind the line, lies in it, or crosses its end; `part` takes a window
-- that crosses out of the join area (`WindowEdges`).
use native.Mathlib.Omega.{arith}
use mathlib.Core.Path.{◌∙◌}
use Rattle.windows.proofs.WindowEdges.{none_behind, none_short, window_in_line, window_in_join}
use Rattle.windows.proofs.windows.LineParts.window.Goals as goal

-- The place is behind the line.
pub returns-then-n-i : goal.returns-then-n-i
returns-then-n-i c = record { is = none_behind _ _ _ c.if-n-i.true }

-- The line has fewer than m edges.
pub returns-then-n-m : goal.returns-then-n-m
returns-then-n-m c = record { is = none_short _ _ _ c.if-n-m.true }

-- The window crosses the line's end.
pub returns-then-rest-m : goal.returns-then-rest-m
returns-then-rest-m c =
    record { is = c.part.ensures.is ∙ window_in_join _ _ _ c.if-n-m.false c.if-n-i.false c.if-rest-m.true }

-- The window lies in the line.
pub returns : goal.returns
returns c = record { is = window_in_line _ _ _ (omega (arith, c.if-rest-m.false, c.if-n-i.false)) }
