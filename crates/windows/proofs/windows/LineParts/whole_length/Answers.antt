-- `windows::windows::LineParts::whole_length` meets its contract: the join area adds nothing if the ring has no edge, or if no window fits in the line; else it adds
-- the m − 1 edges behind its first m − 1, or as many as stand there (`WindowEdges`).
use mathlib.Core.Path.{sym, ap}
use native.Mathlib.Omega.{arith}
use lib.ListN.{length}
use Rattle.windows.specs.Windows.{parts_of}
use Rattle.windows.proofs.WindowEdges.{whole_no_edge, whole_short, whole_least}
use Rattle.windows.proofs.windows.LineParts.whole_length.Goals.{then-m-eq0-via-then-m-eq0, then-m-eq0-via-else-m-eq0+then-n-m}
use Rattle.windows.proofs.windows.LineParts.whole_length.Goals as goal

-- The ring has no edge, or the line has fewer than m edges.
pub returns-then-m-eq0 : goal.returns-then-m-eq0
returns-then-m-eq0 c =
    elim c.then-m-eq0.branch [
      | then-m-eq0-via-then-m-eq0 w ↦ record { is = sym (ap length (whole_no_edge _ _ w.if-m-eq0.true)) }
      | then-m-eq0-via-else-m-eq0+then-n-m w ↦ record { is = sym (ap length (whole_short _ _ w.if-n-m.true)) }
    ]

-- As many as stand there, at most m − 1.
pub returns : goal.returns
returns c = record { is = omega (arith, whole_least _ (parts_of c.args.self) (omega (arith, c.if-m-eq0.false)) c.if-n-m.false, c.min.ensures) }
