-- `sweep::sweeping::to_candidate` meets its contract: its three returns are the three cases of `sweep_by` (`SweepWays`).
use native.Mathlib.Omega.{arith}
use Rattle.windows.specs.Windows.{parts_of}
use Rattle.sweep.proofs.SweepWays.{sweep_looks_le, sweep_start_le, way_ended, sweep_all_looks_le, way_none, way_found}
use Rattle.sweep.proofs.sweeping.to_candidate.Goals as goal

pub overflow_add-looks : goal.overflow_add-looks
overflow_add-looks c =
    omega (arith, sweep_looks_le _ c.args.tables.vectors.now (parts_of c.args.parts) c.args.k c.args.at c.requires _ c.read_windows-read.ensures)

-- No candidate.
pub returns-in_default : goal.returns-in_default
returns-in_default c = way_ended _ _ _ _ _ _ _ _ c.read_windows-read.ensures c.in_default.is

pub verify-verified-requires : goal.verify-verified-requires
verify-verified-requires c =
    sweep_start_le _ c.args.tables.vectors.now (parts_of c.args.parts) c.args.k c.args.at c.requires _ c.read_windows-read.ensures

pub overflow_add-next : goal.overflow_add-next
overflow_add-next c =
    omega (
      arith,
      sweep_all_looks_le _ _ _ _ _ _ _ _ c.read_windows-read.ensures c.in-Some.is _ _ c.verify-verified.ensures c.requires,
    )

-- A candidate that is no finding.
pub returns-then-k-least : goal.returns-then-k-least
returns-then-k-least c =
    way_none _ _ _ _ _ _ _ _ c.read_windows-read.ensures c.in-Some.is _ _ c.verify-verified.ensures
    (omega (arith, c.if-k-least.true))

-- A finding.
pub returns : goal.returns
returns c =
    way_found _ _ _ _ _ _ _ _ c.read_windows-read.ensures c.in-Some.is _ _ c.verify-verified.ensures _
    (omega (arith, c.if-k-least.false))
    c.finding_at.ensures
