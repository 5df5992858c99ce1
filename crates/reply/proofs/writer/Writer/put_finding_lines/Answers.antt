-- `reply::writer::Writer::put_finding_lines` meets its contract: its loop keeps `PuttingLines`.
use mathlib.Core.Path.{◌∙◌}
use native.Mathlib.Omega.{arith}
use Rattle.lists.specs.ByPlace.{list_of}
use Rattle.reply.specs.Writing.{filled}
use Rattle.reply.proofs.LinesLoop.{lines_turn, lines_end}
use Rattle.reply.proofs.writer.Writer.put_finding_lines.Goals as goal

pub loop-finding-preserved : goal.loop-finding-preserved
unfolding filled list_of
loop-finding-preserved c =
    let steps = c.in-Some.ensures.steps in
    (steps.0 ∙ c.loop-finding.invariant.0, lines_turn c.loop-finding.invariant.1 c.in-Some.finding.now steps.1.0 (steps.1.1 ∙ c.loop-finding.invariant.0) c.put_line.ensures)

pub returns : goal.returns
returns c = lines_end c.loop-finding.invariant.1 (omega (arith, c.in-None.ensures.steps.1.0, c.loop-finding.invariant.0))
