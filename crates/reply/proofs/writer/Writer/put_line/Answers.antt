-- `reply::writer::Writer::put_line` meets its contract: its loop keeps `Filling`.
use mathlib.Core.Path.{ap, ◌∙◌}
use Rattle.std.specs.Option.{unwrap_or}
use Rattle.reply.proofs.FormLoop.{number_next, form_number, form_byte, form_end}
use Rattle.reply.proofs.writer.Writer.put_line.Goals as goal
use Rattle.reply.proofs.writer.Writer.put_line.Goals.{then-byte-eq-HOLE, else-byte-eq-HOLE}

pub loop-byte-preserved : goal.loop-byte-preserved
loop-byte-preserved c =
    elim c.if-byte-eq-HOLE.branch [
      | then-byte-eq-HOLE w ↦
          let next = number_next _ _ _ w.next.ensures.steps in
          rw (w.self-is, w.numbers-is, next.1)
          (form_number c.loop-byte.invariant c.loop-byte-test.true w.if-byte-eq-HOLE.true (w.unwrap_or.ensures ∙ ap (λ o. unwrap_or o 0) w.copied.ensures ∙ next.0) w.put_number.ensures)
      | else-byte-eq-HOLE w ↦ rw (w.self-is, w.numbers-is) (form_byte c.loop-byte.invariant c.loop-byte-test.true w.if-byte-eq-HOLE.false w.put_byte.ensures)
    ]

pub returns : goal.returns
returns c = form_end c.loop-byte.invariant c.loop-byte-test.false
