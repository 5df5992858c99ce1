-- `packing::putting::put_fields` meets its contract. The loop's invariant is `PutFields`: the fields left, written into the area as it is now, give the whole
-- layout.
use mathlib.Core.Path.{ap, ◌∙◌}
use Rattle.std.specs.Slice.Iter.{chunks_exact_rest, chunks_exact_size}
use Rattle.packing.proofs.FieldsLoop.{fields_start, fields_can, fields_turn, fields_end}
use Rattle.packing.proofs.putting.put_fields.Goals as goal

pub loop-record-init : goal.loop-record-init
loop-record-init c =
    let same = c.into_iter-record-iterator.ensures.into_iter_gives in
    fields_start c.requires.0 c.requires.1 (ap chunks_exact_rest same ∙ c.chunks_exact-record-items.ensures.rest) (ap chunks_exact_size same ∙ c.chunks_exact-record-items.ensures.size)

pub put_field-to-requires : goal.put_field-to-requires
put_field-to-requires c =
    let s = c.in-Some.ensures.steps in
    fields_can c.loop-record.invariant _ _ s.1.0 s.1.1

pub loop-record-preserved : goal.loop-record-preserved
loop-record-preserved c =
    let s = c.in-Some.ensures.steps in
    fields_turn c.loop-record.invariant _ _ s.1.0 s.1.1 s.0 c.put_field-to.auto.out c.put_field-to.ensures

pub returns : goal.returns
returns c = fields_end c.loop-record.invariant c.in-None.ensures.steps.1.0
