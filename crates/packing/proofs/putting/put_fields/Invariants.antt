-- `packing::putting::put_fields` meets its contract. The loop's invariant is `PutFields`: the fields left, written into the area as it is now, give the whole
-- layout.
use Rattle.std.specs.Slice.Iter.{chunks_exact_rest, chunks_exact_size}
use Rattle.packing.proofs.FieldsLoop.{PutFields}
use Rattle.packing.proofs.putting.put_fields.Given as goal

abbrev pub invariant-loop-record : goal.invariant-loop-record
invariant-loop-record l = PutFields l.words l.initial.out (chunks_exact_rest l.record-iterator) (chunks_exact_size l.record-iterator) l.to l.out
