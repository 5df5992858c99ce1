-- `packing::putting::put_field` meets its contract: each number begins where the one before it ends, and all six are the field (`field_put`).
use Rattle.silences.specs.Packing.{silence_of_words}
use Rattle.packing.proofs.FieldPut.{field_put}
use Rattle.packing.proofs.putting.put_field.Goals as goal

pub returns : goal.returns
returns c =
    field_put (silence_of_words c.args.words.now) c.requires.room c.put_bytes-length_at.ensures (rw c.to_be_bytes.ensures at c.put_bytes-value_at.ensures)
    (rw c.to_be_bytes-2.ensures at c.put_bytes-ring_number_at.ensures) (rw c.to_be_bytes-3.ensures at c.put_bytes-start_at.ensures)
    (rw c.to_be_bytes-4.ensures at c.put_bytes-ceiling_at.ensures) (rw c.to_be_bytes-5.ensures at c.put_bytes.ensures)
