-- `packing::putting::put_bytes` meets its contract: the bytes in place of as many of the area.
use mathlib.Core.Path.{refl}
use Rattle.book.proofs.PartWritten.{part_written}
use Rattle.packing.proofs.putting.put_bytes.Goals as goal

pub returns : goal.returns
returns c = record { next_is = refl; area_is = part_written _ _ _ refl c.copy_from_slice.ensures.after }
