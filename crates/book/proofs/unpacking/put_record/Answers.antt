-- `book::unpacking::put_record` meets its contract: the four words in place of four words of the area.
use native.Mathlib.Omega.{arith}
use Rattle.book.proofs.PartWritten.{part_written}
use Rattle.book.proofs.unpacking.put_record.Goals as goal

pub returns : goal.returns
returns c = let h = c.copy_from_slice.ensures.after in part_written _ _ _ (omega arith) h
