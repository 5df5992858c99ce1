-- `book::unpacking::put_records` meets its contract. Before the field at `at` the words of the records before it stand in the area (`PutSoFar`). The number of
-- bytes left falls, because a whole field ends after it begins, within the book (`field_ends`).
use Prim.Native.Nat.{◌-◌}
use lib.ListN.{length}
use Rattle.book.proofs.UnpackLoop.{PutSoFar}
use Rattle.book.proofs.unpacking.put_records.Given as goal

abbrev pub invariant-loop-field : goal.invariant-loop-field
invariant-loop-field l = PutSoFar l.book l.initial.words l.words l.at l.to

abbrev pub decreases-loop-field : goal.decreases-loop-field
decreases-loop-field l = length l.book - l.at
