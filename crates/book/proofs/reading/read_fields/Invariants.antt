-- `book::reading::read_fields` meets its contract. Before the field at `at` the fields before it are read and counted (`ReadSoFar`); each return is one case of
-- that field, or the book's end. The number of bytes left falls, because a whole field ends after it begins, within the book (`field_ends`).
use Prim.Native.Nat.{◌-◌}
use lib.ListN.{length}
use Rattle.silences.specs.Addresses.{last_of}
use Rattle.book.proofs.ReadLoop.{ReadSoFar}
use Rattle.book.proofs.reading.read_fields.Given as goal

abbrev pub invariant-loop-at : goal.invariant-loop-at
invariant-loop-at l = ReadSoFar l.book l.at l.records (last_of l.last)

abbrev pub decreases-loop-at : goal.decreases-loop-at
decreases-loop-at l = length l.book - l.at
