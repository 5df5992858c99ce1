-- `book::seeking::seek` meets its contract. Before the field at `at`, seeking from `at` on finds what seeking from `from` on finds (`SeekSoFar`); each return
-- is one case of that field. The number of bytes left falls, because a whole field ends after it begins, within the book (`field_ends`).
use Prim.Native.Nat.{◌-◌}
use lib.ListN.{length}
use Rattle.silences.specs.Addresses.{address_of}
use Rattle.book.proofs.SeekLoop.{SeekSoFar}
use Rattle.book.proofs.seeking.seek.Given as goal

abbrev pub invariant-loop-field : goal.invariant-loop-field
invariant-loop-field l = SeekSoFar l.book l.from (address_of l.address) l.at

abbrev pub decreases-loop-field : goal.decreases-loop-field
decreases-loop-field l = length l.book - l.at
