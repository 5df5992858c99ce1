-- `book::unpacking::put_records` meets its contract. Before the field at `at` the words of the records before it stand in the area (`PutSoFar`). The number of
-- bytes left falls, because a whole field ends after it begins, within the book (`field_ends`).
use mathlib.Core.Path.{sym}
use native.Mathlib.Omega.{arith}
use Rattle.silences.proofs.FieldTest.{field_ends}
use Rattle.book.proofs.UnpackLoop.{put_start, put_room_le, put_turn}
use Rattle.book.proofs.unpacking.put_records.Goals as goal

pub loop-field-init : goal.loop-field-init
loop-field-init c = put_start c.requires.0 c.requires.1

pub put_record-requires : goal.put_record-requires
put_record-requires c = put_room_le c.loop-field.invariant c.in-Some.ensures

pub loop-field-smaller : goal.loop-field-smaller
loop-field-smaller c = omega (arith, field_ends _ _ _ _ (sym c.in-Some.ensures))

-- one record more
pub loop-field-preserved : goal.loop-field-preserved
loop-field-preserved c = put_turn c.loop-field.invariant c.in-Some.ensures c.put_record.ensures
