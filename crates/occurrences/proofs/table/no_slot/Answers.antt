-- `occurrences::table::no_slot` meets its contract, by the two laws of `no_slot`.
use mathlib.Core.Path.{sym}
use native.Mathlib.Omega.{arith}
use Rattle.occurrences.proofs.SlotOfPart.{no_slot_early, no_slot_last}
use Rattle.occurrences.proofs.table.no_slot.Goals as goal

pub returns-then-part-lt-LAST_PART : goal.returns-then-part-lt-LAST_PART
returns-then-part-lt-LAST_PART c = sym (no_slot_early _ c.if-part-lt-LAST_PART.true)

pub returns-else-part-lt-LAST_PART : goal.returns-else-part-lt-LAST_PART
returns-else-part-lt-LAST_PART c = omega (arith, no_slot_last _ c.if-part-lt-LAST_PART.false)
