-- `book::reading::read_fields` meets its contract. Before the field at `at` the fields before it are read and counted (`ReadSoFar`); each return is one case of
-- that field, or the book's end. The number of bytes left falls, because a whole field ends after it begins, within the book (`field_ends`).
use mathlib.Core.Path.{sym, ◌∙◌}
use native.Mathlib.Omega.{arith}
use Rattle.silences.proofs.FieldTest.{field_ends}
use Rattle.book.proofs.ReadLoop.{read_start, read_end, read_faulty, read_not_above, read_turn}
use Rattle.book.proofs.reading.read_fields.Goals as goal

pub loop-at-init : goal.loop-at-init
loop-at-init c = read_start _

-- no whole field: row 6
pub returns-in_default : goal.returns-in_default
returns-in_default c =
    read_faulty c.loop-at.invariant c.in_default.ensures (omega arith)

-- a record that is not above the last: row 7
pub returns-then-not-is_above : goal.returns-then-not-is_above
returns-then-not-is_above c =
    read_not_above c.loop-at.invariant c.in-Some.ensures (sym c.is_above.ensures ∙ c.if-not-is_above.true)

pub loop-at-smaller : goal.loop-at-smaller
loop-at-smaller c = omega (arith, field_ends _ _ _ _ (sym c.in-Some.ensures))

-- one record more
pub loop-at-preserved : goal.loop-at-preserved
loop-at-preserved c =
    read_turn c.loop-at.invariant c.in-Some.ensures (sym c.is_above.ensures ∙ c.if-not-is_above.false)

-- the book's end
pub returns : goal.returns
returns c = read_end c.loop-at.invariant (omega arith)
