-- `book::seeking::seek` meets its contract. Before the field at `at`, seeking from `at` on finds what seeking from `from` on finds (`SeekSoFar`); each return
-- is one case of that field. The number of bytes left falls, because a whole field ends after it begins, within the book (`field_ends`).
use mathlib.Core.Path.{sym, ap, ◌∙◌}
use mathlib.Core.Bool.{not}
use native.Mathlib.Omega.{arith}
use Rattle.silences.proofs.DerivedOrder.{derived_not_below}
use Rattle.silences.proofs.FieldTest.{field_ends}
use Rattle.book.proofs.SeekLoop.{seek_nothing, seek_end, seek_turn}
use Rattle.book.proofs.seeking.seek.Goals as goal

-- a field that is not below the address
pub returns-then-ge : goal.returns-then-ge
returns-then-ge c =
    record { is = seek_end c.loop-field.invariant c.in-Some.ensures (derived_not_below _ _ ∙ ap not (sym c.if-ge.ensures)) }

pub loop-field-smaller : goal.loop-field-smaller
loop-field-smaller c = omega (arith, field_ends _ _ _ _ (sym c.in-Some.ensures))

-- a field below it
pub loop-field-preserved : goal.loop-field-preserved
loop-field-preserved c =
    seek_turn c.loop-field.invariant c.in-Some.ensures (derived_not_below _ _ ∙ ap not (sym c.if-ge.ensures))

-- a faulty field
pub returns : goal.returns
returns c = record { is = seek_nothing c.loop-field.invariant c.in_default.ensures }
