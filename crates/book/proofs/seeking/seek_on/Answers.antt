-- `book::seeking::seek_on` meets its contract: `None` stays `None`, a field below the address is passed, and any other is kept.
use mathlib.Core.Path.{sym, ◌∙◌}
use Rattle.silences.proofs.DerivedOrder.{derived_below}
use Rattle.book.proofs.seeking.seek_on.Goals as goal

-- a field below the address
pub returns-then-lt : goal.returns-then-lt
returns-then-lt c =
    record { is = c.seek.ensures.is ∙ rw c.in_ok-field.was (simp (sym (derived_below c.in_ok-field.field.address c.args.address) ∙ sym c.if-lt.ensures)) }

-- a field that is not below it
pub returns : goal.returns
returns c =
    record { is = rw c.in_ok-field.was (simp (sym (derived_below c.in_ok-field.field.address c.args.address) ∙ sym c.if-lt.ensures)) }
