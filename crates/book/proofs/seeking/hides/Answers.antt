-- `book::seeking::hides` meets its contract: `None` hides nothing, a field of another address neither, and at its own address the ceiling decides.
use mathlib.Core.Path.{sym, ◌∙◌}
use Rattle.silences.proofs.DerivedOrder.{derived_same}
use Rattle.silences.proofs.HidesIff.{covers_other, covers_same}
use Rattle.book.proofs.seeking.hides.Goals as goal

-- this address
pub returns-then-eq : goal.returns-then-eq
returns-then-eq c =
    record { is = rw c.in-Some.is (sym (covers_same _ _ _ (sym (derived_same _ _) ∙ sym c.if-eq.ensures))) }

-- another address
pub returns-else-eq : goal.returns-else-eq
returns-else-eq c =
    record { is = rw c.in-Some.is (c.if-eq.false ∙ sym (covers_other _ _ _ (sym (derived_same _ _) ∙ sym c.if-eq.ensures))) }
