-- `silences::field::field_of_kind` meets its contract: two returns for the ways in which a field of a known kind is faulty, and one for a whole field. Its kind
-- is the one of its tag, so it has at most two bytes for a ceiling (`kind_length_le`).
use mathlib.Core.Path.{sym, ap, ◌∙◌}
use native.Mathlib.Omega.{arith}
use Rattle.fields.proofs.NumberWithin.{number_read}
use Rattle.silences.specs.Layout.{value_length}
use Rattle.silences.specs.Reading.{silence_at}
use Rattle.silences.proofs.FieldTest.{kind_length_le, kind_ceiling_lt, kind_unique, field_is_whole, field_is_faulty}
use Rattle.silences.proofs.field.field_of_kind.Goals as goal

pub overflow_add-long : goal.overflow_add-long
overflow_add-long c = omega (arith, kind_length_le _ _ c.requires.kind_is)

pub overflow_add-long-2 : goal.overflow_add-long-2
overflow_add-long-2 c = omega (arith, kind_length_le _ _ c.requires.kind_is)

-- cut off
pub returns-then-book-at : goal.returns-then-book-at
returns-then-book-at c =
    sym (field_is_faulty _ _ (λ kind t. omega (arith, c.if-book-at.true, c.requires.within, t.within, ap value_length (kind_unique t.kind_is c.requires.kind_is))))

-- another length
pub returns-then-number_at-long : goal.returns-then-number_at-long
returns-then-number_at-long c =
    sym (field_is_faulty _ _ (λ kind t.
    c.if-number_at-long.true (number_read c.number_at.ensures (omega arith) (omega (arith, c.if-book-at.false)) ∙ t.long_is ∙ ap value_length (kind_unique t.kind_is c.requires.kind_is))))

pub overflow_cast-ceiling : goal.overflow_cast-ceiling
overflow_cast-ceiling c =
    omega (arith, kind_ceiling_lt _ _ c.requires.kind_is _ c.number_at-ceiling.ensures.lt)

-- a whole field
pub returns : goal.returns
unfolding silence_at
returns c =
    let ceiling-is = number_read c.number_at-ceiling.ensures (omega (arith, kind_length_le _ _ c.requires.kind_is)) (omega (arith, c.if-book-at.false)) in
    sym (field_is_whole _ _ _ (record {
      kind_is = c.requires.kind_is;
      long_is = sym (number_read c.number_at.ensures (omega arith) (omega (arith, c.if-book-at.false))) ∙ c.if-number_at-long.false;
      within = omega (arith, c.if-book-at.false, c.requires.within);
    }) (λ i. record { address = c.address_at-address.ensures i; ceiling = ceiling-is i }) (omega arith))
