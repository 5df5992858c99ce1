-- `silences::field::field_at` meets its contract: past the book's end and under a tag without a kind the field is faulty; under any other, `field_of_kind`
-- returns it.
use mathlib.Core.Path.{sym, ap, ◌∙◌}
use native.Mathlib.Omega.{arith}
use Rattle.silences.specs.Layout.{kind_by_tag}
use Rattle.silences.proofs.FieldTest.{kind_none, field_is_faulty}
use Rattle.silences.proofs.field.field_at.Goals as goal

-- past the book's end
pub returns-in_err-tag : goal.returns-in_err-tag
returns-in_err-tag c = rw c.from_residual.ensures (sym (field_is_faulty _ _ (λ kind t. omega (arith, c.in_err-tag.ensures.lookup.3, t.within))))

-- another tag
pub returns-in_err-ceiling_bytes_of : goal.returns-in_err-ceiling_bytes_of
returns-in_err-ceiling_bytes_of c =
    rw c.from_residual-in_err-ceiling_bytes_of.ensures (sym (field_is_faulty _ _ (λ kind t.
    kind_none (sym (c.in_err-ceiling_bytes_of.ensures ∙ ap kind_by_tag (c.in_ok-tag.ensures.lookup.3.1 0))) t.kind_is)))
