-- `silences::field::ceiling_bytes_of` meets its contract: the two tags of the table, and no other.
use mathlib.Core.Path.{sym}
use native.Mathlib.Omega.{arith}
use borrow.Author.Tests.{ne_eqb}
use Rattle.silences.proofs.FieldTest.{kind_exact, kind_ceiling}
use Rattle.silences.specs.Layout.{exact_tag, ceiling_tag, kind_by_tag}
use Rattle.silences.proofs.field.ceiling_bytes_of.Goals as goal

-- tag 21
pub returns-in-33 : goal.returns-in-33
returns-in-33 c = rw c.in-33.is (sym kind_exact)

-- tag 22
pub returns-in-34 : goal.returns-in-34
returns-in-34 c = rw c.in-34.is (sym kind_ceiling)

-- any other
pub returns-in_default : goal.returns-in_default
unfolding kind_by_tag
returns-in_default c = rw (ne_eqb c.args.tag exact_tag (omega arith), ne_eqb c.args.tag ceiling_tag (omega arith))
