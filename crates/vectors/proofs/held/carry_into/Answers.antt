-- `vectors::held::carry_into` meets its contract: it returns the next word's lowest bit, or word 0 shifted up (`carry_next` and `carry_last` of GrownWords).
use mathlib.Core.Path.{sym}
use native.Mathlib.Omega.{arith}
use Rattle.vectors.proofs.GrownWords.{carry_next, carry_last}
use Rattle.vectors.proofs.held.carry_into.Goals as goal

pub returns-then-w-words : goal.returns-then-w-words
returns-then-w-words c = sym (carry_next _ _ _ _ (omega arith))

pub returns-else-w-words : goal.returns-else-w-words
returns-else-w-words c = sym (carry_last _ _ _ _ (omega arith))
