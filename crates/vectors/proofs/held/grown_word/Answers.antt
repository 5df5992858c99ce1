-- `vectors::held::grown_word` meets its contract: a word below the count is shifted, joined with what comes in, and AND the occurrence vector's word; the others
-- are 0.
use mathlib.Core.Path.{sym}
use native.Mathlib.Omega.{arith}
use Rattle.vectors.proofs.GrownWords.{grown_word_below, grown_word_past}
use Rattle.vectors.proofs.held.grown_word.Goals as goal

pub returns-then-w-words : goal.returns-then-w-words
returns-then-w-words c = rw c.carry_into.ensures (sym (grown_word_below _ _ _ _ _ (omega arith)))

pub returns-else-w-words : goal.returns-else-w-words
returns-else-w-words c = sym (grown_word_past _ _ _ _ _ (omega arith))
