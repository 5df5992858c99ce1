-- `occurrences::table::word_place` meets its contract, by the two laws of `word_place`. A slot is a byte, so there is a word for it.
use mathlib.Core.Path.{sym, ◌∙◌}
use native.Mathlib.Omega.{arith}
use Rattle.occurrences.proofs.KeptWords.{word_place_early, word_place_last}
use Rattle.occurrences.proofs.table.word_place.Goals as goal

pub returns-then-part-lt-LAST_PART : goal.returns-then-part-lt-LAST_PART
returns-then-part-lt-LAST_PART c = (c.from-at.ensures ∙ sym (word_place_early _ _ c.if-part-lt-LAST_PART.true), omega arith)

pub returns-else-part-lt-LAST_PART : goal.returns-else-part-lt-LAST_PART
returns-else-part-lt-LAST_PART c = (rw c.from-at.ensures (sym (word_place_last _ _ c.if-part-lt-LAST_PART.false)), omega arith)
