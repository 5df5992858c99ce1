-- `EdgeVectors::word_of` meets its contract: it reads the slot and the word that the slot leads to.
use mathlib.Core.Path.{refl}
use Rattle.occurrences.specs.EdgeVectors.{slot_word}
use Rattle.occurrences.proofs.table.EdgeVectors.word_of.Goals as goal

pub returns : goal.returns
unfolding slot_word
returns c = rw (c.word_place.ensures.0, c.from.ensures) refl
