-- `EdgeVectors::vector_of` meets its contract: it reads the one word at the code, or the word of each part (`whole_words` and `parted_words` of VectorsRead).
use native.Mathlib.Omega.{arith}
use Rattle.occurrences.proofs.VectorsRead.{whole_words, parted_words}
use Rattle.occurrences.proofs.table.EdgeVectors.vector_of.Goals as goal

pub returns-then-count-le1 : goal.returns-then-count-le1
returns-then-count-le1 c = rw c.from.ensures (whole_words _ _ _ (omega arith) c.if-count-le1.true)

pub returns : goal.returns
returns c =
    rw (c.word_of.ensures, c.word_of-2.ensures, c.word_of-3.ensures, c.word_of-4.ensures) (parted_words _ _ _ (omega arith) c.if-count-le1.false)
