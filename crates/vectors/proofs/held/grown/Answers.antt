-- `vectors::held::grown` meets its contract: each of its four words is the definition's.
use native.Mathlib.Omega.{arith}
use Rattle.vectors.proofs.GrownWords.{grown_of_words}
use Rattle.vectors.proofs.held.grown.Goals as goal

pub returns : goal.returns
returns c =
    grown_of_words _ _ _ _ _ _ _ _ _ (omega arith) c.grown_word.ensures c.grown_word-2.ensures c.grown_word-3.ensures
    c.grown_word-4.ensures
