-- `vectors::held::no_bit` meets its contract: it joins the four words one by one, those from the count on as 0 (`joined_is` of JoinedWords).
use native.Mathlib.Omega.{arith}
use Rattle.vectors.proofs.JoinedWords.{joined_is}
use borrow.Author.Rules.{rules}
use Rattle.vectors.proofs.held.no_bit.Goals as goal

pub returns : goal.returns
returns c =
    joined_is _ _ _ _ _ _ _ (search rules) (omega arith) c.word_below.ensures c.word_below-2.ensures
    c.word_below-3.ensures c.word_below-4.ensures
