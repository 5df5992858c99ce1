-- `findings::putting::four_words` meets its contract: the first number that is no 32-bit word ends it with none, and else all four are given (`PutCases`).
use native.Mathlib.Omega.{arith}
use Rattle.findings.proofs.PutCases.{no_word, words_given, not_words}
use Rattle.findings.proofs.putting.four_words.Goals as goal

-- The start is no 32-bit word.
pub returns-in_err-start : goal.returns-in_err-start
returns-in_err-start c = rw c.from_residual.ensures (not_words _ (λ all. omega (arith, all.each_lt 0, no_word c.in_err-start.ensures)))

-- The rotation is none.
pub returns-in_err-rotation : goal.returns-in_err-rotation
returns-in_err-rotation c =
    rw c.from_residual-in_err-rotation.ensures (not_words _ (λ all. omega (arith, all.each_lt 1, no_word c.in_err-rotation.ensures)))

-- The distance is none.
pub returns-in_err-distance : goal.returns-in_err-distance
returns-in_err-distance c =
    rw c.from_residual-in_err-distance.ensures (not_words _ (λ all. omega (arith, all.each_lt 2, no_word c.in_err-distance.ensures)))

-- The ties are none.
pub returns-in_err-ties : goal.returns-in_err-ties
returns-in_err-ties c = rw c.from_residual-in_err-ties.ensures (not_words _ (λ all. omega (arith, all.each_lt 3, no_word c.in_err-ties.ensures)))

-- All four are.
pub returns : goal.returns
returns c = words_given _ c.in_ok-start.ensures c.in_ok-rotation.ensures c.in_ok-distance.ensures c.in_ok-ties.ensures
