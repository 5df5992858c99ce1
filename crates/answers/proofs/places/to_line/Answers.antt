-- `answers::places::to_line` meets its contract: each of its two returns is a law of Conversions, with the contract of `sum_around`.
use native.Mathlib.Omega.{arith}
use Rattle.answers.proofs.Conversions.{line_place_none, line_place_along}
use Rattle.answers.proofs.places.to_line.Goals as goal

pub returns-then-m-eq0 : goal.returns-then-m-eq0
returns-then-m-eq0 c = line_place_none _ _ _ _ (omega arith) c.if-m-eq0.true

pub returns : goal.returns
returns c = line_place_along _ _ _ _ (omega arith) c.sum_around-along.ensures c.saturating_add.ensures
