-- `answers::places::sum_around` meets its contract: each return cites the law of `around` for its case. No subtraction goes below 0, because what is
-- subtracted from m is a number mod m.
use native.Mathlib.Omega.{arith}
use Rattle.answers.proofs.AroundRing.{around_none, around_sum_lt, around_sum_ge}
use Rattle.answers.proofs.places.sum_around.Goals as goal

pub returns-then-m-eq0 : goal.returns-then-m-eq0
returns-then-m-eq0 c = around_none _ _ c.if-m-eq0.true

pub returns-then-x-m : goal.returns-then-x-m
returns-then-x-m c = around_sum_lt _ _ _ (omega arith) (omega arith)

pub returns-else-x-m : goal.returns-else-x-m
returns-else-x-m c = around_sum_ge _ _ _ (omega arith) (omega arith)
