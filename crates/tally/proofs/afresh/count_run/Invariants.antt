-- `tally::afresh::count_run` meets its contract: the edges are asked one by one whether they are marks, and then they are compared (`SomeCounted`).
use Prim.Native.Nat.{◌+◌}
use mathlib.Core.Path.{◌≡◌}
use Rattle.tally.specs.Marks.{past_mark}
use Rattle.tally.proofs.afresh.count_run.Given as goal

abbrev pub invariant-loop-e : goal.invariant-loop-e
invariant-loop-e g l = l.past_here ≡ past_mark l.window 0 (l.q + l.e)
