-- `tally::afresh::compare_run` meets its contract: before turn r the counts below r have the comparisons added (`StoreLoop` of crates/lists), and before turn e of the
-- inner loop `differ` is the number of the first e edges that differ under rotation r.
use Prim.Native.Nat.{◌+◌, ◌*◌}
use mathlib.Core.Path.{◌≡◌}
use Rattle.meaning.specs.Counting.{count}
use Rattle.lists.specs.ByPlace.{StoredFirst}
use Rattle.tally.specs.Counts.{differs_over, run_counted}
use Rattle.tally.proofs.afresh.compare_run.Given as goal

abbrev pub invariant-loop-r : goal.invariant-loop-r
invariant-loop-r g l =
    (l.looks ≡ l.r * g.row.EDGES) × StoredFirst l.r (run_counted l.doubled l.initial.part l.first l.edges g.row.EDGES) l.initial.part l.part

abbrev pub invariant-loop-e : goal.invariant-loop-e
invariant-loop-e g l = (l.looks ≡ l.r * g.row.EDGES + l.e) × (l.differ ≡ count (differs_over l.doubled l.edges l.first l.r) 0 l.e)
