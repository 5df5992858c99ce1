-- `tally::afresh::compare_run` meets its contract: before turn r the counts below r have the comparisons added (`StoreLoop` of crates/lists), and before turn e of the
-- inner loop `differ` is the number of the first e edges that differ under rotation r.
use mathlib.Core.Path.{refl}
use native.Mathlib.Omega.{arith}
use Rattle.meaning.specs.Counting.{count}
use Rattle.meaning.proofs.Count.{count_le}
use Rattle.tally.specs.Counts.{differs_over}
use Rattle.tally.proofs.SomeCounted.{comparison_le, compared_next}
use Rattle.tally.proofs.afresh.compare_run.Goals as goal

pub loop-e-init : goal.loop-e-init
unfolding count
loop-e-init g c = (omega (arith, c.loop-r.invariant.0), refl)

pub overflow_add-differ : goal.overflow_add-differ
overflow_add-differ g c =
    omega (
      arith,
      c.loop-e.invariant.1,
      count_le (differs_over c.args.doubled.now c.args.edges.now c.args.place.0 c.loop-r.r) 0 c.loop-e.e,
      comparison_le c.differing-differ.ensures,
      c.requires.3 c.loop-r.r c.loop-r-test.true,
    )

pub loop-e-preserved : goal.loop-e-preserved
loop-e-preserved g c = (omega (arith, c.loop-e.invariant.0), compared_next (differs_over c.args.doubled.now c.args.edges.now c.args.place.0 c.loop-r.r) _ c.loop-e.invariant.1 c.differing-differ.ensures.is)

pub overflow_add-part : goal.overflow_add-part
overflow_add-part g c =
    omega (
      arith,
      c.loop-e.invariant.1,
      count_le (differs_over c.args.doubled.now c.args.edges.now c.args.place.0 c.loop-r.r) 0 c.loop-e.e,
      c.loop-r.invariant.1.rest c.loop-r.r (omega arith),
      c.requires.3 c.loop-r.r c.loop-r-test.true,
    )
