-- `tally::afresh::count_run` meets its contract: the edges are asked one by one whether they are marks, and then they are compared (`SomeCounted`).
use Prim.Native.Nat.{◌+◌}
use mathlib.Core.Path.{◌≡◌, ap, ◌∙◌}
use native.Mathlib.Omega.{arith}
use Rattle.std.proofs.lemmas.List.Edits.{get_or-between, length-between}
use Rattle.tally.specs.Marks.{past_mark}
use Rattle.tally.proofs.SomeCounted.{placed_at, past_on, run_counted_lem}
use Rattle.tally.proofs.afresh.count_run.Goals as goal

pub loop-e-preserved : goal.loop-e-preserved
loop-e-preserved g c =
    let window = c.args.window.now in
    let here = get_or-between window c.args.q (c.args.q + g.row.EDGES) c.loop-e.e 0 (omega arith) in
    past_on window (c.args.q + c.loop-e.e) _ (omega arith) c.loop-e.invariant (rw here at c.past_mark-past_here.ensures) ∙ ap (past_mark window 0) (omega arith)

pub compare_run-requires : goal.compare_run-requires
compare_run-requires g c =
    let pre = c.requires in (
      pre.can,
      omega (arith, placed_at pre c.to_ring-place.ensures, pre.end_le),
      omega (arith, length-between c.args.window.now c.args.q (c.args.q + g.row.EDGES) pre.end_le),
      λ r l. omega (arith, pre.each_le r l),
    )

pub returns : goal.returns
returns g c =
    let pre = c.requires in
    let all : c.args.q + c.loop-e.e ≡ c.args.q + g.row.EDGES = omega (arith, length-between c.args.window.now c.args.q (c.args.q + g.row.EDGES) pre.end_le) in
    run_counted_lem _ _ _ _ pre (placed_at pre c.to_ring-place.ensures) c.compare_run.ensures (c.loop-e.invariant ∙ ap (past_mark c.args.window.now 0) all)
