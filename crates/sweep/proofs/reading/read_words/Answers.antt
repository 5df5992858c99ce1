-- `sweep::reading::read_words` meets its contract: the loop keeps `StillToRead`. A turn grows the held vector, or sets every bit again at a break, or stops at
-- break k + 1 or at a mark.
use mathlib.Core.Path.{refl, sym, ◌∙◌}
use native.Mathlib.Omega.{arith}
use Rattle.sweep.proofs.ReadTurns.{to_read_all, to_read_none, to_read_stops, to_read_empties, to_read_grows}
use Rattle.sweep.proofs.reading.read_words.Goals as goal

pub loop-left-init : goal.loop-left-init
loop-left-init c =
    rw (
      c.into_iter-left-iterator.ensures.into_iter_gives,
      c.rev-left-items.ensures.source,
      c.enumerate.ensures.source,
      c.enumerate.ensures.count,
      c.iter.ensures.rest,
      c.first_bits-full.ensures,
    ) (refl, refl, to_read_all _ _ _ _)

-- A mark, or break k + 1.
pub returns-then-stops_at : goal.returns-then-stops_at
returns-then-stops_at c =
    let came = c.in-Some.ensures.steps.1 in
    to_read_stops c.loop-left.invariant.2 _ _ c.in-Some.left came.0 (omega arith) c.vector_of.ensures c.grown-next.ensures
    (sym c.no_bit.ensures ∙ c.if-no_bit.true) c.stops_at.ensures c.if-stops_at.true

-- A break before break k + 1.
pub loop-left-preserved-then-no_bit : goal.loop-left-preserved-then-no_bit
loop-left-preserved-then-no_bit c =
    let came = c.in-Some.ensures.steps.1 in
    let full = c.first_bits-full.ensures in (
      full,
      omega arith,
      rw full
          (to_read_empties c.loop-left.invariant.2 _ _ c.in-Some.left came.0 (omega arith) c.vector_of.ensures c.grown-next.ensures
          (sym c.no_bit.ensures ∙ c.if-no_bit.true) c.stops_at.ensures c.if-stops_at.false),
    )

-- No break: the stretch has grown.
pub loop-left-preserved : goal.loop-left-preserved
loop-left-preserved c =
    let came = c.in-Some.ensures.steps.1 in (
      c.first_bits-full.ensures,
      omega arith,
      to_read_grows c.loop-left.invariant.2 _ _ c.in-Some.left came.0 (omega arith) c.vector_of.ensures c.grown-next.ensures (sym c.no_bit.ensures ∙ c.if-no_bit.false),
    )

pub returns : goal.returns
returns c = to_read_none c.loop-left.invariant.2 c.in-None.ensures.steps.1.0
