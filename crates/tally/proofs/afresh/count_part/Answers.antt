-- `tally::afresh::count_part` meets its contract: the loop keeps `CountingAfresh` for the part's own counts, and then they are added. A part has at most 255 edges, so
-- eight bits hold its counts. The measure is end - q.
use Rattle.tally.proofs.AfreshLoop.{part_begins, counting_afresh_start, counting_afresh_on, counting_afresh_turn, counting_part_add}
use Rattle.tally.proofs.afresh.count_part.Goals as goal

pub loop-q-init : goal.loop-q-init
loop-q-init c =
    counting_afresh_start (part_begins c.requires c.part_end-end.ensures) c.requires.past_is

pub count_some-counted-requires : goal.count_some-counted-requires
count_some-counted-requires c =
    counting_afresh_on (part_begins c.requires c.part_end-end.ensures) c.loop-q.invariant c.part_end-end.ensures.fits c.loop-q-test.true

pub loop-q-preserved : goal.loop-q-preserved
loop-q-preserved c =
    counting_afresh_turn (part_begins c.requires c.part_end-end.ensures) c.loop-q.invariant c.count_some-counted.ensures

pub add_part-requires : goal.add_part-requires
add_part-requires c =
    counting_part_add (part_begins c.requires c.part_end-end.ensures) c.loop-q.invariant c.requires
