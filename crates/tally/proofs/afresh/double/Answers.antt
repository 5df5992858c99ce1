-- `tally::afresh::double` meets its contract: the ring is copied to the first m places and to the next m, over zeros (`DoubledLoop`).
use Rattle.tally.proofs.DoubledLoop.{not_doubled, doubling_copied, doubling_end}
use Rattle.tally.proofs.afresh.double.Goals as goal

pub returns-then-m-gt-MOST_COUNTS : goal.returns-then-m-gt-MOST_COUNTS
returns-then-m-gt-MOST_COUNTS c = not_doubled _ c.if-m-gt-MOST_COUNTS.true

pub returns : goal.returns
returns c =
    doubling_end _ c.if-m-gt-MOST_COUNTS.false _ (doubling_copied _ c.if-m-gt-MOST_COUNTS.false c.copy_from_slice.ensures.after c.copy_from_slice-2.ensures.after)
