-- `tally::counts::Tally::count_afresh` meets its contract: its two returns are the two cases of the test (`CountCases`).
use mathlib.Core.Path.{◌∙◌, sym}
use Rattle.tally.proofs.CountCases.{can_count_iff, counted_yes, counted_no}
use Rattle.tally.proofs.counts.Tally.count_afresh.Goals as goal

-- The window cannot be counted.
pub returns-then-not-can_count : goal.returns-then-not-can_count
returns-then-not-can_count c = counted_no _ _ _ (sym c.can_count.ensures ∙ c.if-not-can_count.true)

pub count_edges-requires : goal.count_edges-requires
count_edges-requires c =
    (can_count_iff _ _ _).0 (sym c.can_count.ensures ∙ c.if-not-can_count.false)

-- The window is counted.
pub returns : goal.returns
returns c =
    counted_yes _ _ _ _ _ (sym c.can_count.ensures ∙ c.if-not-can_count.false) c.count_edges.ensures
