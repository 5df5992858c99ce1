-- `sweep::sweeping::sweep_on` meets its contract: a sweep that passes the test can go on (`SweepCases`).
use mathlib.Core.Path.{◌∙◌, sym}
use Rattle.sweep.proofs.SweepCases.{can_go_on}
use Rattle.sweep.proofs.sweeping.sweep_on.Goals as goal

pub to_candidate-requires : goal.to_candidate-requires
to_candidate-requires c =
    can_go_on c.whole_length.ensures (sym c.can_sweep.ensures ∙ c.if-not-can_sweep.false)
