-- `silences::order::is_above` meets its contract: the first record is above; any other is if the one before it is below it (`derived_below`).
use Rattle.silences.proofs.DerivedOrder.{derived_below}
use Rattle.silences.proofs.order.is_above.Goals as goal

pub returns-in-Some : goal.returns-in-Some
returns-in-Some c = rw c.in-Some.is (cc (derived_below c.in-Some.before c.args.address))
