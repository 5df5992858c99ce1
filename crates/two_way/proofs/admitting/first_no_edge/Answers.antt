-- `two_way::admitting::first_no_edge` meets its contract: `position` asks the codes one after the other (`FirstNoEdge`).
use Rattle.std.proofs.Common.{rules}
use borrow.Author.Tests.{tests}
use Rattle.std.proofs.lemmas.Iterator.{YieldsList-from_slice}
use Rattle.std.proofs.lemmas.Iterator.Search.{position_from_yields_List}
use Rattle.two_way.proofs.FirstNoEdge.{not_edge, position_says}
use Rattle.two_way.proofs.admitting.first_no_edge.Goals as goal

pub returns : goal.returns
returns c =
    position_says _
    (position_from_yields_List not_edge _ _ c.position.result c.position.ensures.ran (YieldsList-from_slice c.args.ring.now cc)
    (λ x b q k. search (rules, tests)))
