-- `findings::marks::holds_mark` meets its contract: `any` asks the edges for a mark (`MarkSought`).
use Rattle.std.proofs.Common.{rules}
use borrow.Author.Tests.{tests}
use Rattle.std.proofs.lemmas.Iterator.{YieldsList-from_slice}
use Rattle.std.proofs.lemmas.Iterator.Search.{any_from_yields_List}
use Rattle.meaning.specs.Meanings.{is_mark}
use Rattle.findings.proofs.MarkSought.{any_says}
use Rattle.findings.proofs.marks.holds_mark.Goals as goal

pub returns : goal.returns
returns c =
    any_says
    (any_from_yields_List is_mark _ _ c.any.result c.any.ensures.ran (YieldsList-from_slice c.args.edges.now cc)
    (λ x b q k. search (rules, tests)))
