-- `windows::windows::part` meets its contract: m edges from i on fit exactly if both parts can be taken (`WindowEdges`).
use native.Mathlib.Omega.{arith}
use Rattle.windows.proofs.WindowEdges.{part_of}
use Rattle.windows.proofs.windows.part.Goals as goal

-- The window fits.
pub returns : goal.returns
returns c =
    let rest = c.in-Some.ensures.lookup.0 in
    let edges = c.in-Some-get.ensures.lookup.0 in
    part_of _ _ _ (omega (arith, rest, edges)) rest.2 edges.2
