-- `vertices::steps::class_of_size` meets its contract: the logarithm is the size's top bit (`class_is`), and above 30 it is taken as 30.
use native.Mathlib.Nat.{pow-suc}
use native.Mathlib.Omega.{arith}
use Rattle.vertices.proofs.BitLengths.{class_is}
use Rattle.vertices.proofs.steps.class_of_size.Goals as goal

pub returns : goal.returns
returns c =
    let size = c.args.larger in
    let top = c.ilog2.result in
    omega (arith, c.min.ensures, class_is {size = size} {j = top} (record { least = c.ilog2.ensures.power_le; most = omega (arith, pow-suc 2 top, c.ilog2.ensures.next_power_gt) }))
