-- `vertices::steps::Steps::code` meets its contract: class and octant are those of the steps, and 8·30 + 7 fits a byte.
use native.Mathlib.Omega.{arith}
use Rattle.std.proofs.lemmas.Int.{to_z-of_z}
use Rattle.vertices.proofs.Octants.{octant_lt}
use Rattle.vertices.proofs.Codes.{code_is}
use Rattle.vertices.proofs.steps.Steps.code.Goals as goal

pub overflow_add-result : goal.overflow_add-result
overflow_add-result c =
    omega (arith, c.class_of_size.ensures, c.octant.ensures, octant_lt c.args.self.north c.args.self.east)

pub returns : goal.returns
returns c = grind (arith, to_z-of_z, code_is)
