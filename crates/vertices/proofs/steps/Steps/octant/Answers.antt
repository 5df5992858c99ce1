-- `vertices::steps::Steps::octant` meets its contract: the signs and sizes are those of the steps, and the octant by them is the octant of the steps.
use Rattle.std.proofs.Common.{arith}
use Rattle.std.proofs.lemmas.Int.{to_z-of_z}
use Rattle.vertices.proofs.OctantBySizes.{octant_by_signs}
use Rattle.vertices.proofs.steps.Steps.octant.Goals as goal

pub returns : goal.returns
returns c = grind (arith, to_z-of_z, octant_by_signs)
