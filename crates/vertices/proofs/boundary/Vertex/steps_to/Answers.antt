-- `vertices::boundary::Vertex::steps_to` meets its contract: the difference of two numbers of 32 bits fits 64 bits, and is exact.
use mir.Syntax.{w32}
use mir.Val.{SFits}
use Rattle.vertices.proofs.MachineNumbers.{read_difference, read_difference_fits}
use Rattle.vertices.proofs.boundary.Vertex.steps_to.Goals as goal

pub overflow_sub-result : goal.overflow_sub-result
overflow_sub-result c =
    let to : SFits w32 c.args.to.north = search in
    let from : SFits w32 c.args.self.north = search in
    rw (c.from.ensures, c.from-2.ensures) (read_difference_fits c.args.to.north c.args.self.north to from)

pub overflow_sub-result-2 : goal.overflow_sub-result-2
overflow_sub-result-2 c =
    let to : SFits w32 c.args.to.east = search in
    let from : SFits w32 c.args.self.east = search in
    rw (c.from-3.ensures, c.from-4.ensures) (read_difference_fits c.args.to.east c.args.self.east to from)

pub returns-clause-north : goal.returns-clause-north
returns-clause-north c =
    let to : SFits w32 c.args.to.north = search in
    let from : SFits w32 c.args.self.north = search in
    rw (c.from.ensures, c.from-2.ensures) (read_difference c.args.to.north c.args.self.north to from)

pub returns-clause-east : goal.returns-clause-east
returns-clause-east c =
    let to : SFits w32 c.args.to.east = search in
    let from : SFits w32 c.args.self.east = search in
    rw (c.from-3.ensures, c.from-4.ensures) (read_difference c.args.to.east c.args.self.east to from)
