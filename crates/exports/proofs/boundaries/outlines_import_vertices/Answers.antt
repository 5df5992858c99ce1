-- `exports::boundaries::outlines_import_vertices` meets its contract: it returns the answer of `import_vertices` as a struct.
use Rattle.exports.proofs.PassedOn.{import_place}
use Rattle.exports.proofs.boundaries.outlines_import_vertices.Goals as goal

pub count_answer-requires : goal.count_answer-requires
count_answer-requires c = import_place c.import_vertices.ensures
