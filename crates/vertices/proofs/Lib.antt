-- The laws of this crate, in the order in which they build on each other. Read the statements of these first:
--
--   MachineNumbers `read_difference`  the code's differences are exact, for every two numbers of 32 bits
--   Octants        `octant_0_iff`, `octant_1_iff`   octants 0 and 1 are where the document's inequalities hold
--                  `octant_iff`       the steps lie in an octant, in the document's words, exactly when it is the computed one
--                  `one_octant`       every two steps but (0, 0) lie in exactly one octant
--   OctantBySizes  `quarter_turn`     a quarter turn clockwise leads two octants further on
--   BitLengths     `class_iff`        class c below 30 is where 2^c ≤ size < 2^(c+1)
--                  `class_30_iff`     class 30 is where the size is at least 2^30
--   Codes          `code_iff`         a code has the octant and the class of the steps exactly when it is the computed one
--                  `code_back`        the edge drawn the other way has the reversed code
--   BoundaryEdges  `edge_has`         each edge of a boundary has the octant and the class of its steps
--                  `edges_lt`, `no_mark`   every edge is at most 247, and none is a mark
--   SameBoundary   `edge_back`        the edge from b to a has the reversed code of the edge from a to b
--                  `moved_edges`, `begun_edges`, `opposite_edges`   the same boundary moved, begun at another vertex, in opposite order
--   MovedAnswer    `moved_answer`     a moved boundary has the same answer, refused or not
--   RowsOfImport   `rows_of_import`   the table of refusals, for every answer of `import_vertices`
--   OneAnswer      `import_unique`    the contract has one answer
--
-- Whole numbers, and how the machine reads them.
pub mod WholeNumbers
pub mod MachineNumbers
-- One edge.
pub mod OctantBySizes
pub mod Octants
pub mod BitLengths
pub mod Codes
-- A boundary: equal neighbours, its edges, and the same boundary given in another way.
pub mod EqualPairs
pub mod BoundaryEdges
pub mod SameBoundary
-- The refusals, the returns of `import_vertices`, and what follows for every answer.
pub mod ImportAdmitRows
pub mod ImportCases
pub mod OneAnswer
pub mod RowsOfImport
pub mod MovedAnswer
