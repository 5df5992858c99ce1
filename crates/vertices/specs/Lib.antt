-- A boundary from its vertices: document 02, ticket 7. Read the modules in this order:
--
--   Steps           octant, length class and code of an edge, from its steps north and east
--   Boundary        the vertices of a list of numbers, equal neighbours, and the edges of the boundary
--   Importing       the refusals 15, 16, 10 in their order, and the contract of `import_vertices`
--   ImportRows      these rows once more, in plain comparisons over an answer's number, place and count
--   ImportSamples   codes, rows and edges worked out by hand, computed
--   Sizes, Putting  what private functions use
pub mod Steps
pub mod Boundary
pub mod Importing
pub mod ImportRows
pub mod ImportSamples
pub mod Sizes
pub mod Putting
