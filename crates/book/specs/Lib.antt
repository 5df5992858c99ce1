-- The calls on the silence book, except packing, which has a crate of its own. What a book is, and what reading and unpacking give, is defined in
-- crates/silences/specs; read that first. In reading order:
--
--   Seeking    what seeking an address in a book gives
--   Calls      the contracts of the public functions
--   Samples    computed examples of seeking
pub mod Seeking
pub mod Calls
pub mod Samples
