-- What a silence is, what a book is, and what reading, packing and unpacking give. Silences to Faults state document 01 and ticket 4 of document
-- 02. In reading order:
--
--   Silences     an address, a silence, the order of addresses, which findings a list of silences hides
--   Layout       the bytes of a book, and the table of tags
--   Books        what a field and a book are, as propositions
--   Reading      what reading any bytes gives: silences, or refusal 5, 6 or 7
--   Packing      what packing and unpacking give and write; refusals 7 to 10
--   Faults       when rows 6 to 9 of the table of refusals are given, as propositions
--   Addresses    what this crate's functions take and return (`Address`, `Field`, each perhaps missing) as kinds, addresses and fields
--   Samples      computed examples
pub mod Silences
pub mod Layout
pub mod Books
pub mod Reading
pub mod Packing
pub mod Faults
pub mod Addresses
pub mod Samples
