-- The theorems about the calls on a book, and the laws that the proofs of functions cite. The theorems about the definitions are in crates/silences/proofs. A
-- function's own proof is in a folder by its file and name, as reading/read/Answers.antt. The theorems to read first (their heads name what they use):
--
--   SeekHides           seeking decides which findings a book hides
--   SeekRising          so does going on from the field held, with rising addresses, as the report does
--   RowsOfReading, RowsOfUnpacking    when each refusal is given, and where
--   OneAnswer           each contract has one answer
--
-- The modules below stand in groups; a group uses only itself and those before it.

-- answers, and what is known of an accepted book
pub mod OneAnswer
pub mod AcceptedBook
-- seeking: its equation, what it finds in an accepted book, and rising addresses
pub mod SeekFrom
pub mod SeekHides
pub mod SeekRising
-- the rows of each call
pub mod RowNumbers
pub mod RowsOfReading
pub mod RowsOfUnpacking
-- what the proofs of functions cite: a part of an area that is written, invariants of loops, and the cases of `unpack`
pub mod PartWritten
pub mod ReadLoop
pub mod SeekLoop
pub mod UnpackLoop
pub mod UnpackCases
