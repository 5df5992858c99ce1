-- The theorems about silences and books, and the laws that the proofs of functions cite. A function's own proof is in a folder by its file and name, as
-- field/field_at/Answers.antt. The theorems to read first (their heads name what they use):
--
--   AcceptedIsBook              which books are accepted
--   HidesIff, ZeroIsOrdinary    which findings silences hide
--   BookRows, PackRows, UnpackRows    when each refusal is given, and where
--   RoundTrips                  packing and unpacking undo each other, and where they do not
--   OneAnswer                   each contract has one answer
--
-- The modules below stand in groups; a group uses only itself and those before it.

-- the order of addresses, and what silences hide
pub mod SilenceOrder
pub mod StrictOrder
pub mod DerivedOrder
pub mod AscendingAfter
pub mod HidesIff
pub mod ZeroIsOrdinary
-- one field: the test of row 6, its bytes and its silence, induction from field to field
pub mod FieldTest
pub mod FieldBytes
pub mod FieldInduction
-- reading: its equations, the walk from field to field, its rows, and which books are accepted
pub mod ReadFrom
pub mod FieldsRead
pub mod LayoutRead
pub mod BookRows
pub mod AcceptedIsBook
-- packing and unpacking: words and silences, the rows, the lent area at exit, the round trips
pub mod WordsOfSilences
pub mod RecordsPacked
pub mod RecordRows
pub mod PackRows
pub mod UnpackRows
pub mod AreaAtExit
pub mod RoundTrips
pub mod ExactBook
-- each function has one answer
pub mod OneAnswer
