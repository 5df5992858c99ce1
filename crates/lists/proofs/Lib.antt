-- Laws about lists, areas and tests that several crates cite. They mention no ring, no line and no book. A module uses only modules above it.
--
--   Cases         proofs by cases: on a test, on a conjunction, on the order of two numbers
--   SizesTested   a test joined with the condition that it decides: `lt_iff`, `and_iff`, ..
--   Bounds        every number of a list is below a bound
--   ByPlace       `list_of`, place by place
--   StoreLoop     the loop that stores one number a turn, and what it leaves
--   Areas         an area after numbers are written into it
--   Records       records laid out as numbers, and read back
pub mod Cases
pub mod SizesTested
pub mod Bounds
pub mod ByPlace
pub mod StoreLoop
pub mod Areas
pub mod Records
