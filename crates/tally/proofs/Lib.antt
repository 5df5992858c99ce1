-- The laws of this crate, one module for each idea, in the order in which they build on each other. The proofs that the functions meet their contracts cite
-- them; each stands in a folder with the function's name, as counts/least_of. The theorem of the crate is `counted_verified` (AfreshTallied): a fresh count of a
-- start's window gives that start's tally.
--
-- The place just past the last mark.
pub mod PastMark
-- What is read off the counts: the least count, the lowest rotation that has it, and how many rotations have it.
pub mod LeastSoFar
pub mod LeastIsOne
pub mod LowestLoop
pub mod TiesLoop
-- A write to the first of the counts.
pub mod StoredFront
-- The fresh count: what `double`, `count_run`, `count_part` and `count_edges` compute.
pub mod DoubledLoop
pub mod SomeCounted
pub mod AfreshLoop
pub mod CountCases
-- A start's tally decides whether it is a finding; a fresh count gives that tally.
pub mod TallyFinding
pub mod AfreshTallied
-- Any two answers that meet a contract are equal.
pub mod OneAnswer
