-- The laws of this crate, one module for each idea, in the order in which they build on each other. The proofs that the functions meet their contracts cite the first
-- group; each stands in a folder with the function's name, as reading/read_words. The theorem of the crate is `swept_by_rules` (SweptByRules): for a ring
-- without marks, with its own tables and a join area that is right, the sweep is what rules 1 to 5 give for the whole line.
--
-- What the functions compute, whatever tables and counts they are lent.
pub mod ReadTurns
pub mod WindowTurns
pub mod TallyWays
pub mod SweepWays
pub mod SweepCases
-- If the ring holds no mark, vectors and double are its own, the counts are a tally and the join area is right, this is what the rules give.
pub mod ReadByRules
pub mod WindowsStopped
pub mod WindowsByRules
pub mod TallyByRules
pub mod SweptByRules
-- Any two answers that meet the contract are equal.
pub mod OneAnswer
