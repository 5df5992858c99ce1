-- The laws of this crate, one module for each idea, in the order in which they build on each other. The proofs that the functions meet their contracts cite them;
-- each stands in a folder with the function's name, as steps/change. The theorem of the crate is `moved_tallied` (MovedTallied): the moved tally of a start is the
-- tally of the start reached, if the join area is right.
--
-- The next rotation, and the one before.
pub mod NextRotation
-- Which ring edge the leaving and the entering edge are compared with.
pub mod EdgesMeetRing
-- What a step and a move compute, whatever the counts hold.
pub mod ChangeLoop
pub mod RenumberLoop
pub mod SteppedCounts
pub mod MoveLoop
pub mod MoveCases
-- A start's tally, stepped and moved, is a start's tally.
pub mod StepTallied
pub mod MovedTallied
-- Any two answers that meet the contract are equal.
pub mod OneAnswer
