-- The laws of this crate, one module for each idea, in the order in which they build on each other. The proofs that the functions meet their contracts cite
-- them; each stands in a folder with the function's name, as windows/part. The theorems of the crate are `whole_window` (WindowEdges): if the join area is right,
-- each window is the whole line's; and `closed_parts` (JoinFilled): with the filled area the whole line is the closed line.
--
-- The edges of a window.
pub mod WindowEdges
-- How the join area is filled, and that its windows are the closed line's.
pub mod JoinFilled
-- What a call lends to its search in either mode.
pub mod LentParts
-- Any two answers that meet a contract are equal.
pub mod OneAnswer
