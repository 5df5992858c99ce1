-- The tally moved along the line, a step at a time. Moves has the contract of `move_tally` on every input, whatever the counts hold, and the record `IsReached`,
-- which states the result if the counts are a start's tally; `moved_tallied` of proofs/MovedTallied.antt joins the two.
pub mod Moves
