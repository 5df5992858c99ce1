-- The tally of rule 5: one count of differing edges for each rotation. Marks and Counts have the contracts of the functions, on every input, whatever the counts
-- hold. Tallied says when counts are the tally of a start; `counted_verified` of proofs/AfreshTallied.antt joins the two. Read them in this order.
pub mod Marks
pub mod Counts
pub mod Tallied
