-- What all calls share. Read in this order:
--
--   Refusals   document 01's table of refusals: the number and the place of each
--   Paper      an answer, accepted or refused; and its paper, which is its number, place and counts
--   Rows       a call's rows in their order, and what the first row that is given decides
--   Places     ring places and line places, and how one is turned into the other
pub mod Refusals
pub mod Paper
pub mod Rows
pub mod Places
