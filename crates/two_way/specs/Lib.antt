-- The two-way scan of document 02, ticket 6. Read the modules in this order:
--
--   Admitting     the refusals 1, 12, 2, 14, 3, 4 in their order
--   TwoWay        the contract of `scan_two_way`: found and looks of both passes, and the lent words at exit
--   TwoWayRows    these rows once more, in plain comparisons over an answer's number, place and counts
--   TwoWaySamples rows and answers worked out by hand, computed
--   Passes        precondition and contract of the private function that makes the second pass
pub mod Admitting
pub mod TwoWay
pub mod TwoWayRows
pub mod TwoWaySamples
pub mod Passes
