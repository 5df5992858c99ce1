-- The laws of this crate, in the order in which they build on each other. The statements to read are those of TwoWayGives and RowsOfTwoWay.
-- That neither scan refuses: `forward_not_refused` (PassesAccepted) and `backward_not_refused` (BackwardPass).
--
-- The first place of a ring that has no edge code, and the rows in their order.
pub mod FirstNoEdge
pub mod TwoWayAdmitRows
-- The two passes: neither of their scans refuses, and together they meet the contract.
pub mod PassesAccepted
pub mod BackwardPass
pub mod TwoWayAnswers
-- What follows for every answer of the two-way scan.
pub mod OneAnswer
pub mod TwoWayGives
pub mod RowsOfTwoWay
