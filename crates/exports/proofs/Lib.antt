-- Proofs that each exported call meets its demands (SearchDemands, BookDemands, ReportDemands, ClosedDemands, TwoWayDemands, ImportDemands, from RowsAgree) and has one
-- answer only (OneAnswer); laws that the functions' proofs cite (BookPlaces, ReportPlaces, PassedOn).
pub mod RowsAgree
pub mod SearchDemands
pub mod BookDemands
pub mod ReportDemands
pub mod ClosedDemands
pub mod TwoWayDemands
pub mod BookPlaces
pub mod ReportPlaces
pub mod PassedOn
pub mod OneAnswer
pub mod ImportDemands
