-- The plain survey. Survey has its contract, `IsSurveyed`, and then the preconditions and contracts of its private functions. ClosedSurvey has the contract
-- of the survey on a closed line, `IsClosedSurveyed`.
pub mod Survey
pub mod ClosedSurvey
