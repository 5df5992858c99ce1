-- The laws of this crate, one module for each idea, in the order in which they build on each other. The proofs that the functions meet their contracts cite
-- them; each stands in a folder with the function's name, as plain/verify_on.
--
-- What `verify_on` does, and the loop over it.
pub mod SurveyCases
pub mod SurveyLoop
-- What a call lends to the survey, on an open line and on a closed one.
pub mod LentSurvey
-- What follows for every answer that meets the contract; any two such answers are equal.
pub mod SurveyGives
pub mod ClosedSurveyGives
pub mod OneAnswer
