-- Laws of reading the report program's input, and what the proofs of the functions cite.
pub mod FieldStands
pub mod FieldEnds
pub mod RowElevenIff
pub mod RequestRead
pub mod LaidDownRead
pub mod ReadIsLaidDown
pub mod OneAnswer
