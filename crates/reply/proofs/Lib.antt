-- Laws of the report program's text, and what the proofs of the functions cite.
pub mod DecimalDigits
pub mod TextWritten
pub mod PutLoop
pub mod FormLoop
pub mod WordsOfFindings
pub mod LinesLoop
pub mod RoomEnough
pub mod TextRoom
pub mod RequestAnswered
pub mod RequestCases
pub mod DecimalReadBack
pub mod RowsNeverGiven
pub mod OneText
pub mod TextOfInput
