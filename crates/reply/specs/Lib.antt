-- Writing the report program's text. Decimal, Lines and Answering state document 01, Lines with ticket 1 of document 02. Answering also has the contract of `answer`,
-- Writing those of the private functions. The checker computes the claims of Samples.
pub mod Decimal
pub mod Lines
pub mod Answering
pub mod Writing
pub mod Samples
