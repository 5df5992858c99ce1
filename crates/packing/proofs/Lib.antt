-- The theorems about `pack`, and the laws that the proofs of functions cite. The theorems about the definitions are in crates/silences/proofs. A function's own
-- proof is in a folder by its file and name, as packing/pack/Answers.antt. The theorems to read first (their heads name what they use):
--
--   RowsOfPacking        when each refusal is given, and where
--   RoundTripsOfCalls    `pack` and `unpack` undo each other
--   OneAnswer            the contract has one answer

-- the theorems
pub mod OneAnswer
pub mod RowsOfPacking
pub mod RoundTripsOfCalls
-- what the proofs of functions cite: writing a field, invariants of loops, and the cases of `pack`
pub mod FieldPut
pub mod FieldsLoop
pub mod JudgeLoop
pub mod PackCases
