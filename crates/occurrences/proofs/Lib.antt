-- Laws about the occurrence vectors of a ring. Start with VectorsOfRing: other crates cite only its laws, as Rattle.occurrences.proofs.VectorsOfRing.NAME. The laws of
-- WordOfPart hold for any part, those about slots and arrays for four. Each module below uses only those above it.

-- which places have a code; the slot and the word of a part and a code
pub mod LowestPlace
pub mod PlacesOfCode
pub mod SlotOfPart
pub mod WordOfPart
-- both arrays: slots and kept words, what a ring place changes in them, what is read off them, and the loops that write them
pub mod SlotsCleared
pub mod KeptWords
pub mod ArraysOfRing
pub mod PlaceCounted
pub mod VectorsRead
pub mod OccurrencesLoop
-- at most m words are not 0; what a caller cites; and that the contract of each function determines its result
pub mod FewWords
pub mod VectorsOfRing
pub mod OneAnswer
