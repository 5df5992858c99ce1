-- Laws about vectors of bits in machine words. Start with HeldVectors: crates/sweep cites only its laws, as Rattle.vectors.proofs.HeldVectors.NAME;
-- crates/occurrences, which puts vectors together bit by bit, also laws about bits and words. Every law holds for any word count, except the laws of the last two
-- groups. Each group below uses only itself and the groups above it.

-- the bits of one word, of a vector, and of a vector given word by word
pub mod WordBits
pub mod VectorBits
pub mod WordByWord
-- what the definitions of Bits, Rotating and Holding mean: a bit put in, the first m bits, no bit, the shift, the rotation, and a held vector grown
pub mod OneBitPut
pub mod FirstBitsAreSet
pub mod NoBitIsSet
pub mod CarryBetweenWords
pub mod WrapToLastBit
pub mod HeldVectorGrows
-- vectors of four words, as the code makes them word by word
pub mod JoinedWords
pub mod GrownWords
pub mod GrownInFewestWords
-- what a caller cites; and that the contract of each function determines its result
pub mod HeldVectors
pub mod OneAnswer
