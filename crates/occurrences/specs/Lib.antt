-- The occurrence vectors of a ring's edge codes, held in a lent struct of two arrays. Read in this order; before it `Bits` and `ByValue` of crates/vectors:
--
--   EdgeVectors       what an occurrence vector is, and how the vector of a code is read off two arrays, whatever they hold
--   Storing           what the two arrays, slots and kept words, are for every ring
--   StoringSamples    both computed on examples
pub mod EdgeVectors
pub mod Storing
pub mod StoringSamples
