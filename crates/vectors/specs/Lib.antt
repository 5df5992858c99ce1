-- Vectors of bits kept in machine words, with which the scan decides the fit of rule 2. Read in this order:
--
--   Bits       the bits of a vector of any word count; one bit put in, the first m bits set, no bit set
--   Rotating   a vector of m bits rotated by one place
--   Holding    the held vector grown by one edge
--   ByValue    what this crate's functions return, on vectors of four words
--   Samples    all of these computed on examples
pub mod Bits
pub mod Rotating
pub mod Holding
pub mod ByValue
pub mod Samples
