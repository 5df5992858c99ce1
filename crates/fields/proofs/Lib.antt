-- Laws about numbers and fields in bytes. A module uses only modules above it.
--
--   NumberBytes    a number and its bytes: each is read back from the other
--   NumberWithin   `number_within` in each of its cases
--   NumberLoop     the invariant of `number_at`
--   FieldLaid      numbers and fields written one after the other, and read back
--   OneAnswer      the contract of `number_at` determines its result
--
-- Other crates cite NumberBytes, NumberWithin and FieldLaid.
pub mod NumberBytes
pub mod NumberWithin
pub mod NumberLoop
pub mod FieldLaid
pub mod OneAnswer
