-- The packer of the silence book. What packing gives is defined in crates/silences/specs (Packing); read that first.
--
--   Calls      the contract of `pack`, the one public function
--   Judging    a definition for the contract of the private `judge`
--   Putting    the contract of the private `put_bytes` and `put_field`
pub mod Calls
pub mod Judging
pub mod Putting
