-- Tagged fields, document 01's house format: what all fields share, whatever their tag and value. Read in this order:
--
--   Numbers   numbers in bytes, high byte first, and the contract of `number_at`
--   Tagged    the bytes of a field, its length, its end, and whether it is whole
--   Samples   both computed on the document's sample input
pub mod Numbers
pub mod Tagged
pub mod Samples
