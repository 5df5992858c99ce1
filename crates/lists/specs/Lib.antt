-- Definitions about lists of numbers and lent areas, for several crates. They mention no ring, no line and no book.
-- No module here uses another, so they can be read in any order.
--
--   written, written_at         an area after numbers are written into it                                      Areas
--   AllBelow, all_below         every number of a list is below a bound: the fact, and the test                Bounds
--   IsBytes                     every number of a list is a byte (below 2^8)                                   Bounds
--   IsWords, is_words           every number of a list is a 32-bit word (below 2^32): the fact, and the test   Bounds
--   list_of                     the list of n numbers that has f p at place p                                  ByPlace
--   stored_first, StoredFirst   a list with f p stored at each of its first m places p; the same as facts      ByPlace
--   numbers_of_each             the numbers of a list of records, one record after the other                   Records
--   first_records, records_of   the records of a list of numbers: the first few, and all                       Records
--   ascii                       the ASCII codes of a text                                                      Texts
pub mod Areas
pub mod Bounds
pub mod ByPlace
pub mod Records
pub mod Texts
