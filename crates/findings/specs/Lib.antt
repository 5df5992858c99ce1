-- What survey, scan and report share: the refusals 1 to 4 and 12, the answer of a search, and the words of a finding; and the same on a closed line, with
-- refusal 10. Read them in this order:
--
--   Marks              the tests for a boundary mark
--   Admitting          rows 1 to 4 of document 01's table and row 12 of document 02: when a call is refused, and by which row
--   Limits             what a search needs of its ring, allowance, whole line and words
--   Searching          the answer of survey and scan, and the lent words at exit: their contract `IsSearched`
--   SearchRows         these rows once more, in plain comparisons over an answer's number, place and counts
--   ClosedRows         rows 1, 12, 2, 3, 4 and 10 on a closed line
--   ClosedSearching    the answer of survey and scan on a closed line, the lent words and the join area at exit: their contract `IsClosedSearched`
--   ClosedSearchRows   these rows once more, in plain comparisons
--   Putting            what the lent words hold after one finding is put
--   BeforeMarks        the rows of a search before there were marks, for the law that nothing else has changed
pub mod Marks
pub mod Admitting
pub mod Limits
pub mod Searching
pub mod SearchRows
pub mod ClosedRows
pub mod ClosedSearching
pub mod ClosedSearchRows
pub mod Putting
pub mod BeforeMarks
