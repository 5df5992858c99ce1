-- Scan and report. Read them in this order:
--
--   Scan               the contract of `scan`
--   Report             the contract of `report`: which findings are hidden and which are shown, the refusals 1 to 7 and 12, the counts, the words
--   ReportRows         these rows once more, in plain comparisons over an answer's number, place and counts
--   ClosedScan         the contract of `scan_closed`, the scan on a closed line
--   ClosedReport       the contract of `report_closed`, the report on a closed line
--   ClosedReportRows   its rows once more, in plain comparisons: 1, 12, 2, 3, 4, 10, 5, 6, 7; and the join area
--   Hiding             contracts of the private functions of src/asking.rt, which ask the book for one finding
--   LineScan           contracts of the private functions of src/quick.rt, which scan a line with a book
--   ReportSamples      document 01's samples with silences, and samples of ceilings, computed
pub mod Scan
pub mod Report
pub mod ReportRows
pub mod ClosedScan
pub mod ClosedReport
pub mod ClosedReportRows
pub mod Hiding
pub mod LineScan
pub mod ReportSamples
