-- The laws of this crate, one module for each idea, in the order in which they build on each other. The proofs that the functions meet their contracts cite
-- them; each stands in a folder with the function's name, as quick/scan_windows. The statements to read are those of ScanGives and SameFindings, ShownExactly
-- and ShownAndHidden, and from RowsOfReport on.
--
-- What follows for every answer of a scan; survey and scan give the same findings.
pub mod ScanGives
pub mod OneScanAnswer
pub mod SameFindings
-- Which findings are shown and which are hidden.
pub mod TakenByTest
pub mod ShownExactly
pub mod ShownAndHidden
-- The loop of `scan_windows`: the book's part, the sweep's part, the whole.
pub mod AskCases
pub mod HeldFrom
pub mod SweepKeeps
pub mod QuickLoop
-- What a call lends to the scan, on an open line and on a closed one.
pub mod LentScan
-- The report's rows, and the ways in which it meets its contract.
pub mod FirstOfReport
pub mod ReportAnswers
-- What follows for every answer of a report.
pub mod ReportByRows
pub mod RowsOfReport
pub mod ReportOneAnswer
pub mod ReportGives
pub mod ShownRising
pub mod SilencesAlike
pub mod OneSilenceMore
pub mod ExactBooks
pub mod EmptyBookIsScan
-- Scan and report on a closed line.
pub mod ClosedScanGives
pub mod ClosedShown
pub mod ClosedReportAnswers
pub mod RowsOfClosedReport
pub mod ClosedReportGives
-- Rings and lines without marks.
pub mod ReportUnmarked
