-- `outlines::closed::report_closed` meets its contract: one of the search's rows is given; none of them is, and the book is refused; or the join area is filled and the
-- closed line is scanned with the book (`LentParts` of crates/windows, `ClosedReportAnswers`).
use mathlib.Core.Path.{refl, sym}
use Rattle.windows.proofs.LentParts.{closed_lent, closed_joined}
use Rattle.answers.proofs.Returned.{returned}
use Rattle.findings.proofs.ClosedAdmitRows.{closed_no_row_iff}
use Rattle.outlines.proofs.LentScan.{can_scan_line, searched_scanned}
use Rattle.outlines.proofs.ReportAnswers.{read_accepted, read_refused}
use Rattle.outlines.proofs.ClosedReportAnswers.{closed_report_refused_row, closed_report_refused_book, closed_report_accepted}
use Rattle.outlines.proofs.closed.report_closed.Goals as goal

pub scan_line-requires : goal.scan_line-requires
scan_line-requires c =
    can_scan_line (closed_lent ((closed_no_row_iff _ _ _ _ _).0 (sym c.in_ok-admit_closed.ensures.is)) c.fill_join-used.ensures)
    (read_accepted c.in_ok-read.ensures refl) refl

-- One of the search's rows is given.
pub returns-in_err-admit_closed : goal.returns-in_err-admit_closed
returns-in_err-admit_closed c = rw (returned c.from_residual.ensures.1) (closed_report_refused_row c.in_err-admit_closed.ensures.is)

-- One of the book's rows is given.
pub returns-in_err-read : goal.returns-in_err-read
returns-in_err-read c = rw (returned c.from_residual-in_err-read.ensures.1) (closed_report_refused_book c.in_ok-admit_closed.ensures.is (read_refused c.in_err-read.ensures refl))

-- Accepted.
pub returns : goal.returns
returns c =
    let admitted = (closed_no_row_iff _ _ _ _ _).0 (sym c.in_ok-admit_closed.ensures.is) in
    closed_report_accepted c.in_ok-admit_closed.ensures.is (read_accepted c.in_ok-read.ensures refl)
    (searched_scanned (closed_lent admitted c.fill_join-used.ensures) c.scan_line.ensures) (closed_joined admitted c.fill_join-used.ensures)
