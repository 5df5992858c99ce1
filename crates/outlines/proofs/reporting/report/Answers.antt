-- `outlines::reporting::report` meets its contract: one of the search's rows is given; none of them is, and the book is refused; or the line is scanned with the
-- book (`ReportAnswers`).
use mathlib.Core.Path.{refl, sym}
use Rattle.windows.proofs.LentParts.{open_lent}
use Rattle.answers.proofs.Returned.{returned}
use Rattle.findings.proofs.AdmitRows.{no_row_iff}
use Rattle.outlines.proofs.LentScan.{can_scan_line, searched_scanned}
use Rattle.outlines.proofs.ReportAnswers.{read_accepted, read_refused, report_refused_row, report_refused_book, report_accepted}
use Rattle.outlines.proofs.reporting.report.Goals as goal

pub scan_line-requires : goal.scan_line-requires
scan_line-requires c =
    can_scan_line (open_lent ((no_row_iff _ _ _ _).0 (sym c.in_ok-admit.ensures.is)))
    (read_accepted c.in_ok-read.ensures refl) refl

-- One of the search's rows is given.
pub returns-in_err-admit : goal.returns-in_err-admit
returns-in_err-admit c = rw (returned c.from_residual.ensures.1) (report_refused_row c.in_err-admit.ensures.is)

-- One of the book's rows is given.
pub returns-in_err-read : goal.returns-in_err-read
returns-in_err-read c = rw (returned c.from_residual-in_err-read.ensures.1) (report_refused_book c.in_ok-admit.ensures.is (read_refused c.in_err-read.ensures refl))

-- Accepted.
pub returns : goal.returns
returns c =
    report_accepted c.in_ok-admit.ensures.is (read_accepted c.in_ok-read.ensures refl)
    (searched_scanned (open_lent ((no_row_iff _ _ _ _).0 (sym c.in_ok-admit.ensures.is))) c.scan_line.ensures)
