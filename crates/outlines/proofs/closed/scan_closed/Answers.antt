-- `outlines::closed::scan_closed` meets its contract: a row is given and the call is refused, or the join area is filled and the closed line is scanned with an empty
-- book (`LentParts` of crates/windows, `empty_book_searched`). These are the two ways in which a search on a closed line meets its contract (`ClosedSearchAnswers` of crates/findings).
use mathlib.Core.Path.{refl, sym}
use Rattle.windows.proofs.LentParts.{closed_lent, closed_joined}
use Rattle.answers.proofs.Returned.{returned}
use Rattle.findings.proofs.ClosedAdmitRows.{closed_no_row_iff}
use Rattle.findings.proofs.ClosedSearchAnswers.{refused_closed_search, accepted_closed_search}
use Rattle.outlines.proofs.LentScan.{can_scan_line, searched_scanned}
use Rattle.outlines.proofs.EmptyBookIsScan.{empty_book_read, empty_book_searched}
use Rattle.outlines.proofs.closed.scan_closed.Goals as goal

pub scan_line-counted-requires : goal.scan_line-counted-requires
scan_line-counted-requires c =
    can_scan_line (closed_lent ((closed_no_row_iff _ _ _ _ _).0 (sym c.in_ok-admit_closed.ensures.is)) c.fill_join-used.ensures) empty_book_read refl

-- Refused.
pub returns-in_err-admit_closed : goal.returns-in_err-admit_closed
returns-in_err-admit_closed c = rw (returned c.from_residual.ensures.1) (refused_closed_search c.in_err-admit_closed.ensures.is)

-- Accepted.
pub returns : goal.returns
returns c =
    let admitted = (closed_no_row_iff _ _ _ _ _).0 (sym c.in_ok-admit_closed.ensures.is) in
    accepted_closed_search c.in_ok-admit_closed.ensures.is (empty_book_searched 0 0 (searched_scanned (closed_lent admitted c.fill_join-used.ensures) c.scan_line-counted.ensures))
    (closed_joined admitted c.fill_join-used.ensures)
