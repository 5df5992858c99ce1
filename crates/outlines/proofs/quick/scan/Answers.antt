-- `outlines::quick::scan` meets its contract: a row is given and the call is refused, or the line is scanned with an empty book (`empty_book_searched`). These are the
-- two ways in which a search meets its contract (`SearchAnswers` of crates/findings).
use mathlib.Core.Path.{refl, sym}
use Rattle.windows.proofs.LentParts.{open_lent}
use Rattle.answers.proofs.Returned.{returned}
use Rattle.findings.proofs.AdmitRows.{no_row_iff}
use Rattle.findings.proofs.SearchAnswers.{refused_search, accepted_search}
use Rattle.outlines.proofs.LentScan.{can_scan_line, searched_scanned}
use Rattle.outlines.proofs.EmptyBookIsScan.{empty_book_read, empty_book_searched}
use Rattle.outlines.proofs.quick.scan.Goals as goal

pub scan_line-counted-requires : goal.scan_line-counted-requires
scan_line-counted-requires c = can_scan_line (open_lent ((no_row_iff _ _ _ _).0 (sym c.in_ok-admit.ensures.is))) empty_book_read refl

-- Refused.
pub returns-in_err-admit : goal.returns-in_err-admit
returns-in_err-admit c = rw (returned c.from_residual.ensures.1) (refused_search c.in_err-admit.ensures.is)

-- Accepted.
pub returns : goal.returns
returns c =
    accepted_search c.in_ok-admit.ensures.is
    (empty_book_searched 0 0 (searched_scanned (open_lent ((no_row_iff _ _ _ _).0 (sym c.in_ok-admit.ensures.is))) c.scan_line-counted.ensures))
