-- `survey::plain::survey` meets its contract: a row is given and the call is refused, or the line is surveyed. These are the two ways in which a search meets its
-- contract (`SearchAnswers` of crates/findings).
use mathlib.Core.Path.{refl, sym}
use Rattle.windows.proofs.LentParts.{open_lent}
use Rattle.answers.proofs.Returned.{returned}
use Rattle.findings.proofs.AdmitRows.{no_row_iff}
use Rattle.findings.proofs.SearchAnswers.{refused_search, accepted_search}
use Rattle.survey.proofs.LentSurvey.{can_survey_line, searched_surveyed}
use Rattle.survey.proofs.plain.survey.Goals as goal

pub survey_line-requires : goal.survey_line-requires
survey_line-requires c = can_survey_line (open_lent ((no_row_iff _ _ _ _).0 (sym c.in_ok-admit.ensures.is))) refl

-- Refused.
pub returns-in_err-admit : goal.returns-in_err-admit
returns-in_err-admit c = rw (returned c.from_residual.ensures.1) (refused_search c.in_err-admit.ensures.is)

-- Accepted.
pub returns : goal.returns
returns c =
    accepted_search c.in_ok-admit.ensures.is
    (searched_surveyed (open_lent ((no_row_iff _ _ _ _).0 (sym c.in_ok-admit.ensures.is))) c.survey_line.ensures)
