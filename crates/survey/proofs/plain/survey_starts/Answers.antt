-- `survey::plain::survey_starts` meets its contract: the loop keeps `SurveyKeeps`, and in a turn the start reached is a finding or not. The measure is n + 1 - i.
use mathlib.Core.Path.{sym, ◌∙◌}
use native.Mathlib.Omega.{arith}
use Rattle.windows.proofs.WindowEdges.{fits_whole, past_whole}
use Rattle.survey.proofs.SurveyLoop.{survey_start, survey_end, survey_found_le, survey_looks_le, survey_none, survey_found}
use Rattle.survey.proofs.plain.survey_starts.Goals as goal

pub loop-i-init : goal.loop-i-init
loop-i-init c = (c.whole_length-n.ensures, survey_start c.requires)

pub overflow_add-looks : goal.overflow_add-looks
overflow_add-looks c =
    omega (arith, survey_looks_le c.loop-i.invariant.1 (fits_whole c.loop-i.invariant.0 c.loop-i-test.true) c.verify_on-reached.ensures)

pub overflow_add-found : goal.overflow_add-found
overflow_add-found c =
    let keeps = c.loop-i.invariant.1 in
    omega (arith, survey_found_le keeps, keeps.start_le, keeps.can.can_survey.can_search.most_places)

-- A finding.
pub loop-i-preserved-then-is_finding : goal.loop-i-preserved-then-is_finding
loop-i-preserved-then-is_finding c = (
  c.loop-i.invariant.0,
  survey_found c.loop-i.invariant.1 (fits_whole c.loop-i.invariant.0 c.loop-i-test.true) c.verify_on-reached.ensures
      c.max-past.ensures (sym c.is_finding.ensures ∙ c.if-is_finding.true) c.finding_at.ensures c.put_finding.ensures,
)

-- No finding.
pub loop-i-preserved : goal.loop-i-preserved
loop-i-preserved c = (
  c.loop-i.invariant.0,
  survey_none c.loop-i.invariant.1 (fits_whole c.loop-i.invariant.0 c.loop-i-test.true) c.verify_on-reached.ensures
      c.max-past.ensures (sym c.is_finding.ensures ∙ c.if-is_finding.false),
)

pub returns : goal.returns
returns c = survey_end c.loop-i.invariant.1 (past_whole c.loop-i.invariant.0 c.loop-i-test.false)
