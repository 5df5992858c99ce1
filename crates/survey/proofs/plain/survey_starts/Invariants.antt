-- `survey::plain::survey_starts` meets its contract: the loop keeps `SurveyKeeps`, and in a turn the start reached is a finding or not. The measure is n + 1 - i.
use Prim.Native.Nat.{◌+◌, ◌-◌}
use lib.ListN.{length}
use Rattle.windows.specs.Windows.{parts_of, IsWholeLength, whole_line}
use Rattle.survey.proofs.SurveyLoop.{SurveyKeeps}
use Rattle.survey.proofs.plain.survey_starts.Given as goal

abbrev pub invariant-loop-i : goal.invariant-loop-i
invariant-loop-i l =
    IsWholeLength (length l.ring) (parts_of l.parts) l.n × SurveyKeeps l.ring l.doubled (parts_of l.parts) l.k l.initial.words l.i l.found l.looks l.past l.tally.counts l.words

abbrev pub decreases-loop-i : goal.decreases-loop-i
decreases-loop-i l = length (whole_line (length l.ring) (parts_of l.parts)) + 1 - l.i
