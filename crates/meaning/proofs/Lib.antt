-- Theorems about the meanings and rules. Other crates cite them as Rattle.meaning.proofs.NAME. Read the statements of these thirteen modules first:
--
--   FoundExactly    `findings_iff`, `found_iff`            the list `findings` has exactly the findings
--   Ties            `ties_most`, `another_iff`             a finding has 1 to m ties, above 1 exactly when another rotation is as near
--   Rising          `findings_rising`, `findings_unique`   they are listed by strictly rising start, at most one for each start
--   FitDecided      `fits_iff`                             the test for a stretch that fits is right
--   NothingLost     `nothing_lost`, `no_start_to_mark`     a jump passes over no finding; up to a mark it passes over no start
--   QuickFindsAll   `quick_finds_all`                      the rules report exactly the findings
--   LookBound       `quick_looks_le`                        for n ≥ m the quick scan takes at most 3·m·n − 2·m·m + m looks
--   SurveyLooks     `survey_looks_is`                       for n ≥ m the plain survey takes 2·m·n − m·m looks
--   AroundCopy      `found_after`, `found_before_lem`          every start within k − d places of a copy with d differing edges is found
--                   `alone_between`                        between two marks a copy stands alone
--   WithoutMarks    `findings_before_lem`,                     on a line without marks findings and looks are those of document 01 before marks
--                   `quick_looks_before_lem`
--   ClosedFindings  `closed_findings_iff`                  the list `findings` of the closed line has exactly the findings of a line whose edges continue
--                                                          from the beginning after the last
--   OpenInClosed    `open_finding_iff`                     closing a line keeps its findings, and adds only those that cross its end
--   ClosedLooks     `closed_quick_looks_le`                 for n ≥ m the look bound of the closed line has n + m − 1 in place of n
--
-- The other modules are their lemmas, and what the proofs of code cite. Each group below uses only itself and the groups above it.

-- counts, the lowest number at which a function is least, whether some number below n passes a test, and the first that passes it: they mention no ring
pub mod Count
pub mod Lowest
pub mod Some
pub mod First
-- the meanings: marks, windows, starts, what a place gives, the list of findings, their ties, windows with the same edges, the stretch that fits, and a start
-- under a rotation as an alignment
pub mod Marks
pub mod Windows
pub mod Starts
pub mod Places
pub mod FindingsBelow
pub mod FoundExactly
pub mod Ties
pub mod Rising
pub mod SameWindow
pub mod FitDecided
pub mod Alignment
-- the rules: one window, the windows one after the other, that a jump loses nothing, and that all findings are reported
pub mod WindowRead
pub mod WindowSteps
pub mod CandidateStart
pub mod NothingLost
pub mod QuickFindsAll
-- looks
pub mod LookBound
pub mod BoundReached
pub mod SurveyLooks
-- how many words findings have
pub mod Words
-- what the proofs of code cite: a window as a list of its own, a step of the tally, and the invariants of the two loops
pub mod WindowAlone
pub mod TallyStep
pub mod WindowLoop
pub mod ScanLoop
-- the findings around one stored copy
pub mod AroundCopy
-- a line without marks has the answers that it had before there were marks
pub mod WithoutMarks
-- the closed line: its edges, its findings, those of the open line among them, its looks, and the join area
pub mod ClosedLine
pub mod ClosedFindings
pub mod OpenInClosed
pub mod ClosedLooks
pub mod JoinArea
