-- The laws of this crate, one module for each idea, in the order in which they build on each other. The proofs that the functions meet their contracts cite
-- them; each stands in a folder with the function's name: marks/is_mark, marks/holds_mark, admitting/admit_ring, admitting/within_limits,
-- admitting/admit, closed/admit_closed, putting/four_words, putting/put_finding. (putting/word needs none.)
--
-- Seeking a mark.
pub mod MarkSought
-- Rows 1, 12, 2, 3, 4, and on a closed line 10: when each is the first that is given; and that without a mark they are document 01's.
pub mod LimitRows
pub mod AdmitRows
pub mod ClosedAdmitRows
pub mod RowsUnmarked
-- What a `?` returns for a refusal; an accepted call is within the limits of a search.
pub mod WithinLimits
-- A finding's words in the lent words.
pub mod WordsPut
pub mod PutCases
pub mod WordsSoFar
-- Laws of both searches, survey and scan.
pub mod SearchAnswers
pub mod SearchGives
pub mod RowsOfSearching
-- The same on a closed line, with the join area.
pub mod JoinAtExit
pub mod ClosedSearchAnswers
pub mod RowsOfClosedSearching
-- Any two answers that meet a contract are equal.
pub mod OneAnswer
