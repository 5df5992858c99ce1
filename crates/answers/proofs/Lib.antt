-- Laws about answers, refusals and places. Other crates cite them as Rattle.answers.proofs.NAME. A module uses only modules above it.
--
--   AroundRing       `around`, the number mod m
--   Conversions      what `to_ring` and `to_line` return is what their definitions give
--   PlacesUndo       converting a place and converting it back gives the same place
--   PlaceSamples     the two conversions, computed on examples
--   AnswerCases      an answer is accepted or refused, not both
--   RefusalTable     the table of refusals once more, computed
--   FirstRow         `first_iff`: `first_given` is the first row that is given
--   RowsExactly      for each row of a call's list, exactly when it is the first
--   OneAnswer        number and place determine the refusal; the paper determines the answer
--   RefusalNumbers   from a paper's number and place to the refusal
--   AnswerByRows     from a paper's number and place to the first row that is given
--   Returned         what a `?` on a refusal returns
pub mod AroundRing
pub mod Conversions
pub mod PlacesUndo
pub mod PlaceSamples
pub mod AnswerCases
pub mod RefusalTable
pub mod FirstRow
pub mod RowsExactly
pub mod OneAnswer
pub mod RefusalNumbers
pub mod AnswerByRows
pub mod Returned
