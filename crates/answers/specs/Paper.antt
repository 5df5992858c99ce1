-- Document 01, "What each call returns": the form of every call's answer, and its number, place and counts.
--
--   Answer          a call's result, or a refusal
--   Paper           number, place and counts, as the document's table and sentences give them
--   answer_paper    the paper of an answer
--   answer_from     a returned `Result` as an answer
--
-- Each call has its own counts (found and looks; found, hidden and looks; records). Here they are the parameter C.
use Rattle.std.specs.Prelude.{ℕ}
use Rattle.std.specs.Prelude.{Result, Ok, Err}
use Rattle.answers.specs.declared.refusals.Refusal.{Refusal}
use Rattle.answers.specs.Refusals.{number_of, place_of}

-- A call is accepted and returns its result, or it is refused.
pub data Answer (A : Type 0) : Type 0 where
  accepted : A → Answer A
  refused : Refusal → Answer A

-- Number, place and counts of an answer. The table's rows are numbered from 1; an accepted answer has no row, and has number 0 and place 0.
pub record Paper (C : Type 0) : Type 0 where
  pub number : ℕ
  pub place : ℕ
  pub counts : C

-- The paper of an answer. "A refusal carries its number and place, zero in every count": `zeros` is the call's counts, all of them 0.
abbrev pub answer_paper : {C : Type 0} → C → Answer C → Paper C
answer_paper zeros (accepted counts) = record { number = 0; place = 0; counts = counts }
answer_paper zeros (refused refusal) = record { number = number_of refusal; place = place_of refusal; counts = zeros }

-- What a call returns, as an answer: `Ok` if it is accepted, and then `counts` reads the document's counts off the value in it; `Err` if it is refused.
abbrev pub answer_from : {A C : Type 0} → (A → C) → Result A Refusal → Answer C
answer_from counts (Ok value) = accepted (counts value)
answer_from counts (Err refusal) = refused refusal
