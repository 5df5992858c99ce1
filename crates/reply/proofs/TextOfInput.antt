-- The program's text, by what its input is: an input that is not as laid down gives the line of refusal 11 with its place, and an input laid down from a request gives
-- that request's text.
use Prim.Native.Nat.{ℕ}
use mathlib.Core.Path.{◌≡◌, ap}
use mathlib.Core.List.{List}
use Rattle.request.specs.Input.{Request, laid_down, CanLayDown}
use Rattle.request.specs.RowEleven.{IsInputFault}
use Rattle.reply.specs.Lines.{refusal_line_of}
use Rattle.reply.specs.Answering.{request_text, text_by, answer_text}
use Rattle.request.proofs.LaidDownRead.{laid_down_read}
use Rattle.request.proofs.RowElevenIff.{row_11_iff}

-- "Refusal 11 comes before all others": where the input is not as laid down, the text is the one line `refused 11 place P`.
pub fault_text_is : (input : List ℕ) (place : ℕ) → IsInputFault input place → answer_text input ≡ refusal_line_of 11 place
unfolding answer_text
fault_text_is input place fault = ap text_by ((row_11_iff input place).1 fault)

-- Where the input is a request laid down, the text is that of the request.
pub laid_down_text_is : (q : Request) → CanLayDown q → answer_text (laid_down q) ≡ request_text q
unfolding answer_text
laid_down_text_is q can = ap text_by (laid_down_read q can)
