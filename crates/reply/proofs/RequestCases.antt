-- From what `read_request` returns to the contract of `answer`. The text of the request is the input's, and its line has at most 4,096 edges; the line of refusal 11
-- is the input's text too. And the text of `answer` lies within its array (`answer_within`).
use Prim.Native.Nat.{ℕ, ◌≤◌}
use mathlib.Core.Path.{◌≡◌, sym, ap, ◌∙◌}
use mathlib.Core.List.{List}
use Rattle.std.specs.Prelude.{Ok, Err}
use native.Mathlib.Omega.{arith}
use lib.ListN.{length}
use Rattle.lists.specs.Areas.{written}
use Rattle.answers.specs.declared.refusals.Refusal.{Refusal}
use Rattle.request.specs.declared.reading.Parts.{Parts}
use Rattle.request.specs.Fields.{line_field}
use Rattle.request.specs.RequestReading.{request_with, IsRequestRead}
use Rattle.request.proofs.ReadIsLaidDown.{line_at_most}
use Rattle.reply.specs.Lines.{refusal_line}
use Rattle.reply.specs.Answering.{request_text, text_by, answer_text, IsAnswered}
use Rattle.reply.specs.Writing.{IsText}
use Rattle.lists.proofs.Areas.{written_le}

-- A text that is the input's, written whole, meets the contract of `answer`.
pub answered_by : {input text area out : List ℕ} {long : ℕ} → text ≡ answer_text input → IsText text area long out → IsAnswered input area long out
answered_by {area = area} e is_text = record {
  long_is = is_text.long_is ∙ ap length e;
  written = is_text.written ∙ ap (λ (l : List ℕ). written l area) e;
}

module _ {input : List ℕ} where
  -- The line of the request with these parts has at most 4,096 edges.
  pub parts_line_le : {p : Parts} → IsRequestRead input (Ok p) → length p.line.now ≤ line_field.most
  parts_line_le read = line_at_most input (sym read.is)

  -- The text of the request with these parts is the input's.
  pub parts_text : {p : Parts} → IsRequestRead input (Ok p) → request_text (request_with p) ≡ answer_text input
  unfolding answer_text
  parts_text read = ap text_by read.is

  -- The line of the refusal is the input's text.
  pub refused_line : {refusal : Refusal} → IsRequestRead input (Err refusal) → refusal_line refusal ≡ answer_text input
  unfolding answer_text
  refused_line read = ap text_by read.is

-- The text of `answer` is no longer than its array.
pub answer_within : {input area out : List ℕ} {long : ℕ} → IsAnswered input area long out → long ≤ length out
answer_within {input} {area} answered = omega (arith, answered.long_is, written_le (answer_text input) area answered.written)
