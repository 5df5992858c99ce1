-- The contract of `read_request`. It returns the parts of the input's request, with ring, line and book lent out of the input, or refusal 11.
--
--   request_with     the request with these parts
--   requested_of     the request, or the refusal, that a returned value stands for
--   PartsWithin      where ring, line and book lie in the input
--   IsRequestRead    the contract of `read_request`
use Rattle.std.specs.Prelude.{ℕ, ◌+◌, ◌≤◌, ◌≡◌, List, length, drop, IfOk}
use Rattle.std.specs.Prelude.{Result}
use Rattle.answers.specs.declared.refusals.Refusal.{Refusal}
use Rattle.answers.specs.Paper.{Answer, answer_from}
use Rattle.fields.specs.Tagged.{head_length}
use Rattle.request.specs.declared.reading.Parts.{Parts}
use Rattle.request.specs.Fields.{line_field, between}
use Rattle.request.specs.Input.{Request, request_of}

-- The request with these parts: its numbers, and the bytes lent.
abbrev pub request_with : Parts → Request
request_with p = record {
  cell = p.cell;
  ring_number = p.ring_number;
  allowance = p.allowance;
  ring = p.ring.now;
  line = p.line.now;
  book = p.book.now;
}

-- The request, or the refusal, that a returned value stands for.
abbrev pub requested_of : Result Parts Refusal → Answer Request
requested_of = answer_from request_with

-- Where ring, line and book lie in the input: the ring from one byte offset up to another, the line likewise, and the book from the line's end on. The offsets lie
-- one after the other in the input, the line begins a field's head (3 bytes) after the ring's end, and the line has at most 4,096 edges.
pub record PartsWithin (input : List ℕ) (p : Parts) : Type 0 where
  pub ring_from : ℕ
  pub ring_to : ℕ
  pub line_from : ℕ
  pub line_to : ℕ
  pub ring_is : p.ring.now ≡ between input ring_from ring_to
  pub line_is : p.line.now ≡ between input line_from line_to
  pub book_is : p.book.now ≡ drop line_to input
  pub ring_le : ring_from ≤ ring_to
  pub line_behind : line_from ≡ ring_to + head_length
  pub line_le : line_from ≤ line_to
  pub ring_within : ring_to ≤ length input
  pub line_within : line_to ≤ length input
  pub line_most : line_to ≤ line_from + line_field.most

-- The contract of `read_request`: it returns the request of the input or its refusal (`is`), and the parts that it lends lie in the input (`within`). A refusal
-- lends nothing, so nothing is required of it.
pub record IsRequestRead (input : List ℕ) (r : Result Parts Refusal) : Type 0 where
  pub is : requested_of r ≡ request_of input
  pub within : IfOk r (PartsWithin input)
