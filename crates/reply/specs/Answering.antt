-- Document 01, "The report program": the program's whole output for an input's bytes, on every input, and the contract of `answer`.
--
--   report_lines              the lines of a report with these silences
--   lines_by, request_text    the output for a request, the report's lines or its refusal: by the first row that is given; whole
--   text_by, answer_text      the output for an input's bytes: by what was read; whole. "Refusal 11 comes before all others"
--   IsAnswered                the contract of `answer`
--
-- The report's refusals and counts are defined in crates/outlines, specs/Report.antt. "Book places count from the book's first byte": a request
-- holds its book apart, so the report's places are the right ones. The definition takes exactly the room that row 4 requires; the code lends 16,384 words,
-- which gives the same first row (`refusal_same` of proofs/RoomEnough.antt). So row 4 is never given; nor is row 3, because a line has at most 4,096 edges
-- (`rows_3_4_never` of proofs/RowsNeverGiven.antt).
use Rattle.std.specs.Prelude.{ℕ, ◌≡◌, List, ◌++◌, length}
use Rattle.std.specs.Prelude.{Option, None, Some}
use Rattle.meaning.specs.Findings.{findings}
use Rattle.lists.specs.Areas.{written}
use Rattle.answers.specs.declared.refusals.Refusal.{Refusal}
use Rattle.answers.specs.Paper.{Answer, accepted, refused}
use Rattle.silences.specs.Silences.{Silence}
use Rattle.silences.specs.Reading.{silences_read}
use Rattle.findings.specs.Admitting.{room_required, admit_rows}
use Rattle.outlines.specs.Report.{shown, report_refusal, report_counts}
use Rattle.request.specs.Input.{Request, request_of}
use Rattle.reply.specs.Lines.{first_line, finding_lines, last_line, refusal_line}

-- The lines of a report with these silences: the first line, a line for each shown finding, the last line.
unfoldable pub report_lines : Request → List Silence → List ℕ
report_lines q silences =
    first_line q.cell q.ring_number (length q.ring) q.allowance
    ++ (finding_lines (shown silences q.cell q.ring_number (findings q.ring q.line q.allowance))
    ++ last_line (report_counts q.ring q.line q.allowance q.cell q.ring_number silences))

-- The output by the first of the report's rows that is given: that refusal's line; or, if none is given, the report's lines with the book's silences.
abbrev pub lines_by : Request → Option Refusal → List ℕ
lines_by q None = report_lines q (silences_read q.book)
lines_by q (Some refusal) = refusal_line refusal

-- The output for a request, with exactly the room that row 4 requires.
unfoldable pub request_text : Request → List ℕ
request_text q =
    lines_by q (report_refusal (admit_rows q.ring q.allowance (length q.line) (room_required (length q.ring) (length q.line))) q.book)

-- The output by what was read: the text of the request, or the line of refusal 11.
abbrev pub text_by : Answer Request → List ℕ
text_by (accepted q) = request_text q
text_by (refused refusal) = refusal_line refusal

-- The program's whole output for an input's bytes. "Refusal 11 comes before all others".
unfoldable pub answer_text : List ℕ → List ℕ
answer_text input = text_by (request_of input)

-- The contract of `answer`. `area` is lent for the text; at exit it is `out`, which begins with the text, of `long` bytes. The bytes after the text
-- keep their values.
pub record IsAnswered (input area : List ℕ) (long : ℕ) (out : List ℕ) : Type 0 where
  pub long_is : long ≡ length (answer_text input)
  pub written : out ≡ written (answer_text input) area
