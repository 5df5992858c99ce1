-- The contracts of the private functions that write the text. Nothing here is part of what `answer` means.
--
--   Text, text_in                          a text being written
--   put_byte, put_bytes                    bytes put one after the other while there is room
--   text_of, HasPut                        the text of a `Writer`; the contract of its methods, which require no room
--   IsText                                 the contract of a function that writes a whole text; that there is room for it is shown once
--   hole, filled                           a line's form with its numbers
--   lines_of_words                         the lines of the words of findings
--   counts_of                              the counts of a report of three numbers
--   most_first_line, most_finding_line,    the most bytes of each line and of a text
--   most_last_line, most_text
--   most_finding_words                     words for a finding at each edge of the longest line
--   CanAnswer                              the precondition of `answer_request`
use Rattle.std.specs.Prelude.{ℕ, ◌+◌, ◌*◌, ◌≤◌, ◌≡◌, cond, List, [], ◌∷◌, ◌++◌, ltb, eqb, length, get_or, drop, set}
use Rattle.meaning.specs.Findings.{words_each}
use Rattle.lists.specs.Areas.{written}
use Rattle.lists.specs.Records.{numbers_of_each, records_of}
use Rattle.outlines.specs.Report.{ReportCounts}
use Rattle.request.specs.Fields.{line_field}
use Rattle.reply.specs.declared.writer.Writer.{Writer}
use Rattle.reply.specs.Decimal.{decimal}
use Rattle.reply.specs.Lines.{numbers_line}

-- A text being written: the area that holds it, and the byte offset of its next byte.
pub record Text : Type 0 where
  pub area : List ℕ
  pub next : ℕ

-- The text in this area whose next byte has this offset.
abbrev pub text_in : List ℕ → ℕ → Text
text_in area next = record { area = area; next = next }

-- The text after a byte is put: stored where there is room for it, left out where there is none.
unfoldable pub put_byte : ℕ → Text → Text
put_byte byte text =
    let stored : Text = text_in (set text.area text.next byte) (text.next + 1) in
    cond (ltb text.next (length text.area)) stored text

-- The text after bytes are put, one after the other.
unfoldable pub put_bytes : List ℕ → Text → Text
put_bytes [] text = text
put_bytes (byte ∷ bytes) text = put_bytes bytes (put_byte byte text)

-- The text that a writer is writing.
abbrev pub text_of : Writer → Text
text_of writer = text_in writer.area.now writer.next

-- The contract of a method of `Writer` that puts these bytes: the text is as it was and the bytes put after it, and the area is the one that was lent.
pub record HasPut (bytes : List ℕ) (old new : Writer) : Type 0 where
  pub is : text_of new ≡ put_bytes bytes (text_of old)
  pub same_area : new.area.ghost_name ≡ old.area.ghost_name

-- The contract of a function that writes a whole text, of `long` bytes: the area at exit, `out`, begins with the text, and the bytes after the text keep their values.
pub record IsText (text area : List ℕ) (long : ℕ) (out : List ℕ) : Type 0 where
  pub long_is : long ≡ length text
  pub written : out ≡ written text area

-- The byte of a line's form that stands for a number: `#`.
abbrev pub hole : ℕ
hole = 0x23

-- A line by its form and its numbers: each `#` becomes the next number in decimal digits, and every other byte stays. (Past the last number a `#` becomes 0.)
unfoldable pub filled : List ℕ → List ℕ → List ℕ
filled [] numbers = []
filled (byte ∷ form) numbers =
    let number_here : List ℕ = decimal (get_or numbers 0 0) ++ filled form (drop 1 numbers) in
    let byte_here : List ℕ = byte ∷ filled form numbers in
    cond (eqb byte hole) number_here byte_here

-- The lines of words: one line for each `words_each` words, which are a finding's. Fewer words left over at the end give no line.
unfoldable pub lines_of_words : List ℕ → List ℕ
lines_of_words words = numbers_of_each numbers_line (records_of words_each (λ record_words. record_words) words)

-- The counts of a report with these three numbers.
abbrev pub counts_of : ℕ → ℕ → ℕ → ReportCounts
counts_of found hid looks = record { found = found; hidden = hid; looks = looks }

-- The most bytes of the first line, `cell C ring R edges M allow K`: 26 that are not digits, LF among them, and at most 10, 5, 3 and 3 digits.
abbrev pub most_first_line : ℕ
most_first_line = 26 + (10 + 5 + 3 + 3)

-- The most bytes of a finding's line: a space or LF after each number, and at most 4, 3, 3 and 3 digits.
abbrev pub most_finding_line : ℕ
most_finding_line = words_each + (4 + 3 + 3 + 3)

-- The most bytes of the last line, `found F hidden H looks L`: 22 that are not digits, LF among them, and at most 4, 4 and 7 digits.
abbrev pub most_last_line : ℕ
most_last_line = 22 + (4 + 4 + 7)

-- The most bytes of a text: one text line for each finding, and at most one finding for each edge of the line searched. (A refusal's line is shorter.)
abbrev pub most_text : ℕ
most_text = most_first_line + most_finding_line * line_field.most + most_last_line

-- Words for a finding at each edge of the longest line.
abbrev pub most_finding_words : ℕ
most_finding_words = words_each * line_field.most

-- The precondition of `answer_request`: the line has at most 4,096 edges, and there is room for every text.
pub record CanAnswer (n room : ℕ) : Type 0 where
  pub line_le : n ≤ line_field.most
  pub room_for : most_text ≤ room
