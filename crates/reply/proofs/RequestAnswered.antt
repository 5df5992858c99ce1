-- From a report's answer to the text of its request. A refusal's line is the whole text. Counts give three pieces of text: the first line, the lines of the findings
-- whose words the report wrote, and the last line. Together they are no longer than the program's array.
use Prim.Native.Nat.{ℕ, ◌+◌, ◌-◌, ◌*◌, ◌^◌, ◌≤◌, ◌<◌}
use mathlib.Core.Path.{◌≡◌, refl, sym, ap, ap₂, ◌∙◌}
use mathlib.Core.List.{List, ◌++◌}
use Rattle.std.specs.Prelude.{Option}
use Rattle.std.specs.Prelude.{Result, Ok, Err}
use native.Mathlib.Omega.{arith}
use lib.ListN.{length, take}
use Rattle.meaning.specs.Findings.{Finding, findings, words_each, words_of}
use Rattle.meaning.proofs.Words.{words_length}
use Rattle.answers.specs.declared.refusals.Refusal.{Refusal}
use Rattle.answers.proofs.AnswerByRows.{row_place_iff}
use Rattle.silences.specs.Reading.{silences_read}
use Rattle.findings.specs.Admitting.{admit_rows}
use Rattle.findings.proofs.AdmitRows.{no_row_iff}
use Rattle.outlines.specs.declared.quick.ReportCounts.{ReportCounts as ReportCountsStruct}
use Rattle.outlines.specs.Report.{shown, hidden, report_refusal, ReportCounts, no_report_counts, report_counts, report_answer, paper_of, IsReported}
use Rattle.outlines.specs.LineScan.{LineScanned}
use Rattle.outlines.proofs.ReportGives.{report_none_given, report_gives}
use Rattle.outlines.proofs.FirstOfReport.{none_row_iff}
use Rattle.outlines.proofs.ShownAndHidden.{shown_hidden_length}
use Rattle.request.specs.Fields.{line_field}
use Rattle.request.specs.Input.{Request}
use Rattle.reply.specs.Lines.{first_line, last_line, refusal_line}
use Rattle.reply.specs.Answering.{report_lines, lines_by, request_text}
use Rattle.reply.specs.Writing.{lines_of_words, counts_of, most_text, most_finding_words}
use Rattle.lists.proofs.Areas.{written_front, written_le}
use Rattle.reply.proofs.RoomEnough.{refusal_same}
use Rattle.reply.proofs.WordsOfFindings.{lines_of_findings}
use Rattle.reply.proofs.TextRoom.{report_lines_le}

-- The request of these numbers and bytes.
abbrev request : ℕ → ℕ → ℕ → List ℕ → List ℕ → List ℕ → Request
request cell ring_number allowance ring line book =
    record { cell = cell; ring_number = ring_number; allowance = allowance; ring = ring; line = line; book = book }

-- What an accepted report gives: the words of the shown findings lie in the lent words, the three pieces are the request's text, and the text fits the array.
pub record Answered (q : Request) (found hid looks : ℕ) (words : List ℕ) : Type 0 where
  pub hidden_le : hid ≤ found
  pub words_le : words_each * (found - hid) ≤ length words
  pub pieces : first_line q.cell q.ring_number (length q.ring) q.allowance
      ++ (lines_of_words (take (words_each * (found - hid)) words) ++ last_line (counts_of found hid looks))
      ≡ request_text q
  pub length_le : length (request_text q) ≤ most_text

-- the text of a request, by the report's first row, with the words that the program lends
text_by_lem : (q : Request) (room : ℕ) {o : Option Refusal} → length q.line ≤ line_field.most → most_finding_words ≤ room
    → report_refusal (admit_rows q.ring q.allowance (length q.line) room) q.book ≡ o → request_text q ≡ lines_by q o
unfolding request_text
text_by_lem q room line_le enough e =
    ap (lines_by q) (sym (refusal_same q.ring q.allowance (length q.line) room q.book (λ some_edge fits. omega arith)) ∙ e)

module _ {cell ring_number k : ℕ} {ring line book words out : List ℕ} {r : Result ReportCountsStruct Refusal} (meets : IsReported cell ring_number ring line k book words r out)
    (line_le : length line ≤ line_field.most) (enough : most_finding_words ≤ length words) where
  -- The line of the report's refusal is the request's text.
  pub refused_text : (refusal : Refusal) → r ≡ Err refusal → refusal_line refusal ≡ request_text (request cell ring_number k ring line book)
  unfolding report_answer
  refused_text refusal e =
      sym
      (text_by_lem (request cell ring_number k ring line book) (length words) line_le enough
      ((row_place_iff no_report_counts (report_counts ring line k cell ring_number (silences_read book)) (report_refusal (admit_rows ring k (length line) (length words)) book)
      (sym (ap paper_of e) ∙ meets.paper) refusal).0 (refl, refl)))

  -- An accepted report's counts and words give the request's text, in three pieces.
  pub counted_text : {c : ReportCountsStruct} → cell < 2 ^ 32 → ring_number < 2 ^ 16 → r ≡ Ok c
      → Answered (request cell ring_number k ring line book) c.found c.hidden c.looks out
  unfolding report_lines
  counted_text {c} cell_lt ring_number_lt e =
      let found : ℕ = c.found in
      let hid : ℕ = c.hidden in
      let looks : ℕ = c.looks in
      let q : Request = request cell ring_number k ring line book in
      let is : IsReported cell ring_number ring line k book words (Ok c) out = rw e at meets in
      let given : LineScanned cell ring_number ring line k book words found hid looks out = report_gives is in
      let none_given = report_none_given is in
      let all : List Finding = findings ring line k in
      let seen : List Finding = shown (silences_read book) cell ring_number all in
      let lengths : length seen + length (hidden (silences_read book) cell ring_number all) ≡ length all = shown_hidden_length (silences_read book) cell ring_number all in
      let found_is : found ≡ length all = given.found_is in
      let hidden_is : hid ≡ length (hidden (silences_read book) cell ring_number all) = given.hidden_is in
      let words_are : length (words_of seen) ≡ words_each * (found - hid) = omega (arith, words_length seen) in
      let front : take (words_each * (found - hid)) out ≡ words_of seen = written_front (words_of seen) words given.words_are (words_each * (found - hid)) words_are in
      let text : request_text q ≡ report_lines q (silences_read book) =
      text_by_lem q (length words) line_le enough ((none_row_iff (admit_rows ring k (length line) (length words)) book).1 none_given) in
      let counts : counts_of found hid looks ≡ report_counts ring line k cell ring_number (silences_read book) =
      λ j. counts_of (found_is j) (hidden_is j) (given.looks_are j) in
      record {
        hidden_le = omega arith;
        words_le = omega (arith, written_le (words_of seen) words given.words_are);
        pieces =
            ap₂ (λ (lines : List ℕ) (last : ReportCounts). first_line cell ring_number (length ring) k ++ (lines ++ last_line last))
            (ap lines_of_words front ∙ lines_of_findings seen) counts
            ∙ sym text;
        length_le = rw text (report_lines_le q (length words) ((no_row_iff ring k (length line) (length words)).0 none_given.0) line_le (silences_read book) cell_lt ring_number_lt);
      }
