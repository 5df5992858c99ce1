-- For a ring and a line without marks a report answers as it did before ticket 2: row 12 is left out of its rows (`second_left_out` of crates/findings), and findings
-- and looks are those of document 01 alone (WithoutMarks of crates/meaning).
use Prim.Native.Nat.{ℕ}
use mathlib.Core.Path.{◌≡◌, ap, ap₂, ◌∙◌}
use mathlib.Core.Bool.{false}
use mathlib.Core.List.{List, ◌++◌}
use Rattle.std.specs.Prelude.{Option}
use lib.ListN.{length}
use Rattle.lists.specs.Areas.{written}
use Rattle.meaning.specs.Meanings.{holds_mark}
use Rattle.meaning.specs.Findings.{Finding, words_of}
use Rattle.meaning.specs.BeforeMarks.{findings_before, quick_looks_before}
use Rattle.meaning.specs.Looks.{quick_looks}
use Rattle.meaning.proofs.WithoutMarks.{findings_before_lem, quick_looks_before_lem}
use Rattle.answers.specs.declared.refusals.Refusal.{Refusal}
use Rattle.answers.specs.Rows.{first_given, answer_by, area_by}
use Rattle.silences.specs.Reading.{book_rows, silences_read}
use Rattle.findings.specs.Admitting.{ring_rows, limit_rows, admit_rows}
use Rattle.findings.specs.BeforeMarks.{rows_before}
use Rattle.findings.proofs.RowsUnmarked.{second_left_out}
use Rattle.outlines.specs.Report.{shown, hidden, report_rows, report_refusal, ReportCounts, report_answer, reported_words}

module _ (ring line : List ℕ) (k cell ring_number : ℕ) (book : List ℕ) (no_mark : holds_mark ring ≡ false) (unmarked_line : holds_mark line ≡ false) where
  -- The rows of a search as they are.
  abbrev rows : ℕ → List (Option Refusal)
  rows room = admit_rows ring k (length line) room

  -- The refusal of a report as it was.
  abbrev refusal_before : ℕ → Option Refusal
  refusal_before room = first_given (rows_before (length ring) k (length line) room ++ book_rows book)

  -- For a ring without marks the first row that is given is the first of those that were there before.
  pub report_rows_unmarked : (room : ℕ) → report_refusal (rows room) book ≡ refusal_before room
  unfolding report_rows ring_rows limit_rows admit_rows rows_before
  report_rows_unmarked room = rw no_mark (second_left_out _ _)

  -- For a ring and a line without marks a report answers as before.
  pub report_unmarked : (room : ℕ)
      → report_answer (rows room) ring line k cell ring_number book
      ≡ answer_by (refusal_before room) (record {
        found = length (findings_before ring line k);
        hidden = length (hidden (silences_read book) cell ring_number (findings_before ring line k));
        looks = quick_looks_before ring line k;
      })
  unfolding report_answer
  report_unmarked room =
      ap (λ (refusal : Option Refusal). answer_by refusal (counts (findings_now) (quick_looks ring line k))) (report_rows_unmarked room)
      ∙ ap₂ (λ (fs : List Finding) (looks : ℕ). answer_by (refusal_before room) (counts fs looks)) (findings_before_lem ring line k unmarked_line) (quick_looks_before_lem ring line k unmarked_line)
    where
      findings_now : List Finding
      findings_now = Rattle.meaning.specs.Findings.findings ring line k

      counts : List Finding → ℕ → ReportCounts
      counts fs looks = record { found = length fs; hidden = length (hidden (silences_read book) cell ring_number fs); looks = looks }

  -- For a ring and a line without marks the lent words after a report are as before.
  pub report_words_unmarked : (words : List ℕ)
      → reported_words (rows (length words)) ring line k cell ring_number book words
      ≡ area_by (refusal_before (length words)) (written (words_of (shown (silences_read book) cell ring_number (findings_before ring line k))) words) words
  unfolding reported_words
  report_words_unmarked words =
      ap₂ (λ (refusal : Option Refusal) (fs : List Finding). area_by refusal (written (words_of (shown (silences_read book) cell ring_number fs)) words) words)
      (report_rows_unmarked (length words)) (findings_before_lem ring line k unmarked_line)
