-- The place of a report's refusal is at most 15,000: the search's rows have place 0, and the others have the places of reading the book. This holds for the
-- rows of any search that have place 0.
use Prim.Native.Nat.{ℕ, ◌≤◌}
use mathlib.Core.Path.{◌≡◌, refl}
use mathlib.Core.List.{List}
use Rattle.std.specs.Prelude.{Option, None, Some}
use native.Mathlib.Omega.{arith}
use Rattle.answers.specs.declared.refusals.Refusal.{Refusal}
use Rattle.answers.specs.Refusals.{place_of}
use Rattle.answers.specs.Paper.{answer_paper}
use Rattle.answers.specs.Rows.{first_given, answer_by}
use Rattle.silences.specs.Layout.{most_bytes}
use Rattle.silences.specs.Reading.{silences_read}
use Rattle.silences.proofs.BookRows.{book_refused_iff}
use Rattle.outlines.specs.Report.{report_refusal, no_report_counts, report_counts, report_answer}
use Rattle.outlines.proofs.FirstOfReport.{report_row_has}
use Rattle.exports.proofs.BookPlaces.{read_place_le}

-- A place of a report is at most 15,000, if the search's rows have place 0.
pub report_place_le : (rows : List (Option Refusal)) → ((q : Refusal) → first_given rows ≡ Some q → place_of q ≡ 0) → (ring line : List ℕ) (k cell ring_number : ℕ) (book : List ℕ)
    → (answer_paper no_report_counts (report_answer rows ring line k cell ring_number book)).place ≤ most_bytes
unfolding report_answer
report_place_le rows no_places ring line k cell ring_number book = by_row (report_refusal rows book) refl
  where
    by_row : (o : Option Refusal) → report_refusal rows book ≡ o
        → (answer_paper no_report_counts (answer_by o (report_counts ring line k cell ring_number (silences_read book)))).place ≤ most_bytes
    by_row None e = omega arith
    by_row (Some q) e =
        report_row_has rows book (λ (r : Refusal). place_of r ≤ most_bytes) (λ r is. omega (arith, no_places r is)) (λ r is. rw ((book_refused_iff book r).1 is) at (read_place_le book)) q e
