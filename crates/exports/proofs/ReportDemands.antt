-- `outlines_report` meets the demands. It answers by the rows of a report, so demand 1 follows as for every call (RowsAgree). Where it is accepted, the book is
-- the book of the silences read (`accepted_iff` of crates/silences), so a finding is shown exactly when the book's bytes do not hide it. Its looks are the
-- scan's.
use Prim.Native.Nat.{ℕ, ◌<◌}
use mathlib.Core.Path.{◌≡◌, refl, ap, subst}
use mathlib.Core.Logic.Iff
use mathlib.Core.Logic.{◌↔◌}
use mathlib.Core.List.{List, ◌++◌}
use Rattle.std.specs.Prelude.{Option, None}
use native.Mathlib.Omega.{arith}
use lib.ListN.{length}
use Rattle.lists.specs.Areas.{written}
use Rattle.meaning.specs.Findings.{Finding, findings, words_of}
use Rattle.meaning.specs.Looks.{quick_looks}
use Rattle.answers.specs.declared.refusals.Refusal.{Refusal}
use Rattle.answers.specs.Paper.{accepted}
use Rattle.answers.specs.Rows.{first_given}
use Rattle.answers.proofs.RowsExactly.{none_append_iff}
use Rattle.answers.proofs.AnswerCases.{accepted_unique}
use Rattle.lists.specs.Bounds.{IsBytes}
use Rattle.silences.specs.Silences.{Silence, Hides}
use Rattle.silences.specs.Reading.{silences_read, book_rows, read_book}
use Rattle.silences.proofs.BookRows.{book_accepted_iff}
use Rattle.findings.specs.Admitting.{admit_rows}
use Rattle.findings.proofs.AdmitRows.{accepted_edge}
use Rattle.silences.proofs.AcceptedIsBook.{book_accepted, accepted_iff}
use Rattle.outlines.specs.Report.{shown, hidden, ReportCounts, report_counts, report_rows, report_answer, reported_words}
use Rattle.outlines.proofs.ShownExactly.{shown_iff, hidden_iff}
use Rattle.outlines.proofs.ShownAndHidden.{shown_hidden_length, shown_or_hidden_iff}
use Rattle.outlines.proofs.ShownRising.{shown_rising, hidden_rising}
use Rattle.exports.specs.declared.answering.Answer.{Answer as AnswerStruct}
use Rattle.exports.specs.Exported.{IsReportExportedBy, IsReportExported}
use Rattle.exports.specs.Demands.{Row, search_table, book_table, BookHides, Demand2, ReportMeets}
use Rattle.exports.proofs.RowsAgree.{AllAgree, agree_append, GoesByRows, Accepts, demand_1_met, accepts}
use Rattle.exports.proofs.BookDemands.{book_agrees}
use Rattle.exports.proofs.SearchDemands.{search_agrees, start_listed_iff, looks_demand_3}

-- the book's bytes hide a start at a distance exactly when the silences read from them do
book_hides_iff : {book : List ℕ} {ss : List Silence} → IsBytes book → read_book book ≡ accepted ss
    → (cell ring_number start distance : ℕ) → Hides ss cell ring_number start distance ↔ BookHides book cell ring_number start distance
book_hides_iff {book} {ss} bytes is cell ring_number start distance = (
  λ h. record { silences = ss; is_book = (accepted_iff book ss bytes).0 is; hides = h },
  λ b. subst (λ (l : List Silence). Hides l cell ring_number start distance) (accepted_unique (book_accepted book b.silences b.is_book) is) b.hides,
)

module _ (cell ring_number : ℕ) (ring line : List ℕ) (k : ℕ) where
  abbrev fs : List Finding
  fs = findings ring line k

  -- demand 2 on a report with these silences
  report_demand_2 : {book words : List ℕ} {ss : List Silence} {r : AnswerStruct} {out : List ℕ} → IsBytes book → read_book book ≡ accepted ss → 0 < length ring → r.found ≡ length fs → r.hidden ≡ length (hidden ss cell ring_number fs) → out ≡ written (words_of (shown ss cell ring_number fs)) words
      → Demand2 (BookHides book cell ring_number) ring line k words r out
  report_demand_2 {book} {words} {ss} bytes is pos found_is hidden_is words_are =
      let hides : (i d : ℕ) → Hides ss cell ring_number i d ↔ BookHides book cell ring_number i d = book_hides_iff bytes is cell ring_number in
      record {
        shown = shown ss cell ring_number fs;
        hidden = hidden ss cell ring_number fs;
        start_iff = start_listed_iff pos (shown_or_hidden_iff ss cell ring_number fs);
        shown_iff = λ f. Iff.trans (shown_iff ss cell ring_number ring line k pos f)
            (Iff.and Iff.rfl (λ never b. never ((hides f.start f.distance).1 b), λ never h. never ((hides f.start f.distance).0 h)));
        hidden_iff = λ f. Iff.trans (hidden_iff ss cell ring_number ring line k pos f) (Iff.and Iff.rfl (hides f.start f.distance));
        shown_rising = shown_rising ss cell ring_number ring line k;
        hidden_rising = hidden_rising ss cell ring_number ring line k;
        found_is = omega (arith, found_is, shown_hidden_length ss cell ring_number fs);
        hidden_is = hidden_is;
        words_are = words_are;
      }

-- If the rows of a search agree with a table, the rows of the report agree with that table and the book's.
pub report_agrees : (rows : List (Option Refusal)) (table : List Row) {book : List ℕ} → IsBytes book → AllAgree rows table
    → AllAgree (report_rows rows book) (table ++ book_table book)
unfolding report_rows
report_agrees rows table {book} bytes agree = agree_append rows table (book_rows book) (book_table book) agree (λ _. book_agrees book bytes)

-- A report with the rows of any search. Of these only that they accept no empty ring is used.
module _ (rows : List (Option Refusal)) (cell ring_number : ℕ) (ring line : List ℕ) (k : ℕ) (book words : List ℕ) {r : AnswerStruct} {out : List ℕ} (bytes : IsBytes book)
    (e : IsReportExportedBy rows cell ring_number ring line k book words r out) where
  -- A report answers by its rows.
  pub reported_by_rows : GoesByRows (report_rows rows book) (report_counts ring line k cell ring_number (silences_read book))
      (written (words_of (shown (silences_read book) cell ring_number (findings ring line k))) words) words r out
  unfolding report_answer reported_words
  reported_by_rows = record { paper = e.paper; written = e.written }

  module _ (some_edge : first_given rows ≡ None → 0 < length ring) (zero_is : r.refusal ≡ 0) where
    -- what an accepted report gives: no row is given, and its counts and words are those of the silences read
    taken : Accepts (report_rows rows book) (report_counts ring line k cell ring_number (silences_read book))
        (written (words_of (shown (silences_read book) cell ring_number (findings ring line k))) words) r out
    taken = accepts reported_by_rows zero_is

    -- no row is given, neither of the search nor of the book
    none_of_either : (first_given rows ≡ None) × (first_given (book_rows book) ≡ None)
    unfolding report_rows
    none_of_either = (none_append_iff rows (book_rows book)).0 taken.none_given

    -- The ring of an accepted report is not empty.
    pub report_edge : 0 < length ring
    report_edge = some_edge none_of_either.0

    -- The looks of an accepted report are the quick scan's.
    pub report_looks_are : r.looks ≡ quick_looks ring line k
    report_looks_are = ap (λ (c : ReportCounts). c.looks) taken.counts_are

    -- An accepted report meets demand 2.
    pub accepted_demand_2 : Demand2 (BookHides book cell ring_number) ring line k words r out
    accepted_demand_2 =
        report_demand_2 cell ring_number ring line k bytes ((book_accepted_iff book (silences_read book)).1 (none_of_either.1, refl)) report_edge
        (ap (λ (c : ReportCounts). c.found) taken.counts_are) (ap (λ (c : ReportCounts). c.hidden) taken.counts_are) taken.written

-- `outlines_report` meets the demands, for a book of bytes.
pub report_meets : (cell ring_number : ℕ) (ring line : List ℕ) (k : ℕ) (book words : List ℕ) {r : AnswerStruct} {out : List ℕ} → IsBytes book
    → IsReportExported cell ring_number ring line k book words r out → ReportMeets cell ring_number ring line k book words r out
report_meets cell ring_number ring line k book words bytes e =
    let rows : List (Option Refusal) = admit_rows ring k (length line) (length words) in
    let some_edge = accepted_edge ring k (length line) (length words) in
    record {
      demand_1 =
          demand_1_met (report_agrees rows (search_table ring k (length line) (length words)) bytes (search_agrees ring k (length line) (length words)))
          (reported_by_rows rows cell ring_number ring line k book words bytes e);
      demand_2 = accepted_demand_2 rows cell ring_number ring line k book words bytes e some_edge;
      demand_3 = λ zero_is.
          looks_demand_3 refl (report_edge rows cell ring_number ring line k book words bytes e some_edge zero_is)
          (report_looks_are rows cell ring_number ring line k book words bytes e some_edge zero_is);
    }
