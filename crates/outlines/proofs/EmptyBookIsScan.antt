-- With an empty book the report gives what the scan gives: the same refusal, or the same found and looks with hidden 0, and the same words. The reason is
-- that an empty book hides nothing, so all findings are shown. Stated for a report and a scan that have the same rows of a search.
use Prim.Native.Nat.{ℕ}
use mathlib.Core.Path.{◌≡◌, refl, sym, ap, subst, ◌∙◌}
use mathlib.Core.List.{List, [], ◌∷◌}
use Rattle.std.specs.Prelude.{Option, None, Some}
use Rattle.std.specs.Prelude.{Result, Ok, Err}
use lib.ListN.{length}
use Rattle.lists.specs.Areas.{written}
use Rattle.meaning.specs.Findings.{Finding, findings, words_of}
use Rattle.meaning.specs.Looks.{quick_looks}
use Rattle.answers.specs.declared.refusals.Refusal.{Refusal}
use Rattle.answers.proofs.OneAnswer.{number_in}
use Rattle.answers.proofs.AnswerByRows.{row_place_iff, refused_area}
use Rattle.silences.specs.Silences.{hides}
use Rattle.silences.specs.Samples.{empty_book}
use Rattle.silences.specs.Reading.{book_refusal, silences_read}
use Rattle.silences.proofs.BookRows.{book_accepted_iff}
use Rattle.findings.specs.declared.searching.SearchCounts.{SearchCounts}
use Rattle.findings.specs.Searching.{LineSearched, IsSearched}
use Rattle.findings.proofs.OneAnswer.{search_unique}
use Rattle.findings.proofs.SearchAnswers.{refused_search, accepted_search}
use Rattle.outlines.specs.declared.quick.ReportCounts.{ReportCounts as ReportCountsStruct}
use Rattle.outlines.specs.Report.{taken_by, shown, hidden, report_refusal, ReportCounts, no_report_counts, report_counts, report_answer, reported_words, IsReportedBy}
use Rattle.outlines.specs.LineScan.{LineScanned}
use Rattle.outlines.proofs.FirstOfReport.{accepted_book_row}
use Rattle.outlines.proofs.ReportGives.{report_none_given, report_gives}

-- An empty book is accepted.
pub empty_book_read : book_refusal [] ≡ None
empty_book_read = ((book_accepted_iff [] []).0 empty_book).0

-- An empty book has no silence.
no_silence : silences_read [] ≡ []
no_silence = ((book_accepted_iff [] []).0 empty_book).1

module _ (cell ring_number : ℕ) where
  -- with no silence all findings are shown
  shown_all : (fs : List Finding) → shown (silences_read []) cell ring_number fs ≡ fs
  unfolding taken_by hides
  shown_all fs = rw no_silence (go fs)
    where
      go : (l : List Finding) → shown [] cell ring_number l ≡ l
      go [] = refl
      go (f ∷ l) = ap (λ (t : List Finding). f ∷ t) (go l)

  -- and none is hidden
  hidden_none : (fs : List Finding) → length (hidden (silences_read []) cell ring_number fs) ≡ 0
  unfolding taken_by hides
  hidden_none fs = rw no_silence (go fs)
    where
      go : (l : List Finding) → length (hidden [] cell ring_number l) ≡ 0
      go [] = refl
      go (f ∷ l) = go l

  module _ {ring line : List ℕ} {k : ℕ} {words : List ℕ} where
    -- A line scanned with an empty book meets the contract of a search with the quick scan's looks.
    pub empty_book_searched : {found hid looks : ℕ} {out : List ℕ} → LineScanned cell ring_number ring line k [] words found hid looks out
        → LineSearched ring line k (quick_looks ring line k) words found looks out
    empty_book_searched done = record {
      found_is = done.found_is;
      looks_are = done.looks_are;
      written = done.words_are ∙ ap (λ (l : List Finding). written (words_of l) words) (shown_all (findings ring line k));
    }

    -- if a report with an empty book is refused, returning this refusal and leaving the words meets the contract of a scan
    refused_scan : {rows : List (Option Refusal)} {refusal : Refusal} {out : List ℕ} → IsReportedBy rows cell ring_number ring line k [] words (Err refusal) out
        → IsSearched rows ring line k (quick_looks ring line k) words (Err refusal) out
    unfolding report_answer reported_words
    refused_scan {rows} {refusal} {out} meets =
        let row : Option Refusal = report_refusal rows [] in
        let counts : ReportCounts = report_counts ring line k cell ring_number (silences_read []) in
        let is : row ≡ Some refusal = (row_place_iff no_report_counts counts row meets.paper refusal).0 (refl, refl) in
        let untouched : out ≡ words =
        refused_area no_report_counts counts row meets.paper (written (words_of (shown (silences_read []) cell ring_number (findings ring line k))) words) words meets.written (number_in refusal).0 in
        subst (IsSearched rows ring line k (quick_looks ring line k) words (Err refusal)) (sym untouched)
        (refused_search (sym is ∙ accepted_book_row rows [] empty_book_read))

-- A scan's answer as a report's answer, with hidden 0.
abbrev pub report_of : Result SearchCounts Refusal → Result ReportCountsStruct Refusal
report_of (Ok c) = Ok (record { found = c.found; hidden = 0; looks = c.looks })
report_of (Err refusal) = Err refusal

module _ (cell ring_number : ℕ) {rows : List (Option Refusal)} {ring line : List ℕ} {k : ℕ} {words : List ℕ} {q : Result SearchCounts Refusal} {out : List ℕ}
    (scanned : IsSearched rows ring line k (quick_looks ring line k) words q out) where
  -- Every answer of a report with an empty book is the scan's answer with hidden 0, and the words at exit are the same.
  pub empty_book_same : (r : Result ReportCountsStruct Refusal) (out' : List ℕ) → IsReportedBy rows cell ring_number ring line k [] words r out' → (r ≡ report_of q) × (out' ≡ out)
  empty_book_same (Ok c) out' meets =
      let done = report_gives meets in
      let same = search_unique (accepted_search (sym (report_none_given meets).0) (empty_book_searched cell ring_number done)) scanned in
      (ap (λ (h : ℕ). Ok (record { found = c.found; hidden = h; looks = c.looks })) (done.hidden_is ∙ hidden_none cell ring_number (findings ring line k)) ∙ ap report_of same.0, same.1)
  empty_book_same (Err refusal) out' meets =
      let same = search_unique (refused_scan cell ring_number meets) scanned in
      (ap report_of same.0, same.1)
