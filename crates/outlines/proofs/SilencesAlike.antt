-- Two lists of silences that hide the same findings show the same findings. So two reports whose books hide the same findings give the same answer,
-- whatever their rows of a search are, if these accept no empty ring (for `report`, `accepted_edge` of crates/findings).
use Prim.Native.Nat.{ℕ, ◌<◌}
use mathlib.Core.Path.{◌≡◌, refl, sym, ap, ◌∙◌}
use mathlib.Core.Bool.{not}
use mathlib.Core.List.{List, Memᴰ}
use Rattle.std.specs.Prelude.{Option, None, Some}
use lib.ListN.{length}
use Rattle.lists.specs.Areas.{written}
use Rattle.meaning.specs.Findings.{Finding, IsFinding, findings, words_of}
use Rattle.meaning.proofs.FoundExactly.{findings_iff}
use Rattle.answers.specs.declared.refusals.Refusal.{Refusal}
use Rattle.answers.specs.Paper.{accepted, answer_paper}
use Rattle.answers.specs.Rows.{first_given, answer_by, area_by}
use Rattle.silences.specs.Silences.{Silence}
use Rattle.silences.specs.Reading.{read_book, silences_read}
use Rattle.silences.proofs.BookRows.{book_accepted_iff}
use Rattle.std.specs.Prelude.{Result}
use Rattle.outlines.specs.declared.quick.ReportCounts.{ReportCounts as ReportCountsStruct}
use Rattle.outlines.specs.Report.{is_hidden, is_shown, shown, hidden, report_refusal, no_report_counts, report_counts, report_answer, reported_words, IsReportedBy}
use Rattle.outlines.proofs.TakenByTest.{taken_same}
use Rattle.outlines.proofs.FirstOfReport.{accepted_book_row}
use Rattle.outlines.proofs.ReportOneAnswer.{report_paper_unique}

module _ (ss ts : List Silence) (cell ring_number : ℕ) where
  -- Each finding of the list is hidden by both lists of silences or by neither.
  abbrev pub HidesAlike : List Finding → Type 0
  HidesAlike fs = (f : Finding) → Memᴰ f fs → is_hidden ss cell ring_number f ≡ is_hidden ts cell ring_number f

  -- if each finding of a list is hidden by both lists of silences or by neither, both show the same ones
  shown_same : (fs : List Finding) → HidesAlike fs → shown ss cell ring_number fs ≡ shown ts cell ring_number fs
  shown_same fs h = taken_same (is_shown ss cell ring_number) (is_shown ts cell ring_number) fs (λ f m. ap not (h f m))

  -- If each finding of a list is hidden by both lists of silences or by neither, both hide the same ones.
  pub hidden_same : (fs : List Finding) → HidesAlike fs → hidden ss cell ring_number fs ≡ hidden ts cell ring_number fs
  hidden_same fs h = taken_same (is_hidden ss cell ring_number) (is_hidden ts cell ring_number) fs h

  module _ (rows : List (Option Refusal)) (ring line : List ℕ) (some_edge : first_given rows ≡ None → 0 < length ring) (k : ℕ) (book book' words : List ℕ)
      (is : read_book book ≡ accepted ss) (is' : read_book book' ≡ accepted ts)
      (alike : (f : Finding) → IsFinding ring line k f → is_hidden ss cell ring_number f ≡ is_hidden ts cell ring_number f) where
    -- Both books are accepted, so the refusal of the search's rows decides what a report returns and writes. If there is none, the silences decide. So any
    -- value `by` that is the same for each refusal, and for equal shown and hidden findings, is the same for the two reports.
    given : {A : Type 0} (by : Option Refusal → List Silence → A)
        → ((q : Refusal) → by (Some q) ss ≡ by (Some q) ts)
        → (shown ss cell ring_number (findings ring line k) ≡ shown ts cell ring_number (findings ring line k)
        → hidden ss cell ring_number (findings ring line k) ≡ hidden ts cell ring_number (findings ring line k) → by None ss ≡ by None ts)
        → by (report_refusal rows book) (silences_read book) ≡ by (report_refusal rows book') (silences_read book')
    given by refused_same accepted_same =
        let read = (book_accepted_iff book ss).0 is in
        let read' = (book_accepted_iff book' ts).0 is' in
        rw (accepted_book_row rows book read.0, read.1, accepted_book_row rows book' read'.0, read'.1) (go (first_given rows) refl)
      where
        go : (o : Option Refusal) → first_given rows ≡ o → by o ss ≡ by o ts
        go (Some refusal) e = refused_same refusal
        go None e =
            let alike_in_list : HidesAlike (findings ring line k) = λ f m. alike f ((findings_iff ring line k (some_edge e) f).0 m) in
            accepted_same (shown_same (findings ring line k) alike_in_list) (hidden_same (findings ring line k) alike_in_list)

    -- Two reports that differ only in their books give the same answer and leave the same words, if both books are accepted and hide the same findings.
    pub reports_same : (r r' : Result ReportCountsStruct Refusal) (out out' : List ℕ) → IsReportedBy rows cell ring_number ring line k book words r out
        → IsReportedBy rows cell ring_number ring line k book' words r' out' → (r ≡ r') × (out ≡ out')
    unfolding report_answer reported_words
    reports_same r r' out out' p p' = (
      report_paper_unique r r'
          (p.paper
          ∙ given (λ (o : Option Refusal) (l : List Silence). answer_paper no_report_counts (answer_by o (report_counts ring line k cell ring_number l))) (λ q. refl) (λ s h. rw h)
          ∙ sym p'.paper),
      p.written
          ∙ given (λ (o : Option Refusal) (l : List Silence). area_by o (written (words_of (shown l cell ring_number (findings ring line k))) words) words) (λ q. refl) (λ s h. rw s)
          ∙ sym p'.written,
    )
