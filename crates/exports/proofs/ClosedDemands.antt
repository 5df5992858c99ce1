-- The three calls on a closed line meet the demands. Each is a search or report with the rows `closed_rows` over the list `closed_line`, so demand 1 follows as
-- for every call, and demands 2 and 3 hold for that list (SearchDemands, ReportDemands). Its starts, distances and findings are those of the closed line
-- (ClosedFindings of crates/meaning), and all starts are below n: so demand 2 holds in the closed line's words (`closed_demand_2`). The looks are those of
-- ClosedLooks. The join area follows from the call's rows (`join_met`).
use Prim.Native.Nat.{ℕ, ◌≤◌, ◌<◌}
use mathlib.Core.Path.{◌≡◌, refl, sym, ◌∙◌}
use mathlib.Core.Logic.Iff
use mathlib.Core.Logic.{◌↔◌}
use mathlib.Core.List.{List}
use Rattle.std.specs.Prelude.{Option, None}
use native.Mathlib.Omega.{arith}
use lib.ListN.{length}
use Rattle.lists.specs.Areas.{written}
use Rattle.lists.specs.Bounds.{IsBytes}
use Rattle.meaning.specs.Meanings.{IsStart, distance}
use Rattle.meaning.specs.Findings.{Finding, IsFinding, findings, words_of}
use Rattle.meaning.specs.Looks.{quick_looks, survey_looks}
use Rattle.meaning.specs.Closed.{closed_line, IsClosedStart, closed_distance, IsClosedFinding, joined_with}
use Rattle.meaning.proofs.Rising.{rising_below}
use Rattle.meaning.proofs.ClosedFindings.{closed_distance_lem, closed_start_iff, closed_finding_iff}
use Rattle.meaning.proofs.ClosedLooks.{closed_quick_looks_le, closed_quick_looks_most, closed_quick_looks_short, closed_survey_looks_is, closed_survey_looks_short}
use Rattle.answers.specs.declared.refusals.Refusal.{Refusal}
use Rattle.answers.specs.Rows.{first_given}
use Rattle.answers.proofs.AnswerByRows.{accepted_number_iff, refused_area}
use Rattle.findings.specs.Admitting.{limit_rows}
use Rattle.findings.specs.ClosedRows.{closed_rows}
use Rattle.findings.specs.ClosedSearching.{join_at_exit}
use Rattle.findings.proofs.ClosedAdmitRows.{is_closed_row_4, is_row_10, closed_accepted_edge}
use Rattle.findings.proofs.JoinAtExit.{join_short, join_long}
use Rattle.outlines.specs.Report.{ReportCounts, no_report_counts}
use Rattle.exports.specs.declared.answering.Answer.{Answer as AnswerStruct}
use Rattle.exports.specs.Exported.{IsSearchExported, IsReportExportedBy, IsSearchClosedExported, IsSurveyClosedExported, IsScanClosedExported, IsReportClosedExported}
use Rattle.exports.specs.Demands.{limit_table, closed_search_table, NeverHidden, Demand2, JoinDemand, ClosedDemand2, ClosedDemand3, SurveyClosedMeets, ScanClosedMeets, ReportClosedMeets, SurveyScanSame}
use Rattle.exports.proofs.RowsAgree.{AllAgree, agree_append, row_agrees, GoesByRows, demand_1_met}
use Rattle.exports.proofs.SearchDemands.{limits_agree, counts_in_struct, searched_by_rows, ring_edge, looks_are, search_demand_2, same_but_looks}
use Rattle.exports.proofs.ReportDemands.{reported_by_rows, report_agrees, report_edge, report_looks_are, accepted_demand_2}

-- The rows of a search on a closed line agree with those of the page of demands, 1, 12, 2, 3, 4, 10.
pub closed_agrees : (ring : List ℕ) (k n room joins : ℕ) → AllAgree (closed_rows ring k n room joins) (closed_search_table ring k n room joins)
unfolding closed_rows
closed_agrees ring k n room joins =
    agree_append (limit_rows ring k n) (limit_table ring k n) _ _ (limits_agree ring k n)
    (λ _. (row_agrees (is_closed_row_4 ring k n room joins) refl, λ _. (row_agrees (is_row_10 ring k n room joins) refl, λ _. tt)))

module _ (ring line : List ℕ) (pos : 0 < length ring) (k : ℕ) where
  abbrev closed : List ℕ
  closed = closed_line (length ring) line

  -- a start of the list with a rotation within k is a start of the closed line with a rotation within k
  within_iff : (i : ℕ) → (IsStart ring closed i × ((q : ℕ) × (q < length ring) × (distance ring closed i q ≤ k)))
      ↔ (IsClosedStart ring line i × ((q : ℕ) × (q < length ring) × (closed_distance ring line i q ≤ k)))
  within_iff i = (
    λ h.
        let start = (closed_start_iff ring line pos i).0 h.0 in
        (start, (h.1.0, h.1.1, omega (arith, h.1.2, closed_distance_lem ring line start.long i start.in_line h.1.0))),
    λ h.
        let start = h.0 in
        ((closed_start_iff ring line pos i).1 start, (h.1.0, h.1.1, omega (arith, h.1.2, closed_distance_lem ring line start.long i start.in_line h.1.0))),
  )

  -- Demand 2 for the list `closed_line` is demand 2 for the closed line.
  pub closed_demand_2 : {Hidden : ℕ → ℕ → Type 0} {words : List ℕ} {r : AnswerStruct} {out : List ℕ}
      → Demand2 Hidden ring closed k words r out → ClosedDemand2 Hidden ring line k words r out
  closed_demand_2 met =
      let finding_iff : (f : Finding) → IsFinding ring closed k f ↔ IsClosedFinding ring line k f = closed_finding_iff ring line pos k in
      record {
        shown = met.shown;
        hidden = met.hidden;
        start_iff = λ i. Iff.trans (met.start_iff i) (within_iff i);
        shown_iff = λ f. Iff.trans (met.shown_iff f) (Iff.and (finding_iff f) Iff.rfl);
        hidden_iff = λ f. Iff.trans (met.hidden_iff f) (Iff.and (finding_iff f) Iff.rfl);
        shown_rising = rising_below 0 (length closed) (length line) met.shown met.shown_rising (omega arith)
            (λ f m. ((finding_iff f).0 ((met.shown_iff f).0 m).0).is_start.in_line);
        hidden_rising = rising_below 0 (length closed) (length line) met.hidden met.hidden_rising (omega arith)
            (λ f m. ((finding_iff f).0 ((met.hidden_iff f).0 m).0).is_start.in_line);
        found_is = met.found_is;
        hidden_is = met.hidden_is;
        words_are = met.words_are;
      }

  -- An answer whose looks are those of the quick scan on the list `closed_line` meets demand 3 for the closed line.
  pub closed_demand_3 : {r : AnswerStruct} → r.looks ≡ quick_looks ring closed k → ClosedDemand3 ring line k r
  closed_demand_3 are = record {
    looks_are = are;
    looks_le = λ long. omega (arith, closed_quick_looks_le ring line pos long k);
    looks_most = omega (arith, closed_quick_looks_most ring line pos k);
    no_looks = λ short. are ∙ closed_quick_looks_short ring line short k;
  }

-- A call that answers by its rows, and whose join area at exit is that of these rows, meets the demand on the join area.
pub join_met : {rows : List (Option Refusal)} {counts : ReportCounts} {new words : List ℕ} {r : AnswerStruct} {out : List ℕ} (ring line join : List ℕ)
    {joined : List ℕ} → GoesByRows rows counts new words r out → joined ≡ join_at_exit rows (length ring) line join → JoinDemand ring line join r joined
unfolding join_at_exit
join_met {rows} {counts} ring line join by is = record {
  untouched = refused_area no_report_counts counts (first_given rows) by.paper (joined_with (length ring) line join) join is;
  short = λ short. is ∙ join_short rows (length ring) line join short;
  long = λ zero_is long. is ∙ join_long rows (length ring) line join ((accepted_number_iff no_report_counts counts (first_given rows) by.paper).0 zero_is) long;
}

module _ (ring line : List ℕ) (k : ℕ) (join words : List ℕ) where
  abbrev n : ℕ
  n = length line

  -- the rows of the search
  abbrev own_rows : List (Option Refusal)
  own_rows = closed_rows ring k n (length words) (length join)

  -- the list that is searched
  abbrev whole : List ℕ
  whole = closed_line (length ring) line

  -- an accepted call has a ring that is not empty
  some_edge : first_given own_rows ≡ None → 0 < length ring
  some_edge = closed_accepted_edge ring k n (length words) (length join)

  module _ (looks : ℕ) {r : AnswerStruct} {joined out : List ℕ} (e : IsSearchClosedExported ring line k looks join words r joined out) where
    -- a search on a closed line is a search with these rows over that list
    as_search : IsSearchExported own_rows ring whole k looks words r out
    as_search = record { paper = e.paper; written = e.written }

    -- it answers by its rows
    by_rows : GoesByRows own_rows (counts_in_struct ring whole k looks) (written (words_of (findings ring whole k)) words) words r out
    by_rows = searched_by_rows own_rows ring whole k looks words as_search

    -- its join area is right
    search_join : JoinDemand ring line join r joined
    search_join = join_met ring line join by_rows e.joined_is

    module _ (zero_is : r.refusal ≡ 0) where
      -- the ring is not empty
      edge : 0 < length ring
      edge = ring_edge own_rows ring whole k looks words as_search some_edge zero_is

      -- it meets demand 2
      closed_search_2 : ClosedDemand2 NeverHidden ring line k words r out
      closed_search_2 = closed_demand_2 ring line edge k (search_demand_2 own_rows ring whole k looks words as_search some_edge zero_is)

      -- its looks are the search's
      closed_looks : r.looks ≡ looks
      closed_looks = looks_are own_rows ring whole k looks words as_search some_edge zero_is

  -- `outlines_survey_closed` meets the demands.
  pub survey_closed_meets : {r : AnswerStruct} {joined out : List ℕ} → IsSurveyClosedExported ring line k join words r joined out
      → SurveyClosedMeets ring line k join words r joined out
  survey_closed_meets e =
      let looks : ℕ = survey_looks ring whole in
      record {
        demand_1 = demand_1_met (closed_agrees ring k n (length words) (length join)) (by_rows looks e);
        join_area = search_join looks e;
        demand_2 = closed_search_2 looks e;
        looks_are = λ zero_is long. closed_looks looks e zero_is ∙ closed_survey_looks_is ring line (edge looks e zero_is) long;
        no_looks = λ zero_is short. closed_looks looks e zero_is ∙ closed_survey_looks_short ring line short;
      }

  -- `outlines_scan_closed` meets the demands.
  pub scan_closed_meets : {r : AnswerStruct} {joined out : List ℕ} → IsScanClosedExported ring line k join words r joined out
      → ScanClosedMeets ring line k join words r joined out
  scan_closed_meets e =
      let looks : ℕ = quick_looks ring whole k in
      record {
        demand_1 = demand_1_met (closed_agrees ring k n (length words) (length join)) (by_rows looks e);
        join_area = search_join looks e;
        demand_2 = closed_search_2 looks e;
        demand_3 = λ zero_is. closed_demand_3 ring line (edge looks e zero_is) k (closed_looks looks e zero_is);
      }

  -- On the same arguments, survey and scan on a closed line give the same refusal and place, the same found, and the same words and join area at exit.
  pub closed_survey_scan_same : {r r' : AnswerStruct} {joined joined' out out' : List ℕ} → IsSurveyClosedExported ring line k join words r joined out
      → IsScanClosedExported ring line k join words r' joined' out' → SurveyScanSame r r' out out' × (joined' ≡ joined)
  closed_survey_scan_same e e' = (
    same_but_looks (first_given own_rows) (length (findings ring whole k)) (survey_looks ring whole) (quick_looks ring whole k) (by_rows (survey_looks ring whole) e).paper
        (by_rows (quick_looks ring whole k) e').paper (e'.written ∙ sym e.written),
    e'.joined_is ∙ sym e.joined_is,
  )

-- `outlines_report_closed` meets the demands, for a book of bytes.
pub report_closed_meets : (cell ring_number : ℕ) (ring line : List ℕ) (k : ℕ) (book join words : List ℕ) {r : AnswerStruct} {joined out : List ℕ} → IsBytes book
    → IsReportClosedExported cell ring_number ring line k book join words r joined out → ReportClosedMeets cell ring_number ring line k book join words r joined out
report_closed_meets cell ring_number ring line k book join words {r} {joined} {out} bytes e =
    let n : ℕ = length line in
    let rows : List (Option Refusal) = closed_rows ring k n (length words) (length join) in
    let whole : List ℕ = closed_line (length ring) line in
    let report : IsReportExportedBy rows cell ring_number ring whole k book words r out = record { paper = e.paper; written = e.written } in
    let by = reported_by_rows rows cell ring_number ring whole k book words bytes report in
    let some_edge = closed_accepted_edge ring k n (length words) (length join) in
    let edge = report_edge rows cell ring_number ring whole k book words bytes report some_edge in
    record {
      demand_1 =
          demand_1_met (report_agrees rows (closed_search_table ring k n (length words) (length join)) bytes (closed_agrees ring k n (length words) (length join))) by;
      join_area = join_met ring line join by e.joined_is;
      demand_2 = λ zero_is. closed_demand_2 ring line (edge zero_is) k (accepted_demand_2 rows cell ring_number ring whole k book words bytes report some_edge zero_is);
      demand_3 = λ zero_is. closed_demand_3 ring line (edge zero_is) k (report_looks_are rows cell ring_number ring whole k book words bytes report some_edge zero_is);
    }
