-- `outlines_survey` and `outlines_scan` meet the demands. Both answer by the rows of a search (`searched_by_rows`), so demand 1 follows as for every call
-- (RowsAgree). Where they are accepted, they write the findings, which are exactly those of `IsFinding` (`findings_iff` of crates/meaning). Their looks are
-- `survey_looks` and `quick_looks`, whose value and bound crates/meaning proves.
use Prim.Native.Nat.{ℕ, ◌≤◌, ◌<◌}
use mathlib.Core.Path.{◌≡◌, refl, sym, ap, subst, ◌∙◌}
use mathlib.Core.Logic.{◌⊎◌, inl, ⊎_elim, ◌↔◌}
use mathlib.Core.List.Memᴰ
use mathlib.Core.List.{List, [], Memᴰ}
use Rattle.std.specs.Prelude.{Option, None, Some}
use native.Mathlib.Omega.{arith}
use lib.ListN.{length}
use Rattle.lists.specs.Areas.{written}
use Rattle.meaning.specs.Meanings.{IsStart, distance}
use Rattle.meaning.specs.Findings.{Finding, IsFinding, findings, words_of}
use Rattle.meaning.specs.Looks.{quick_looks, survey_looks}
use Rattle.meaning.proofs.FoundExactly.{findings_iff, found_iff}
use Rattle.meaning.proofs.Rising.{findings_rising}
use Rattle.meaning.proofs.LookBound.{quick_looks_le, quick_looks_most, quick_looks_short}
use Rattle.meaning.proofs.SurveyLooks.{survey_looks_is, survey_looks_short}
use Rattle.answers.specs.declared.refusals.Refusal.{Refusal}
use Rattle.answers.specs.Paper.{Paper, answer_paper}
use Rattle.answers.specs.Rows.{first_given, answer_by}
use Rattle.findings.specs.Admitting.{ring_rows, limit_rows, admit_rows}
use Rattle.findings.specs.Searching.{Counts, no_counts, searched, searched_words}
use Rattle.findings.proofs.LimitRows.{is_row_1, is_row_12, is_row_2, is_row_3}
use Rattle.findings.proofs.AdmitRows.{is_row_4, accepted_edge}
use Rattle.outlines.specs.Report.{ReportCounts, no_report_counts}
use Rattle.exports.specs.declared.answering.Answer.{Answer as AnswerStruct}
use Rattle.exports.specs.Exported.{paper_of, paper_in_struct, search_in_struct, IsSearchExported, IsSurveyExported, IsScanExported}
use Rattle.exports.specs.Demands.{ring_table, limit_table, search_table, NeverHidden, Demand2, Demand3, SurveyMeets, ScanMeets, SurveyScanSame}
use Rattle.exports.proofs.RowsAgree.{AllAgree, agree_append, row_agrees, GoesByRows, Accepts, demand_1_met, accepts}

-- Rows 1, 12, 2, with which every search begins, agree with those of the page of demands.
pub ring_agrees : (ring : List ℕ) (k : ℕ) → AllAgree (ring_rows ring k) (ring_table ring k)
unfolding ring_rows
ring_agrees ring k = (
  row_agrees (is_row_1 ring k) refl,
  λ _. (row_agrees (is_row_12 ring k) refl, λ _. (row_agrees (is_row_2 ring k) refl, λ _. tt)),
)

-- Rows 1, 12, 2, 3 agree with those of the page of demands.
pub limits_agree : (ring : List ℕ) (k n : ℕ) → AllAgree (limit_rows ring k n) (limit_table ring k n)
unfolding limit_rows
limits_agree ring k n = agree_append (ring_rows ring k) (ring_table ring k) _ _ (ring_agrees ring k) (λ _. (row_agrees (is_row_3 n) refl, λ _. tt))

-- The rows of a search agree with those of the page of demands, 1, 12, 2, 3, 4.
pub search_agrees : (ring : List ℕ) (k n room : ℕ) → AllAgree (admit_rows ring k n room) (search_table ring k n room)
unfolding admit_rows
search_agrees ring k n room =
    agree_append (limit_rows ring k n) (limit_table ring k n) _ _ (limits_agree ring k n) (λ _. (row_agrees (is_row_4 ring k n room) refl, λ _. tt))

-- For a ring that is not empty: if the findings are exactly the shown and the hidden ones, then a start is among these exactly when some rotation differs in at
-- most k places.
pub start_listed_iff : {ring line : List ℕ} {k : ℕ} {shown hidden : List Finding} → 0 < length ring
    → ((f : Finding) → Memᴰ f (findings ring line k) ↔ (Memᴰ f shown ⊎ Memᴰ f hidden))
    → (i : ℕ) → ((f : Finding) × (f.start ≡ i) × (Memᴰ f shown ⊎ Memᴰ f hidden))
    ↔ (IsStart ring line i × ((q : ℕ) × (q < length ring) × (distance ring line i q ≤ k)))
start_listed_iff {ring} {line} {k} pos listed_iff i = (
  λ w. (found_iff ring line k pos i).0 (w.0, w.1, (listed_iff w.0).1 w.2),
  λ h. let w = (found_iff ring line k pos i).1 h in (w.0, w.1, (listed_iff w.0).0 w.2),
)

-- The counts of a search as the struct holds them.
abbrev pub counts_in_struct : List ℕ → List ℕ → ℕ → ℕ → ReportCounts
counts_in_struct ring line k looks = record { found = length (findings ring line k); hidden = 0; looks = looks }

-- the paper of a search in the struct, by the first row that is given
in_struct_by : (o : Option Refusal) (c : Counts)
    → paper_in_struct search_in_struct (answer_paper no_counts (answer_by o c)) ≡ answer_paper no_report_counts (answer_by o (search_in_struct c))
in_struct_by None c = refl
in_struct_by (Some q) c = refl

-- A search with any rows. Of these only that they accept no empty ring is used.
module _ (rows : List (Option Refusal)) (ring line : List ℕ) (k looks : ℕ) (words : List ℕ) {r : AnswerStruct} {out : List ℕ}
    (exported : IsSearchExported rows ring line k looks words r out) where
  -- A search answers by its rows.
  pub searched_by_rows : GoesByRows rows (counts_in_struct ring line k looks) (written (words_of (findings ring line k)) words) words r out
  unfolding searched searched_words
  searched_by_rows = record {
    paper = exported.paper ∙ in_struct_by (first_given rows) (record { found = length (findings ring line k); looks = looks });
    written = exported.written;
  }

  module _ (some_edge : first_given rows ≡ None → 0 < length ring) (zero_is : r.refusal ≡ 0) where
    -- what an accepted search gives: no row is given, and it counts and writes all findings
    taken : Accepts rows (counts_in_struct ring line k looks) (written (words_of (findings ring line k)) words) r out
    taken = accepts searched_by_rows zero_is

    -- The ring of an accepted search is not empty.
    pub ring_edge : 0 < length ring
    ring_edge = some_edge taken.none_given

    -- The looks of an accepted search are the search's.
    pub looks_are : r.looks ≡ looks
    looks_are = ap (λ (c : ReportCounts). c.looks) taken.counts_are

    -- An accepted search meets demand 2: all findings are shown, and none is hidden.
    pub search_demand_2 : Demand2 NeverHidden ring line k words r out
    search_demand_2 =
        let shown_iff : (f : Finding) → Memᴰ f (findings ring line k) ↔ (IsFinding ring line k f × (⊥ → ⊥)) =
        λ f. (λ m. ((findings_iff ring line k ring_edge f).0 m, λ never. never), λ h. (findings_iff ring line k ring_edge f).1 h.0) in
        record {
          shown = findings ring line k;
          hidden = [];
          start_iff = start_listed_iff ring_edge (λ f. (inl, ⊎_elim (λ m. m) (λ m. absurd (Memᴰ.not-nil m))));
          shown_iff = shown_iff;
          hidden_iff = λ f. (λ m. absurd (Memᴰ.not-nil m), λ h. absurd h.1);
          shown_rising = findings_rising ring line k;
          hidden_rising = omega arith;
          found_is = omega (arith, ap (λ (c : ReportCounts). c.found) taken.counts_are);
          hidden_is = ap (λ (c : ReportCounts). c.hidden) taken.counts_are;
          words_are = taken.written;
        }

-- Looks that are those of the quick scan for a ring of m edges meet demand 3, if the ring is not empty.
pub looks_demand_3 : {m : ℕ} {ring line : List ℕ} {k looks : ℕ} → length ring ≡ m → 0 < length ring → looks ≡ quick_looks ring line k
    → Demand3 m ring line k looks
looks_demand_3 {ring = ring} {line} {k} {looks} long pos are = subst (λ (m : ℕ). Demand3 m ring line k looks) long (record {
  looks_are = are;
  looks_le = λ fits. omega (arith, quick_looks_le ring line k fits);
  looks_most = omega (arith, quick_looks_most ring line k pos);
  no_looks = λ short. are ∙ quick_looks_short ring line k short;
})

module _ (ring line : List ℕ) (k : ℕ) (words : List ℕ) where
  abbrev own_rows : List (Option Refusal)
  own_rows = admit_rows ring k (length line) (length words)

  -- an accepted call has a ring that is not empty
  some_edge : first_given own_rows ≡ None → 0 < length ring
  some_edge = accepted_edge ring k (length line) (length words)

  -- `outlines_survey` meets the demands.
  pub survey_meets : {r : AnswerStruct} {out : List ℕ} → IsSurveyExported ring line k words r out → SurveyMeets ring line k words r out
  survey_meets e =
      let looks : ℕ = survey_looks ring line in
      record {
        demand_1 = demand_1_met (search_agrees ring k (length line) (length words)) (searched_by_rows own_rows ring line k looks words e);
        demand_2 = search_demand_2 own_rows ring line k looks words e some_edge;
        looks_are = λ zero_is fits.
            looks_are own_rows ring line k looks words e some_edge zero_is ∙ survey_looks_is ring line (ring_edge own_rows ring line k looks words e some_edge zero_is) fits;
        no_looks = λ zero_is short. looks_are own_rows ring line k looks words e some_edge zero_is ∙ survey_looks_short ring line short;
      }

  -- `outlines_scan` meets the demands.
  pub scan_meets : {r : AnswerStruct} {out : List ℕ} → IsScanExported ring line k words r out → ScanMeets ring line k words r out
  scan_meets e =
      let looks : ℕ = quick_looks ring line k in
      record {
        demand_1 = demand_1_met (search_agrees ring k (length line) (length words)) (searched_by_rows own_rows ring line k looks words e);
        demand_2 = search_demand_2 own_rows ring line k looks words e some_edge;
        demand_3 = λ zero_is.
            looks_demand_3 refl (ring_edge own_rows ring line k looks words e some_edge zero_is) (looks_are own_rows ring line k looks words e some_edge zero_is);
      }

-- Two answers by the same first row, with the same found, agree in all but their looks.
pub same_but_looks : (o : Option Refusal) (found looks looks' : ℕ) {r r' : AnswerStruct} {out out' : List ℕ}
    → paper_of r ≡ answer_paper no_report_counts (answer_by o (record { found = found; hidden = 0; looks = looks }))
    → paper_of r' ≡ answer_paper no_report_counts (answer_by o (record { found = found; hidden = 0; looks = looks' }))
    → out' ≡ out → SurveyScanSame r r' out out'
same_but_looks None found looks looks' p p' same = record {
  refusal_is = ap (λ (x : Paper ReportCounts). x.number) p' ∙ sym (ap (λ (x : Paper ReportCounts). x.number) p);
  place_is = ap (λ (x : Paper ReportCounts). x.place) p' ∙ sym (ap (λ (x : Paper ReportCounts). x.place) p);
  found_is = ap (λ (x : Paper ReportCounts). x.counts.found) p' ∙ sym (ap (λ (x : Paper ReportCounts). x.counts.found) p);
  words_are = same;
}
same_but_looks (Some q) found looks looks' p p' same = record {
  refusal_is = ap (λ (x : Paper ReportCounts). x.number) p' ∙ sym (ap (λ (x : Paper ReportCounts). x.number) p);
  place_is = ap (λ (x : Paper ReportCounts). x.place) p' ∙ sym (ap (λ (x : Paper ReportCounts). x.place) p);
  found_is = ap (λ (x : Paper ReportCounts). x.counts.found) p' ∙ sym (ap (λ (x : Paper ReportCounts). x.counts.found) p);
  words_are = same;
}

-- On the same arguments, survey and scan give the same refusal and place, the same found, and the same words at exit.
pub survey_scan_same : (ring line : List ℕ) (k : ℕ) (words : List ℕ) {r r' : AnswerStruct} {out out' : List ℕ}
    → IsSurveyExported ring line k words r out → IsScanExported ring line k words r' out' → SurveyScanSame r r' out out'
survey_scan_same ring line k words e e' =
    let rows : List (Option Refusal) = admit_rows ring k (length line) (length words) in
    same_but_looks (first_given rows) (length (findings ring line k)) (survey_looks ring line) (quick_looks ring line k)
    (searched_by_rows rows ring line k (survey_looks ring line) words e).paper (searched_by_rows rows ring line k (quick_looks ring line k) words e').paper
    (e'.written ∙ sym e.written)
