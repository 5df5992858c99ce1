-- `outlines_scan_two_way` meets the demands. It answers by its rows, so demand 1 follows as for every call (RowsAgree). Where it is accepted, each pass lists the
-- findings of its ring, which are exactly those of `IsFinding` (`findings_iff` of crates/meaning), and has the looks of the quick scan for it. The reversed ring is as
-- long as the ring, so both passes have the same bound. The words of both passes stand one behind the other, so each part can be read off: it is what
-- `outlines_scan` writes for that ring (`pass_is_scan`).
use Prim.Native.Nat.{ℕ, ◌*◌, ◌≤◌, ◌<◌}
use mathlib.Core.Path.{◌≡◌, refl, sym, ap, ◌∙◌}
use mathlib.Core.Logic.Iff
use mathlib.Core.Logic.{◌↔◌}
use mathlib.Core.List.{List, ◌++◌, append_assoc}
use Rattle.std.specs.Prelude.{Option, None}
use native.Mathlib.Omega.{arith}
use lib.ListN.{length, get_or, take, drop}
use lib.Seq.{take_at, drop_at}
use Rattle.lists.specs.Areas.{written}
use Rattle.lists.proofs.Areas.{written_front}
use Rattle.meaning.specs.Findings.{findings, words_of}
use Rattle.meaning.specs.Looks.{quick_looks}
use Rattle.meaning.proofs.FoundExactly.{findings_iff, found_iff}
use Rattle.meaning.proofs.Rising.{findings_rising}
use Rattle.meaning.proofs.Words.{words_length, words_append}
use Rattle.answers.specs.declared.refusals.Refusal.{Refusal}
use Rattle.answers.specs.declared.refusals.Refusal.TheVariants.{RingCode}
use Rattle.answers.specs.Paper.{answer_paper}
use Rattle.answers.specs.Rows.{first_given, answer_by, area_by}
use Rattle.answers.proofs.AnswerByRows.{accepted_number_iff, accepted_counts, accepted_area, refused_counts, refused_area}
use Rattle.reversal.specs.Reversing.{reversed_ring}
use Rattle.reversal.proofs.RingTwice.{reversed_length}
use Rattle.findings.specs.Admitting.{ring_rows, admit_rows}
use Rattle.findings.proofs.LimitRows.{is_row_3}
use Rattle.outlines.specs.Report.{ReportCounts}
use Rattle.two_way.specs.Admitting.{first_no_edge, two_way_rows, IsFirstNoEdge}
use Rattle.two_way.specs.TwoWay.{TwoWayCounts, no_two_way_counts, two_way_counts, two_way_findings, two_way_answer, two_way_words}
use Rattle.two_way.proofs.TwoWayAdmitRows.{is_row_14, row_14_at_iff, is_two_way_row_4, two_way_no_row_iff}
use Rattle.exports.specs.declared.answering.Answer.{Answer as AnswerStruct}
use Rattle.exports.specs.declared.two_way_scan.TwoWayAnswer.{TwoWayAnswer}
use Rattle.exports.specs.Exported.{IsScanExported, two_way_paper_of, IsTwoWayExported}
use Rattle.exports.specs.Demands.{ring_table, two_way_table, TwoWayDemand1, PassDemand2, TwoWayDemand2, TwoWayMeets, PassIsScan}
use Rattle.exports.proofs.RowsAgree.{AllAgree, agree_append, row_agrees, fault_agrees, by_table_met, accepts}
use Rattle.exports.proofs.SearchDemands.{ring_agrees, searched_by_rows, looks_demand_3}

-- a place is the first without an edge code exactly when its code is above 247 and no code before it is
first_above_iff : (ring : List ℕ) (place : ℕ)
    → IsFirstNoEdge ring place ↔ ((place < length ring) × (247 < get_or ring place 0) × ((q : ℕ) → q < place → get_or ring q 0 ≤ 247))
first_above_iff ring place = (
  λ first. (first.in_ring, omega (arith, first.no_edge), λ q l. omega (arith, first.edges_before q l)),
  λ h. record { in_ring = h.0; no_edge = omega (arith, h.1); edges_before = λ q l. omega (arith, h.2 q l) },
)

-- the rows of the two-way scan agree with those of the page of demands: 1, 12, 2, 14, 3, 4
two_way_agrees : (ring : List ℕ) (k n room : ℕ) → AllAgree (two_way_rows ring k n room) (two_way_table ring k n room)
unfolding two_way_rows
two_way_agrees ring k n room =
    agree_append (ring_rows ring k) (ring_table ring k) _ _ (ring_agrees ring k)
    (λ _. (
      fault_agrees RingCode (λ p. (refl, refl)) (λ p. Iff.trans (row_14_at_iff ring p) (first_above_iff ring p)) (λ q e. (first_no_edge ring, (is_row_14 ring).only q e)),
      λ _. (row_agrees (is_row_3 n) refl, λ _. (row_agrees (is_two_way_row_4 ring k n room) refl, λ _. tt)),
    ))

-- a pass that counts all findings of its ring meets demand 2, if the ring is not empty
pass_demand_2 : (ring line : List ℕ) (k : ℕ) {found : ℕ} → 0 < length ring → found ≡ length (findings ring line k)
    → PassDemand2 ring line k (findings ring line k) found
pass_demand_2 ring line k pos is = record {
  start_iff = found_iff ring line k pos;
  listed_iff = findings_iff ring line k pos;
  rising = findings_rising ring line k;
  found_is = is;
}

-- a pass with the found, the looks and the words of the quick scan for its ring gives what an accepted `outlines_scan` for that ring gives, whatever words that call
-- is lent
pass_is_scan : (ring line : List ℕ) (k : ℕ) (words : List ℕ) {scan : AnswerStruct} {out : List ℕ} → IsScanExported ring line k words scan out → scan.refusal ≡ 0
    → {found looks : ℕ} {pass_words : List ℕ} → found ≡ length (findings ring line k) → looks ≡ quick_looks ring line k → pass_words ≡ words_of (findings ring line k)
    → PassIsScan found looks pass_words scan out
pass_is_scan ring line k words {scan} {out} e zero_is found_is looks_are words_are =
    let rows : List (Option Refusal) = admit_rows ring k (length line) (length words) in
    let taken = accepts (searched_by_rows rows ring line k (quick_looks ring line k) words e) zero_is in
    let scan_found : scan.found ≡ length (findings ring line k) = ap (λ (c : ReportCounts). c.found) taken.counts_are in
    record {
      found_is = found_is ∙ sym scan_found;
      looks_are = looks_are ∙ sym (ap (λ (c : ReportCounts). c.looks) taken.counts_are);
      words_are =
          words_are
          ∙ sym (written_front (words_of (findings ring line k)) words taken.written (4 * scan.found) (omega (arith, words_length (findings ring line k), scan_found)));
    }

-- two lists written one behind the other at the beginning of an area
module _ (a b area : List ℕ) {out : List ℕ} (is : out ≡ written (a ++ b) area) where
  -- what the area holds behind the first list
  abbrev behind : List ℕ
  behind = b ++ drop (length (a ++ b)) area

  -- the area, from the first list on
  parts : out ≡ a ++ behind
  unfolding written
  parts = is ∙ append_assoc a b (drop (length (a ++ b)) area)

  -- the first list stands at the front
  first_part : (p : ℕ) → length a ≡ p → take p out ≡ a
  first_part p long = ap (take p) parts ∙ take_at a behind p long

  -- the second list stands right behind it
  second_part : (p q : ℕ) → length a ≡ p → length b ≡ q → take q (drop p out) ≡ b
  second_part p q long long' = ap (λ (l : List ℕ). take q (drop p l)) parts ∙ ap (take q) (drop_at a behind p long) ∙ take_at b (drop (length (a ++ b)) area) q long'

module _ (ring line : List ℕ) (k : ℕ) (words : List ℕ) {r : TwoWayAnswer} {out : List ℕ} (e : IsTwoWayExported ring line k words r out) where
  abbrev rows : List (Option Refusal)
  rows = two_way_rows ring k (length line) (length words)

  -- the ring of the backward pass
  abbrev back : List ℕ
  back = reversed_ring ring

  -- the words of the findings of both passes, at the beginning of the lent words
  abbrev both : List ℕ
  both = written (words_of (two_way_findings ring line k)) words

  -- the struct is that of the first row that is given, or has the counts of both passes
  by_rows : two_way_paper_of r ≡ answer_paper no_two_way_counts (answer_by (first_given rows) (two_way_counts ring line k))
  unfolding two_way_answer
  by_rows = e.paper

  -- and so the words at exit
  words_by_rows : out ≡ area_by (first_given rows) both words
  unfolding two_way_words
  words_by_rows = e.written

  -- it meets demand 1
  two_way_demand_1 : TwoWayDemand1 (two_way_table ring k (length line) (length words)) r words out
  two_way_demand_1 =
      let counts : TwoWayCounts = two_way_counts ring line k in
      let zeros : 0 < r.refusal → (two_way_paper_of r).counts ≡ no_two_way_counts = refused_counts no_two_way_counts counts (first_given rows) by_rows in
      record {
        by_table = by_table_met no_two_way_counts counts rows (two_way_agrees ring k (length line) (length words)) by_rows;
        no_forward_found = λ l. ap (λ (c : TwoWayCounts). c.forward.found) (zeros l);
        no_forward_looks = λ l. ap (λ (c : TwoWayCounts). c.forward.looks) (zeros l);
        no_backward_found = λ l. ap (λ (c : TwoWayCounts). c.backward.found) (zeros l);
        no_backward_looks = λ l. ap (λ (c : TwoWayCounts). c.backward.looks) (zeros l);
        untouched = refused_area no_two_way_counts counts (first_given rows) by_rows both words words_by_rows;
      }

  module _ (zero_is : r.refusal ≡ 0) where
    -- no row is given
    none_given : first_given rows ≡ None
    none_given = (accepted_number_iff no_two_way_counts (two_way_counts ring line k) (first_given rows) by_rows).0 zero_is

    -- the counts are those of both passes
    counts_are : (two_way_paper_of r).counts ≡ two_way_counts ring line k
    counts_are = accepted_counts no_two_way_counts (two_way_counts ring line k) (first_given rows) by_rows none_given

    -- the ring is not empty, and nor is the reversed ring
    edge : 0 < length ring
    edge = ((two_way_no_row_iff ring k (length line) (length words)).0 none_given).some_edge

    back_edge : 0 < length back
    back_edge = omega (arith, edge, reversed_length ring)

    -- the words of the forward findings are written first, then those of the backward ones
    words_are : out ≡ written (words_of (findings ring line k) ++ words_of (findings back line k)) words
    words_are =
        accepted_area no_two_way_counts (two_way_counts ring line k) (first_given rows) by_rows both words words_by_rows none_given
        ∙ ap (λ (numbers : List ℕ). written numbers words) (words_append (findings ring line k) (findings back line k))

    -- how many words each pass has written
    forward_words : length (words_of (findings ring line k)) ≡ 4 * r.forward_found
    forward_words = omega (arith, words_length (findings ring line k), ap (λ (c : TwoWayCounts). c.forward.found) counts_are)

    backward_words : length (words_of (findings back line k)) ≡ 4 * r.backward_found
    backward_words = omega (arith, words_length (findings back line k), ap (λ (c : TwoWayCounts). c.backward.found) counts_are)

    -- it meets demand 2
    two_way_demand_2 : TwoWayDemand2 ring line k words r out
    two_way_demand_2 = record {
      forward = findings ring line k;
      backward = findings back line k;
      forward_pass = pass_demand_2 ring line k edge (ap (λ (c : TwoWayCounts). c.forward.found) counts_are);
      backward_pass = pass_demand_2 back line k back_edge (ap (λ (c : TwoWayCounts). c.backward.found) counts_are);
      words_are = words_are;
    }

    -- The forward part of an accepted two-way scan is what `outlines_scan` gives for the ring: its found, its looks, and the words at the front.
    pub two_way_is_scan : (words' : List ℕ) {scan : AnswerStruct} {out' : List ℕ} → IsScanExported ring line k words' scan out' → scan.refusal ≡ 0
        → PassIsScan r.forward_found r.forward_looks (take (4 * r.forward_found) out) scan out'
    two_way_is_scan words' scanned accepted =
        pass_is_scan ring line k words' scanned accepted (ap (λ (c : TwoWayCounts). c.forward.found) counts_are)
        (ap (λ (c : TwoWayCounts). c.forward.looks) counts_are)
        (first_part (words_of (findings ring line k)) (words_of (findings back line k)) words words_are (4 * r.forward_found) forward_words)

    -- The backward part is what `outlines_scan` gives for the reversed ring; its words stand right behind the forward ones.
    pub two_way_is_reversed_scan : (words' : List ℕ) {scan : AnswerStruct} {out' : List ℕ} → IsScanExported back line k words' scan out' → scan.refusal ≡ 0
        → PassIsScan r.backward_found r.backward_looks (take (4 * r.backward_found) (drop (4 * r.forward_found) out)) scan out'
    two_way_is_reversed_scan words' scanned accepted =
        pass_is_scan back line k words' scanned accepted (ap (λ (c : TwoWayCounts). c.backward.found) counts_are)
        (ap (λ (c : TwoWayCounts). c.backward.looks) counts_are)
        (second_part (words_of (findings ring line k)) (words_of (findings back line k)) words words_are (4 * r.forward_found) (4 * r.backward_found) forward_words
        backward_words)

  -- `outlines_scan_two_way` meets the demands.
  pub scan_two_way_meets : TwoWayMeets ring line k words r out
  scan_two_way_meets = record {
    demand_1 = two_way_demand_1;
    demand_2 = two_way_demand_2;
    forward_demand_3 = λ zero_is. looks_demand_3 refl (edge zero_is) (ap (λ (c : TwoWayCounts). c.forward.looks) (counts_are zero_is));
    backward_demand_3 = λ zero_is.
        looks_demand_3 (reversed_length ring) (back_edge zero_is) (ap (λ (c : TwoWayCounts). c.backward.looks) (counts_are zero_is));
  }
