-- The ways in which a two-way scan meets its contract. A row is given: its refusal is returned, and the words are as they were. Or no row is given, and both passes
-- are made: the words of the forward findings are written, and those of the backward ones right behind them (`written_at_append` of crates/lists).
use Prim.Native.Nat.{ℕ, ◌+◌, ◌*◌}
use mathlib.Core.Path.{◌≡◌, refl, sym, ap, ap₂, ◌∙◌}
use mathlib.Core.List.{List, ◌++◌}
use Rattle.std.specs.Prelude.{Option, None, Some}
use Rattle.std.specs.Prelude.{Result, Ok, Err}
use native.Mathlib.Omega.{arith}
use lib.ListN.{length}
use Rattle.lists.specs.Areas.{written, written_at}
use Rattle.lists.proofs.Areas.{written_at_zero, written_at_append}
use Rattle.meaning.specs.Findings.{findings, words_each, words_of}
use Rattle.meaning.proofs.Words.{words_length, words_append}
use Rattle.answers.specs.declared.refusals.Refusal.{Refusal}
use Rattle.answers.specs.Paper.{accepted, answer_paper}
use Rattle.answers.specs.Rows.{first_given, answer_by, area_by}
use Rattle.reversal.specs.Reversing.{reversed_ring}
use Rattle.findings.specs.declared.searching.SearchCounts.{SearchCounts}
use Rattle.findings.specs.Searching.{Counts}
use Rattle.findings.proofs.SearchGives.{accepted_gives, accepted_words}
use Rattle.outlines.specs.Scan.{IsScanned}
use Rattle.two_way.specs.declared.passes.TwoWayCounts.{TwoWayCounts as TwoWayCountsStruct}
use Rattle.two_way.specs.Admitting.{two_way_rows, TwoWayAdmitted}
use Rattle.two_way.specs.TwoWay.{no_two_way_counts, pass_counts, two_way_counts, two_way_findings, two_way_answer, two_way_words, answer_of, IsScannedTwoWay}
use Rattle.two_way.specs.Passes.{IsScannedBackward}
use Rattle.two_way.proofs.TwoWayAdmitRows.{two_way_no_row_iff}
use Rattle.two_way.proofs.PassesAccepted.{forward_accepted, forward_words_le, pass_is_scan}

module _ (ring line : List ℕ) (k : ℕ) (words : List ℕ) where
  -- the call's rows
  abbrev rows : List (Option Refusal)
  rows = two_way_rows ring k (length line) (length words)

  -- If a row is given, returning its refusal and leaving the words as they were meets the contract.
  pub refused_two_way : {refusal : Refusal} → Some refusal ≡ first_given rows → IsScannedTwoWay ring line k words (Err refusal) words
  unfolding two_way_answer two_way_words
  refused_two_way e = record {
    paper = ap (λ (o : Option Refusal). answer_paper no_two_way_counts (answer_by o (two_way_counts ring line k))) e;
    written = ap (λ (o : Option Refusal). area_by o (written (words_of (two_way_findings ring line k)) words) words) e;
  }

  -- If no row is given, returning the counts of both passes with the words of both written meets the contract.
  accepted_two_way : {r : Result TwoWayCountsStruct Refusal} {out : List ℕ} → first_given rows ≡ None → answer_of r ≡ accepted (two_way_counts ring line k)
      → out ≡ written (words_of (two_way_findings ring line k)) words → IsScannedTwoWay ring line k words r out
  unfolding two_way_answer two_way_words
  accepted_two_way none_given answer area = record {
    paper = ap (answer_paper no_two_way_counts) answer ∙ ap (λ (o : Option Refusal). answer_paper no_two_way_counts (answer_by o (two_way_counts ring line k))) (sym none_given);
    written = area ∙ ap (λ (o : Option Refusal). area_by o (written (words_of (two_way_findings ring line k)) words) words) (sym none_given);
  }

  module _ (admitted : TwoWayAdmitted ring k (length line) (length words)) {forward : SearchCounts} {mid : List ℕ}
      (scanned : IsScanned ring line k words (Ok forward) mid) where
    -- the words of the forward findings, and those of the backward ones
    abbrev first : List ℕ
    first = words_of (findings ring line k)

    abbrev second : List ℕ
    second = words_of (findings (reversed_ring ring) line k)

    -- the second pass behind the first has written the words of both
    both_written : written_at (words_each * forward.found) second mid ≡ written (words_of (two_way_findings ring line k)) words
    both_written =
        let behind : words_each * forward.found ≡ 0 + length first = omega (arith, words_length (findings ring line k), (accepted_gives scanned refl).found_is) in
        ap₂ (λ (at : ℕ) (area : List ℕ). written_at at second area) behind (accepted_words scanned (forward_accepted ring line k (length words) admitted) ∙ sym (written_at_zero first words))
        ∙ written_at_append 0 first second words (omega (arith, words_length (findings ring line k), forward_words_le ring line k (length words) admitted))
        ∙ written_at_zero (first ++ second) words
        ∙ ap (λ (numbers : List ℕ). written numbers words) (sym (words_append (findings ring line k) (findings (reversed_ring ring) line k)))

    -- If the call is admitted, a forward scan and a backward one behind it meet the contract.
    pub passes_two_way : {r : Result TwoWayCountsStruct Refusal} {out : List ℕ} → IsScannedBackward ring line k mid forward r out
        → IsScannedTwoWay ring line k words r out
    passes_two_way backward =
        accepted_two_way ((two_way_no_row_iff ring k (length line) (length words)).1 admitted)
        (backward.answer_is ∙ ap (λ (c : Counts). accepted (record { forward = c; backward = pass_counts (reversed_ring ring) line k })) (pass_is_scan scanned refl))
        (backward.written ∙ both_written)
