-- The rows of the table, 1, 12, 2, 14, 3, 4, hold for every answer that meets the contract of `scan_two_way`. The answer has a row's number, for row 14 also its
-- place, exactly when that row is the first that is given (`AnswerByRows` of crates/answers), and TwoWayAdmitRows states when it is.
use Prim.Native.Nat.{ℕ, ◌≤◌, ◌<◌}
use mathlib.Core.Path.{◌≡◌, ap}
use mathlib.Core.Logic.Iff
use mathlib.Core.Logic.{◌↔◌, ◌⊎◌, inl}
use mathlib.Core.List.{List}
use Rattle.std.specs.Prelude.{Some}
use Rattle.std.specs.Prelude.{Result}
use native.Mathlib.Omega.{arith}
use lib.ListN.{length}
use Rattle.lists.specs.Areas.{written}
use Rattle.meaning.specs.Findings.{words_of}
use Rattle.answers.specs.declared.refusals.Refusal.{Refusal}
use Rattle.answers.specs.declared.refusals.Refusal.TheVariants.{Ring, Allowance, Line, FindingsRoom, RingMark, RingCode}
use Rattle.answers.specs.Refusals.{number_of}
use Rattle.answers.specs.Rows.{first_given}
use Rattle.answers.proofs.RefusalNumbers.{HasNoPlace}
use Rattle.answers.proofs.AnswerByRows.{row_number_iff, row_place_iff, accepted_number_iff, number_by, place_unless, refused_counts, refused_area}
use Rattle.two_way.specs.declared.passes.TwoWayCounts.{TwoWayCounts as TwoWayCountsStruct}
use Rattle.two_way.specs.Admitting.{two_way_rows}
use Rattle.two_way.specs.TwoWay.{TwoWayCounts, no_two_way_counts, two_way_counts, two_way_findings, two_way_answer, two_way_words, paper_of, IsScannedTwoWay}
use Rattle.two_way.specs.TwoWayRows.{TwoWayRows}
use Rattle.two_way.proofs.TwoWayAdmitRows.{two_way_1_iff, two_way_12_iff, two_way_2_iff, two_way_14_iff, two_way_3_iff, two_way_4_iff, two_way_none_iff, two_way_row_numbers, two_way_row_places}

-- Every answer that meets the contract of `scan_two_way` obeys the table `TwoWayRows`.
pub rows_of_two_way : {ring line : List ℕ} {k : ℕ} {words : List ℕ} {r : Result TwoWayCountsStruct Refusal} {out : List ℕ} → IsScannedTwoWay ring line k words r out
    → TwoWayRows ring k (length line) words (paper_of r) out
unfolding two_way_answer two_way_words
rows_of_two_way {ring} {line} {k} {words} {r} meets =
    let n = length line in
    let room = length words in
    let counts = two_way_counts ring line k in
    let first = first_given (two_way_rows ring k n room) in
    let number_iff : (q : Refusal) → HasNoPlace (number_of q) → ((paper_of r).number ≡ number_of q) ↔ (first ≡ Some q) =
    row_number_iff no_two_way_counts counts first meets.paper in
    let zeros : 0 < (paper_of r).number → (paper_of r).counts ≡ no_two_way_counts = refused_counts no_two_way_counts counts first meets.paper in
    record {
      row_1 = Iff.trans (number_iff Ring (omega arith)) (two_way_1_iff ring k n room);
      row_12 = Iff.trans (number_iff RingMark (omega arith)) (two_way_12_iff ring k n room);
      row_2 = Iff.trans (number_iff Allowance (omega arith)) (two_way_2_iff ring k n room);
      row_14 = λ at. Iff.trans (row_place_iff no_two_way_counts counts first meets.paper (RingCode at)) (two_way_14_iff ring k n room at);
      row_3 = Iff.trans (number_iff Line (omega arith)) (two_way_3_iff ring k n room);
      row_4 = Iff.trans (number_iff FindingsRoom (omega arith)) (two_way_4_iff ring k n room);
      accepted = Iff.trans (accepted_number_iff no_two_way_counts counts first meets.paper) (two_way_none_iff ring k n room);
      numbers =
          number_by no_two_way_counts counts first meets.paper (λ (number : ℕ). (number ≤ 4) ⊎ ((number ≡ 12) ⊎ (number ≡ 14))) (inl (omega arith))
          (two_way_row_numbers ring k n room);
      place_is = place_unless no_two_way_counts counts first meets.paper 14 (λ q e. (two_way_row_places ring k n room q e).1);
      no_forward = λ l. ap (λ (c : TwoWayCounts). c.forward) (zeros l);
      no_backward = λ l. ap (λ (c : TwoWayCounts). c.backward) (zeros l);
      untouched = refused_area no_two_way_counts counts first meets.paper (written (words_of (two_way_findings ring line k)) words) words meets.written;
    }
