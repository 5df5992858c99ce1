-- A request is never refused by 3, because its line has at most 4,096 edges, nor by 4, because the report is lent at least as many words as row 4 requires. So the
-- program's refusals are 11, and after it 1, 12, 2, 5, 6 and 7.
use Prim.Native.Nat.{ℕ, ◌≤◌}
use mathlib.Core.Path.{◌≡◌}
use Rattle.std.specs.Prelude.{Some}
use native.Mathlib.Omega.{arith}
use lib.ListN.{length}
use Rattle.answers.specs.declared.refusals.Refusal.{Refusal}
use Rattle.answers.specs.Refusals.{number_of}
use Rattle.answers.specs.Rows.{first_given}
use Rattle.silences.proofs.BookRows.{refusal_has}
use Rattle.findings.specs.Admitting.{room_required, admit_rows}
use Rattle.findings.proofs.AdmitRows.{by_row}
use Rattle.outlines.specs.Report.{report_refusal}
use Rattle.outlines.proofs.FirstOfReport.{report_row_has}
use Rattle.request.specs.Fields.{line_field}
use Rattle.request.specs.Input.{Request}

module _ (q : Request) (line_le : length q.line ≤ line_field.most) where
  abbrev m : ℕ
  m = length q.ring

  abbrev n : ℕ
  n = length q.line

  -- neither number 3 nor number 4
  abbrev NotThreeNorFour : Refusal → Type 0
  NotThreeNorFour refusal = (number_of refusal ≡ 3 → ⊥) × (number_of refusal ≡ 4 → ⊥)

  -- of a search's rows, 3 and 4 are never given
  search_rows : (refusal : Refusal) → first_given (admit_rows q.ring q.allowance n (room_required m n)) ≡ Some refusal → NotThreeNorFour refusal
  search_rows =
      by_row q.ring q.allowance n (room_required m n) NotThreeNorFour (λ _. (λ e. omega arith, λ e. omega arith)) (λ _. (λ e. omega arith, λ e. omega arith))
      (λ _. (λ e. omega arith, λ e. omega arith)) (λ long. absurd (omega arith)) (λ short. absurd (omega arith))

  -- A request whose line has at most 4,096 edges is refused neither by 3 nor by 4.
  pub rows_3_4_never : (refusal : Refusal) → report_refusal (admit_rows q.ring q.allowance n (room_required m n)) q.book ≡ Some refusal
      → (number_of refusal ≡ 3 → ⊥) × (number_of refusal ≡ 4 → ⊥)
  rows_3_4_never =
      report_row_has (admit_rows q.ring q.allowance n (room_required m n)) q.book NotThreeNorFour search_rows
      (refusal_has q.book NotThreeNorFour (λ e. omega arith, λ e. omega arith) (λ at. (λ e. omega arith, λ e. omega arith)) (λ at. (λ e. omega arith, λ e. omega arith)))
