-- The paper, the area at exit and the number of records of a call on a book, by the first row that is given: the form that AnswerByRows of crates/answers uses.
-- RowsOfReading, RowsOfUnpacking and RowsOfPacking are proved through these.
use Prim.Native.Nat.{ℕ}
use mathlib.Core.Logic.{◌↔◌}
use mathlib.Core.Path.{◌≡◌, refl, sym, ap, ◌∙◌}
use mathlib.Core.List.{List}
use Rattle.std.specs.Prelude.{Option, None, Some}
use lib.ListN.{length}
use Rattle.lists.specs.Areas.{written}
use Rattle.answers.specs.declared.refusals.Refusal.{Refusal}
use Rattle.answers.specs.Paper.{Paper, answer_paper}
use Rattle.answers.specs.Rows.{answer_by, area_by}
use Rattle.answers.proofs.OneAnswer.{answer_unique}
use Rattle.answers.proofs.AnswerByRows.{answer_gives_iff}
use Rattle.silences.specs.Silences.{Silence}
use Rattle.silences.specs.Packing.{area_at_exit}
use Rattle.std.specs.Prelude.{Result, Ok}
use Rattle.book.specs.Calls.{answer_of, paper_of, records_paper}
use Rattle.book.proofs.OneAnswer.{paper_unique}

-- The area at exit: with the output written if no row is given, else as it was.
pub area_by_lem : (output : List Silence → List ℕ) (area : List ℕ) (o : Option Refusal) (ss : List Silence)
    → area_at_exit output (answer_by o ss) area ≡ area_by o (written (output ss) area) area
area_by_lem output area None ss = refl
area_by_lem output area (Some q) ss = refl

-- The paper: if no row is given, the number of records is the number of silences.
pub paper_by : (o : Option Refusal) (ss : List Silence) {p : Paper ℕ} → p ≡ records_paper (answer_by o ss) → p ≡ answer_paper 0 (answer_by o (length ss))
paper_by None ss e = e
paper_by (Some q) ss e = e

-- A call returns n records exactly when no row is given and there are n silences.
pub records_iff : (o : Option Refusal) (ss : List Silence) (r : Result ℕ Refusal) → paper_of r ≡ records_paper (answer_by o ss) → (n : ℕ)
    → (r ≡ Ok n) ↔ ((o ≡ None) × (length ss ≡ n))
records_iff o ss r paper n =
    let is = answer_unique 0 (answer_of r) (answer_by o (length ss)) (paper_by o ss paper) in (
      λ e. (answer_gives_iff (length ss) n o).0 (sym is ∙ ap answer_of e),
      λ h. paper_unique r (Ok n) (ap (answer_paper 0) (is ∙ (answer_gives_iff (length ss) n o).1 h)),
    )
