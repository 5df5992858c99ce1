-- Any two answers that meet the contract of `import_vertices` are equal, and so are the bytes at exit: the paper determines the answer (`answer_unique` of crates/answers), and
-- the answer determines what is returned.
use Prim.Native.Nat.{ℕ}
use mathlib.Core.Path.{◌≡◌, refl, sym, ap, ◌∙◌}
use mathlib.Core.List.{List}
use lib.IntN.{ℤ}
use Rattle.std.specs.Prelude.{Result, Ok, Err}
use Rattle.answers.specs.declared.refusals.Refusal.{Refusal}
use Rattle.answers.specs.Paper.{Answer, accepted, refused, answer_from}
use Rattle.answers.proofs.OneAnswer.{answer_unique}
use Rattle.vertices.specs.Importing.{IsImported}

-- what is returned for an answer
abbrev answer_back : Answer ℕ → Result ℕ Refusal
answer_back (accepted edges) = Ok edges
answer_back (refused refusal) = Err refusal

-- from its answer what is returned is computed back
answer_back_lem : (r : Result ℕ Refusal) → answer_back (answer_from (λ edges. edges) r) ≡ r
answer_back_lem (Ok edges) = refl
answer_back_lem (Err refusal) = refl

-- Any two answers of `import_vertices` are equal, and so are the bytes at exit.
pub import_unique : (numbers : List ℤ) (area : List ℕ) (r r' : Result ℕ Refusal) (out out' : List ℕ) → IsImported numbers area r out → IsImported numbers area r' out'
    → (r ≡ r') × (out ≡ out')
import_unique numbers area r r' out out' p p' = (
  sym (answer_back_lem r) ∙ ap answer_back (answer_unique 0 (answer_from (λ edges. edges) r) (answer_from (λ edges. edges) r') (p.paper ∙ sym p'.paper)) ∙ answer_back_lem r',
  p.written ∙ sym p'.written,
)
