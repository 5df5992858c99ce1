-- The contract of `pack` has one answer and one area at exit: any two that meet it are equal. The paper determines the answer (`paper_unique` of crates/book).
use Prim.Native.Nat.{ℕ}
use mathlib.Core.Path.{◌≡◌, sym, ◌∙◌}
use mathlib.Core.List.{List}
use Rattle.std.specs.Prelude.{Result}
use Rattle.answers.specs.declared.refusals.Refusal.{Refusal}
use Rattle.book.proofs.OneAnswer.{paper_unique}
use Rattle.packing.specs.Calls.{IsPacked}

-- Any two answers of `pack` that meet its contract are equal, and so are the areas at exit.
pub pack_unique : (words area : List ℕ) (r r' : Result ℕ Refusal) (out out' : List ℕ) → IsPacked words area r out → IsPacked words area r' out'
    → (r ≡ r') × (out ≡ out')
pack_unique words area r r' out out' p p' = (paper_unique r r' (p.paper ∙ sym p'.paper), p.written ∙ sym p'.written)
