-- `holds_mark` asks its edges one after the other by `any`, whose result std states by `list_any`; the document's test asks the places (`some_below`). Both are
-- the same test (`any_is_some`, by induction on how many edges are asked).
use Prim.Native.Nat.{ℕ, zero, suc, ◌≤◌}
use mathlib.Core.Path.{◌≡◌, refl, sym, ap, ◌∙◌}
use mathlib.Core.Bool.{Bool, ◌||◌}
use mathlib.Core.List.{List}
use native.Mathlib.Numerals.{add-one}
use native.Mathlib.Omega.{arith}
use lib.ListN.{length, take, get_or}
use Rattle.std.specs.List.{list_any}
use Rattle.std.proofs.lemmas.List.{take_all}
use Rattle.std.proofs.lemmas.List.Folds.{list_any_more}
use Rattle.meaning.specs.Counting.{some_below}
use Rattle.meaning.specs.Meanings.{is_mark, holds_mark}
use Rattle.findings.specs.Marks.{SaysHoldsMark}

-- Whether one of the first n elements passes a test, asked by element or by place.
any_is_some : (p : ℕ → Bool) (xs : List ℕ) (n : ℕ) → n ≤ length xs → list_any p (take n xs) ≡ some_below (λ q. p (get_or xs q 0)) n
unfolding some_below
any_is_some p xs zero l = refl
any_is_some p xs (suc n) l =
    ap (λ (k : ℕ). list_any p (take k xs)) (sym (add-one n)) ∙ list_any_more p xs n 0 (omega arith)
    ∙ ap (λ (b : Bool). b || p (get_or xs n 0)) (any_is_some p xs n (omega arith))

-- What `any` returns for the test of a mark meets the contract of `holds_mark`.
pub any_says : {edges : List ℕ} {r : Bool} → r ≡ list_any is_mark edges → SaysHoldsMark edges r
unfolding holds_mark
any_says {edges} is = record { is = is ∙ ap (list_any is_mark) (sym (take_all (length edges) edges (omega arith))) ∙ any_is_some is_mark edges (length edges) (omega arith) }
