-- A write to the first m numbers of a list, through a slice of them alone, stores these numbers in the list: those behind them are kept.
use Prim.Native.Nat.{ℕ, ◌-◌, ◌≤◌, ◌<◌}
use mathlib.Core.Path.{◌≡◌, ap, ◌∙◌}
use mathlib.Core.List.{List, ◌++◌}
use native.Mathlib.Omega.{arith}
use lib.ListN.{length, drop, get_or}
use Rattle.std.proofs.lemmas.List.{length-drop, length-append, get_or-drop, get_or_append_left, get_or-append_right}
use Rattle.lists.specs.ByPlace.{StoredFirst}

-- If the slice of the first m numbers ends with f p at each place p, the list ends with f p at its first m places.
pub stored_front : {m : ℕ} {f : ℕ → ℕ} (old front : List ℕ) → m ≤ length old → length front ≡ m → ((p : ℕ) → p < m → get_or front p 0 ≡ f p)
    → StoredFirst m f old (front ++ drop m old)
stored_front {m} old front room long is = record {
  size = omega (arith, length-append front (drop m old), length-drop m old, long);
  first = λ p l. get_or_append_left front (drop m old) 0 p (omega (arith, long)) ∙ is p l;
  rest = λ p l. get_or-append_right front (drop m old) m p 0 long l ∙ get_or-drop m old (p - m) 0 ∙ ap (λ (s : ℕ). get_or old s 0) (omega arith);
}
