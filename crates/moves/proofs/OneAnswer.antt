-- The contract of `move_tally` is one equation for the returned struct and the counts at exit, so it determines both.
use Prim.Native.Nat.{ℕ}
use mathlib.Core.Path.{◌≡◌, sym, ap, ◌∙◌}
use mathlib.Core.List.{List}
use Rattle.windows.specs.Windows.{Parts}
use Rattle.moves.specs.declared.steps.Reached.{Reached}
use Rattle.moves.specs.Moves.{CountsAt, reached_with, IsMoved}

-- Any two answers that meet the contract of `move_tally` are equal, and so are the counts at exit.
pub one_move : (ring : List ℕ) (p : Parts) (from steps below : ℕ) (old new new' : List ℕ) (r r' : Reached) → IsMoved ring p from steps below old new r
    → IsMoved ring p from steps below old new' r' → (r ≡ r') × (new ≡ new')
one_move ring p from steps below old new new' r r' a b =
    let same : reached_with r new ≡ reached_with r' new' = a.is ∙ sym b.is in (
      λ i. record {
        start = record { 0 = ap (λ (c : CountsAt). c.start) same i };
        least = ap (λ (c : CountsAt). c.least) same i;
        looks = ap (λ (c : CountsAt). c.looks) same i;
        past = ap (λ (c : CountsAt). c.past) same i;
      },
      ap (λ (c : CountsAt). c.counts) same,
    )
