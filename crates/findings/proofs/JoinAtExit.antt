-- The join area at exit, for the rows of any call. A refusal leaves it as it was, and so does any call on a line shorter than the ring. After an accepted
-- call with n ≥ m it holds the line's last m − 1 edges, its first m − 1, and then its own bytes from place 2·m − 2 on (`JoinArea` of crates/meaning).
use Prim.Native.Nat.{ℕ, ◌-◌, ◌*◌, ◌≤◌, ◌<◌}
use mathlib.Core.Path.{◌≡◌, refl, ap, ◌∙◌}
use mathlib.Core.List.{List, ◌++◌, append_assoc}
use Rattle.std.specs.Prelude.{Option, None, Some}
use lib.ListN.{length, take, drop}
use Rattle.lists.specs.Areas.{written}
use Rattle.meaning.specs.Closed.{join_of, joined_with}
use Rattle.meaning.proofs.JoinArea.{join_length, joined_long, joined_short}
use Rattle.answers.specs.declared.refusals.Refusal.{Refusal}
use Rattle.answers.specs.Rows.{first_given, area_by}
use Rattle.findings.specs.ClosedSearching.{join_at_exit}

module _ (rows : List (Option Refusal)) (m : ℕ) (line join : List ℕ) where
  -- If a row is given, the join area is as it was.
  pub join_refused : {refusal : Refusal} → first_given rows ≡ Some refusal → join_at_exit rows m line join ≡ join
  unfolding join_at_exit
  join_refused e = ap (λ (o : Option Refusal). area_by o (joined_with m line join) join) e

  -- If no row is given, the join area is `joined_with`.
  pub join_accepted : first_given rows ≡ None → join_at_exit rows m line join ≡ joined_with m line join
  unfolding join_at_exit
  join_accepted e = ap (λ (o : Option Refusal). area_by o (joined_with m line join) join) e

  -- For n < m the join area is as it was, whether a row is given or not.
  pub join_short : length line < m → join_at_exit rows m line join ≡ join
  unfolding join_at_exit
  join_short short = ap (λ (area : List ℕ). area_by (first_given rows) area join) (joined_short m line join short) ∙ either (first_given rows)
    where
      either : (o : Option Refusal) → area_by o join join ≡ join
      either None = refl
      either (Some refusal) = refl

  -- If no row is given and n ≥ m, the join area has "the line's last m−1 edges and its first m−1", and then its bytes from place 2·m − 2 on as they were.
  pub join_long : first_given rows ≡ None → m ≤ length line
      → join_at_exit rows m line join ≡ drop (length line - (m - 1)) line ++ (take (m - 1) line ++ drop (2 * m - 2) join)
  unfolding written join_of
  join_long e long =
      join_accepted e ∙ joined_long m line join long
      ∙ ap (λ (size : ℕ). join_of m line ++ drop size join) (join_length m line long)
      ∙ append_assoc (drop (length line - (m - 1)) line) (take (m - 1) line) (drop (2 * m - 2) join)
