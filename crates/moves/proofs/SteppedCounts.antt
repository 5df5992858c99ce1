-- `step` first changes the counts and then renumbers them; this gives the counts after a step. Renumbering only moves counts, so it does not change their least.
use Prim.Native.Nat.{ℕ, ◌+◌, ◌%◌, ◌<◌}
use mathlib.Core.Path.{◌≡◌, ap, ◌∙◌}
use mathlib.Core.List.{List}
use native.Mathlib.Nat.{mod-lt}
use native.Mathlib.Omega.{arith}
use lib.ListN.{length, get_or}
use Rattle.meaning.specs.Looks.{step_looks}
use Rattle.tally.specs.declared.counts.Least.{Least}
use Rattle.tally.specs.Counts.{IsLeast}
use Rattle.moves.specs.Moves.{changed_at, earlier, IsStepped}
use Rattle.lists.specs.ByPlace.{StoredFirst}
use Rattle.lists.proofs.StoreLoop.{stored_again, stored_is}
use Rattle.tally.proofs.LeastIsOne.{least_of_only}
use Rattle.moves.proofs.NextRotation.{earlier_lt, earlier_next}

-- Renumbering does not change the least.
renumbered_least : (m : ℕ) (old new : List ℕ) (least : ℕ) → StoredFirst m (λ r. get_or old (earlier m r) 0) old new → IsLeast m old least → IsLeast m new least
renumbered_least m old new least renumbered is_least =
    let next : ℕ = (is_least.place + 1) % m in
    let next_lt : next < m = mod-lt (is_least.place + 1) (omega (arith, is_least.place_lt)) in
    record {
      le = λ r l. omega (arith, renumbered.first r l, is_least.le (earlier m r) (earlier_lt m r l));
      place = next;
      place_lt = next_lt;
      is = renumbered.first next next_lt ∙ ap (λ (p : ℕ). get_or old p 0) (earlier_next m is_least.place is_least.place_lt) ∙ is_least.is;
    }

-- Counts that are changed, with 2·m looks and the least found, and then renumbered, meet the contract of `step`.
pub stepped_is : (ring old mid new : List ℕ) (leaving entering : ℕ) (z : Least) → StoredFirst (length ring) (changed_at ring leaving entering old) old mid
    → IsLeast (length ring) mid z.least → z.looks ≡ step_looks (length ring) → StoredFirst (length ring) (λ r. get_or mid (earlier (length ring) r) 0) mid new
    → IsStepped ring leaving entering old new z
stepped_is ring old mid new leaving entering z changed is_least looked renumbered = record {
  written = stored_is (stored_again changed renumbered (λ r l. changed.first (earlier (length ring) r) (earlier_lt (length ring) r l)));
  least_is = least_of_only (length ring) new z.least (renumbered_least (length ring) mid new z.least renumbered is_least);
  looks_are = looked;
}
