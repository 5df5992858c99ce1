-- The loop of `change`, one rotation a turn. A turn stores count − (leaving edge differs) + (entering edge differs), mod 2^16 (`StoreLoop` of crates/lists), and
-- keeps the least so far (`LeastSoFar` of crates/tally). The least begins with the largest number of sixteen bits; no count is above it.
use Prim.Native.Nat.{ℕ, ◌+◌, ◌-◌, ◌≤◌, ◌<◌}
use mathlib.Core.Path.{◌≡◌, refl, ◌∙◌}
use mathlib.Core.List.{List}
use native.Mathlib.Nat.{mod-lt}
use native.Mathlib.Omega.{arith}
use lib.ListN.{get_or}
use Rattle.meaning.specs.Counting.{one_if}
use Rattle.meaning.specs.Meanings.{unequal}
use Rattle.lists.specs.ByPlace.{StoredFirst}
use Rattle.tally.specs.Counts.{IsLeast}
use Rattle.tally.proofs.LeastSoFar.{LeastSoFar, least_so_far_end}
use Rattle.moves.specs.Moves.{sixteen_bits, changed_count, changed_at}

-- The largest number of sixteen bits, with which the least begins.
abbrev pub last_count : ℕ
last_count = sixteen_bits - 1

module _ (ring : List ℕ) (leaving entering : ℕ) (old : List ℕ) where
  -- The count computed in turn r is the changed count of rotation r, because the count at r is still the old one.
  pub changed_here : {new : List ℕ} {r lost won count : ℕ} → StoredFirst r (changed_at ring leaving entering old) old new
      → lost ≡ one_if (unequal leaving (get_or ring r 0)) → won ≡ one_if (unequal entering (get_or ring r 0)) → count ≡ changed_count (get_or new r 0) lost won
      → count ≡ changed_at ring leaving entering old r
  unfolding changed_at
  changed_here {r = r} stored lost_is won_is count_is_lem = count_is_lem ∙ rw (stored.rest r (omega arith), lost_is, won_is) refl

  -- A changed count is at most the largest number of sixteen bits.
  changed_le : (r : ℕ) → changed_at ring leaving entering old r ≤ last_count
  unfolding changed_at
  changed_le r =
      let lost : ℕ = one_if (unequal leaving (get_or ring r 0)) in
      let won : ℕ = one_if (unequal entering (get_or ring r 0)) in
      omega (arith, mod-lt (get_or old r 0 + (sixteen_bits - lost) + won) {m = sixteen_bits} (omega arith))

  -- After the last turn the least so far is the least of all m changed counts.
  pub changed_least : {new : List ℕ} {least r m : ℕ} → StoredFirst r (changed_at ring leaving entering old) old new → LeastSoFar last_count new least r → r ≡ m
      → 0 < m → IsLeast m new least
  changed_least stored so_far all some =
      least_so_far_end so_far all some (λ is. omega (arith, so_far.le 0 (omega arith), stored.first 0 (omega arith), changed_le 0))
