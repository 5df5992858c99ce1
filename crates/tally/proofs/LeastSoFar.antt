-- The least of the first r counts, found by a loop that passes over them. The least begins with a number `top`. A turn takes the lower of the least and the count
-- at r. At the end the least is still `top`, or it is one of the counts; if it is `top`, the caller shows that the first count equals it. A loop may also
-- store the count at r in the same turn (`least_so_far_stored`).
use Prim.Native.Nat.{ℕ, ◌+◌, ◌≤◌, ◌<◌, min}
use mathlib.Core.Path.{◌≡◌, refl, sym, ◌∙◌}
use mathlib.Core.List.{List}
use mathlib.Core.Logic.{◌⊎◌, inl, inr, ⊎_elim, dite}
use native.Mathlib.Decide.{dec_lt}
use native.Mathlib.Omega.{arith}
use lib.ListN.{length, get_or, set}
use lib.Seq.{get_or-set_same, get_or-set_other}
use borrow.Author.Count.{below_more}
use Rattle.tally.specs.Counts.{IsLeast}

-- One of the first r counts equals `least`.
abbrev IsAmong : List ℕ → ℕ → ℕ → Type 0
IsAmong counts least r = (s : ℕ) × (s < r) × (get_or counts s 0 ≡ least)

-- The invariant before turn r: the least is at most `top`, none of the first r counts is below it, and it is `top` or one of them.
pub record LeastSoFar (top : ℕ) (counts : List ℕ) (least r : ℕ) : Type 0 where
  pub top_le : least ≤ top
  pub le : (s : ℕ) → s < r → least ≤ get_or counts s 0
  pub reached : (least ≡ top) ⊎ IsAmong counts least r

-- Before turn 0 the least is `top`.
pub least_so_far_start : (top : ℕ) (counts : List ℕ) → LeastSoFar top counts top 0
least_so_far_start top counts = record { top_le = omega arith; le = λ s l. absurd (omega arith); reached = inl refl }

-- A loop may begin at turn 1 with the first count as the least and as `top`.
pub least_so_far_first : (counts : List ℕ) → LeastSoFar (get_or counts 0 0) counts (get_or counts 0 0) 1
least_so_far_first counts = record { top_le = omega arith; le = λ s l. let first : s ≡ 0 = omega arith in rw first (omega arith); reached = inl refl }

module _ {top : ℕ} {counts : List ℕ} {least r : ℕ} (known : LeastSoFar top counts least r) where
  -- If the count at r is less, it is the least so far after turn r.
  least_so_far_less : get_or counts r 0 < least → LeastSoFar top counts (get_or counts r 0) (r + 1)
  least_so_far_less less = record {
    top_le = omega (arith, known.top_le);
    le = below_more _ _ (λ s l. omega (arith, known.le s l)) (omega arith);
    reached = inr (r, omega arith, omega arith);
  }

  -- If the count at r is not less, the least is kept.
  least_so_far_kept : least ≤ get_or counts r 0 → LeastSoFar top counts least (r + 1)
  least_so_far_kept kept = record {
    top_le = known.top_le;
    le = below_more _ _ known.le kept;
    reached = ⊎_elim inl (λ there. inr (there.0, omega (arith, there.1), there.2)) known.reached;
  }

  -- A turn takes the lower of the least and the count at r.
  pub least_so_far_turn : {count : ℕ} → count ≡ get_or counts r 0 → LeastSoFar top counts (min least count) (r + 1)
  least_so_far_turn {count} here = dite (dec_lt count least)
      (λ less. let is : min least count ≡ get_or counts r 0 = omega (arith, here, less) in rw is (least_so_far_less (omega (arith, here, less))))
      (λ kept. let is : min least count ≡ least = omega (arith, kept) in rw is (least_so_far_kept (omega (arith, here, kept))))

  -- Storing a number at r does not change the least of the first r counts.
  stored_after : (v : ℕ) → LeastSoFar top (set counts r v) least r
  stored_after v =
      let same : (s : ℕ) → s < r → get_or (set counts r v) s 0 ≡ get_or counts s 0 = λ s l. get_or-set_other counts r s v 0 (λ e. omega arith) in
      record {
        top_le = known.top_le;
        le = λ s l. omega (arith, known.le s l, same s l);
        reached = ⊎_elim inl (λ there. inr (there.0, there.1, same there.0 there.1 ∙ there.2)) known.reached;
      }

  -- After turn m the least is the least of the first m counts, if the first count equals it whenever it is still `top`.
  pub least_so_far_end : {m : ℕ} → r ≡ m → 0 < m → (least ≡ top → get_or counts 0 0 ≡ least) → IsLeast m counts least
  least_so_far_end all some first =
      let there : IsAmong counts least r = ⊎_elim (λ is. (0, omega arith, first is)) (λ is. is) known.reached in
      record { le = λ s l. known.le s (omega arith); place = there.0; place_lt = omega (arith, there.1); is = there.2 }

-- The same turn for a loop that first stores the count at r.
pub least_so_far_stored : {top : ℕ} {counts : List ℕ} {least r : ℕ} (count : ℕ) → LeastSoFar top counts least r → r < length counts
    → LeastSoFar top (set counts r count) (min least count) (r + 1)
least_so_far_stored {counts = counts} {r = r} count known room = least_so_far_turn (stored_after known count) (sym (get_or-set_same counts r count 0 room))
