-- The four cases of verifying a start: there is no earlier tally; the start is not beyond the last verified one; it is s beyond it and 2·s > m; or 2·s ≤ m, and the
-- tally is moved. Each is a case of `tally_by`. None takes more looks than a fresh count for the longest ring, 256·256.
use Prim.Native.Nat.{ℕ, ◌-◌, ◌*◌, ◌≤◌, ◌<◌}
use mathlib.Core.Path.{◌≡◌, ap}
use mathlib.Core.List.{List}
use Rattle.std.specs.Prelude.{Option, None, Some}
use native.Mathlib.Nat.{mul-le-mul, mul-le-mul_right}
use native.Mathlib.Omega.{arith}
use lib.Dec.{ltb, leb}
use lib.ListN.{length}
use borrow.Author.Tests.{lt-ltb, le-ltb, le-leb, lt-leb, ltb-false}
use Rattle.lists.proofs.Cases.{by_test}
use Rattle.answers.specs.declared.places.LinePlace.{LinePlace}
use Rattle.windows.specs.Windows.{Parts, window_of, whole_line}
use Rattle.tally.specs.Counts.{most_counts, can_count, TallyResult, counted_to}
use Rattle.moves.specs.Moves.{CountsAt, unmoved, can_move, IsMoved}
use Rattle.tally.specs.declared.counts.Least.{Least}
use Rattle.tally.proofs.CountCases.{can_count_iff}
use Rattle.moves.specs.declared.steps.Reached.{Reached}
use Rattle.moves.proofs.MoveLoop.{move_looks_le}
use Rattle.sweep.specs.Sweeps.{moved_to, tally_by, IsCountedTo, IsTalliedBy}

-- The looks of a fresh count for the longest ring.
abbrev pub most_tally : ℕ
most_tally = most_counts * most_counts

module _ (ring : List ℕ) {doubled : List ℕ} {p : Parts} {i : ℕ} {old : List ℕ} where
  -- The window at i is counted afresh.
  module _ {new : List ℕ} {z : Least} (counted : IsCountedTo (length ring) doubled p i old new z) where
    -- If there is no earlier tally, counting the window at start i afresh meets the contract of `verify`.
    pub tallied_first : {last : Option LinePlace} → last ≡ None → IsTalliedBy ring doubled p i last old new z
    unfolding tally_by
    tallied_first none = record { is = rw none counted.is }

    -- If start i is not beyond the last verified one, counting its window afresh meets the contract of `verify`.
    pub tallied_behind : {last : Option LinePlace} {from : LinePlace} → last ≡ Some from → i ≤ from.0 → IsTalliedBy ring doubled p i last old new z
    unfolding tally_by
    tallied_behind {from = from} after behind = record { is = rw (after, le-leb i from.0 behind) counted.is }

    -- If start i is s beyond the last verified one and 2·s > m, counting its window afresh meets the contract of `verify`.
    pub tallied_far : {last : Option LinePlace} {from : LinePlace} → last ≡ Some from → from.0 < i → length ring < 2 * (i - from.0) → IsTalliedBy ring doubled p i last old new z
    unfolding tally_by
    tallied_far {from = from} after beyond far = record { is = rw (after, lt-leb i from.0 beyond, lt-ltb (length ring) (2 * (i - from.0)) far) counted.is }

  -- If the start is s beyond the last verified one and 2·s ≤ m, moving the tally s steps meets the contract of `verify`.
  pub tallied_moved : {last : Option LinePlace} {from : LinePlace} {new : List ℕ} {r : Reached} → last ≡ Some from → from.0 < i → 2 * (i - from.0) ≤ length ring
      → IsMoved ring p from.0 (i - from.0) 0 old new r → IsTalliedBy ring doubled p i last old new (record { least = r.least; looks = r.looks })
  unfolding tally_by moved_to
  tallied_moved {from = from} after beyond near moved = record {
    is = rw (after, lt-leb i from.0 beyond, le-ltb (length ring) (2 * (i - from.0)) near)
        (ap (λ (c : CountsAt). record { counts = c.counts; least = c.least; looks = c.looks }) moved.is);
  }

module _ (ring doubled : List ℕ) (p : Parts) (i : ℕ) (old : List ℕ) where
  abbrev m : ℕ
  m = length ring

  afresh_looks_lem : (window : List ℕ) → (counted_to doubled window old).looks ≤ most_tally
  unfolding counted_to
  afresh_looks_lem window =
      by_test (λ (t : TallyResult). t.looks ≤ most_tally) (can_count (length window) (length old) (length doubled))
      (λ e. let most = ((can_count_iff (length window) (length old) (length doubled)).0 e).has_counts.most in mul-le-mul most most)
      (λ _. omega arith)

  moved_looks : (from : ℕ) → m ≤ most_counts → 2 * (i - from) ≤ m → (moved_to ring p from (i - from) old).looks ≤ most_tally
  unfolding moved_to
  moved_looks from most near =
      by_test (λ (c : CountsAt). c.looks ≤ most_tally) (can_move m (length old) (length (whole_line m p)) from (i - from))
      (λ _. omega (arith, move_looks_le ring p 0 (i - from) (unmoved from old), mul-le-mul_right m near, mul-le-mul most most))
      (λ _. omega arith)

  -- For a ring of at most 256 edges, no verification takes more than 256·256 looks.
  pub tally_looks_lem : (last : Option LinePlace) → m ≤ most_counts → (tally_by ring doubled p i last old).looks ≤ most_tally
  unfolding tally_by
  tally_looks_lem None most = afresh_looks_lem (window_of m p i)
  tally_looks_lem (Some from) most =
      by_test (λ (t : TallyResult). t.looks ≤ most_tally) (leb i from.0)
      (λ _. afresh_looks_lem (window_of m p i))
      (λ _. by_test (λ (t : TallyResult). t.looks ≤ most_tally) (ltb m (2 * (i - from.0)))
      (λ _. afresh_looks_lem (window_of m p i))
      (λ e. moved_looks from.0 most (ltb-false m (2 * (i - from.0)) e)))
