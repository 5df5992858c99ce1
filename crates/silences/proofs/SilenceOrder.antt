-- What the tests on addresses decide: `is_below` the order `Below`, `is_same` equality. Each from its comparisons of numbers (SizesTested of crates/lists).
use Prim.Native.Nat.{◌<◌}
use mathlib.Core.Logic.Iff
use mathlib.Core.Logic.{◌⊎◌, inl, inr, ⊎_elim, ◌↔◌}
use mathlib.Core.Path.{◌≡◌, ap}
use mathlib.Core.Bool.{true}
use native.Mathlib.Omega.{arith}
use lib.Dec.{ltb}
use borrow.Author.Tests.{le-ltb, eq-eqb}
use Rattle.lists.proofs.SizesTested.{lt_iff, eq_iff, and_iff, or_iff}
use Rattle.silences.specs.Silences.{Address, is_below, Below, by_cell, by_ring_number, by_start, is_same}

module _ (a b : Address) where
  -- The test `is_below` passes exactly when a is below b.
  pub is_below_iff : (is_below a b ≡ true) ↔ Below a b
  unfolding is_below
  is_below_iff =
      Iff.trans
      (or_iff (lt_iff a.cell b.cell)
      (and_iff (eq_iff a.cell b.cell)
      (or_iff (lt_iff a.ring_number b.ring_number) (and_iff (eq_iff a.ring_number b.ring_number) (lt_iff a.start b.start)))))
      (⊎_elim by_cell (λ h. ⊎_elim (by_ring_number h.0) (λ g. by_start h.0 g.0 g.1) h.1), first_that_differs)
    where
      first_that_differs : Below a b
          → (a.cell < b.cell) ⊎ ((a.cell ≡ b.cell) × ((a.ring_number < b.ring_number) ⊎ ((a.ring_number ≡ b.ring_number) × (a.start < b.start))))
      first_that_differs (by_cell c) = inl c
      first_that_differs (by_ring_number c r) = inr (c, inl r)
      first_that_differs (by_start c r s) = inr (c, inr (r, s))

  -- If the cells are equal and the ring numbers are equal, the starts decide.
  pub is_below_start : a.cell ≡ b.cell → a.ring_number ≡ b.ring_number → is_below a b ≡ ltb a.start b.start
  unfolding is_below
  is_below_start same_cell same_ring =
      simp (
        le-ltb a.cell b.cell (omega arith),
        eq-eqb a.cell b.cell same_cell,
        le-ltb a.ring_number b.ring_number (omega arith),
        eq-eqb a.ring_number b.ring_number same_ring,
      )

  -- The test `is_same` passes exactly when the three numbers are equal.
  pub same_numbers_iff : (is_same a b ≡ true) ↔ ((a.cell ≡ b.cell) × ((a.ring_number ≡ b.ring_number) × (a.start ≡ b.start)))
  unfolding is_same
  same_numbers_iff = and_iff (eq_iff a.cell b.cell) (and_iff (eq_iff a.ring_number b.ring_number) (eq_iff a.start b.start))

  -- The test `is_same` passes exactly when the addresses are equal.
  pub is_same_iff : (is_same a b ≡ true) ↔ (a ≡ b)
  is_same_iff =
      Iff.trans same_numbers_iff (
        λ h i. record { cell = h.0 i; ring_number = h.1.0 i; start = h.1.1 i },
        λ e. (ap (λ (s : Address). s.cell) e, (ap (λ (s : Address). s.ring_number) e, ap (λ (s : Address). s.start) e)),
      )
