-- The ties of a finding. Its own rotation is the first that is counted, since no lower one reaches its distance. So ties are 1 to m, and above 1 exactly when another
-- rotation reaches the same distance.
use Prim.Native.Nat.{ℕ, suc, ◌+◌, ◌-◌, ◌≤◌, ◌<◌}
use mathlib.Core.Path.{◌≡◌, sym, ap}
use mathlib.Core.Bool.{true}
use mathlib.Core.Logic.{◌↔◌}
use mathlib.Core.List.{List}
use native.Mathlib.Nat.{zero-add}
use native.Mathlib.Omega.{arith}
use lib.ListN.{length}
use borrow.Author.Tests.{eqb-true, eq-eqb, ne_eqb}
use Rattle.meaning.specs.Counting.{one_if, count}
use Rattle.meaning.specs.Meanings.{distance, reaches, rotations_reaching}
use Rattle.meaning.specs.Findings.{Finding, IsFinding}
use Rattle.meaning.proofs.Count.{count_split, count_none, count_some, count_has, count_le}

module _ (ring line : List ℕ) (k : ℕ) (f : Finding) (is : IsFinding ring line k f) where
  abbrev m : ℕ
  m = length ring

  -- the rotations after the finding's own that reach its distance
  abbrev others : ℕ
  others = count (reaches ring line f.start f.distance) (suc f.rotation) (m - suc f.rotation)

  -- the finding's own rotation is counted, no lower one is, and the others come after it
  ties_split : f.ties ≡ suc others
  unfolding rotations_reaching count
  ties_split =
      let p = reaches ring line f.start f.distance in
      let own : p f.rotation ≡ true = eq-eqb _ _ (sym is.distance_is) in
      let lower : count p 0 f.rotation ≡ 0 =
      count_none p 0 f.rotation (λ r _ l. ne_eqb (distance ring line f.start r) f.distance (λ same. omega (arith, is.lowest r (omega arith), same))) in
      let rest : ℕ = m - suc f.rotation in
      let parts : f.rotation + suc rest ≡ m = omega (arith, is.is_rotation) in
      omega (
        arith,
        is.ties_are,
        ap (count p 0) parts,
        count_split p 0 f.rotation (suc rest),
        ap (λ (r : ℕ). count p r (suc rest)) (zero-add f.rotation),
        lower,
        ap one_if own,
      )

  -- A finding has at least one tie: its own rotation reaches its distance.
  pub ties_some : 1 ≤ f.ties
  ties_some = omega (arith, ties_split)

  -- A finding has at most m ties.
  pub ties_most : f.ties ≤ length ring
  unfolding rotations_reaching
  ties_most = omega (arith, is.ties_are, count_le (reaches ring line f.start f.distance) 0 (length ring))

  -- A finding has more than one tie exactly when another rotation reaches its distance too.
  pub another_iff : (1 < f.ties) ↔ ((r : ℕ) × (r < length ring) × (r ≡ f.rotation → ⊥) × (distance ring line f.start r ≡ f.distance))
  another_iff = (
    λ more.
        let p = reaches ring line f.start f.distance in
        let found = count_has p (suc f.rotation) (m - suc f.rotation) (omega (arith, ties_split)) in
        (found.0, omega (arith, found.2, is.is_rotation), (λ same. omega (arith, found.1)), eqb-true _ _ found.3),
    λ w.
        let p = reaches ring line f.start f.distance in
        let r : ℕ = w.0 in
        let not_lower : ¬ (r < f.rotation) = λ l. omega (arith, is.lowest r l, w.3) in
        let not_own : r ≡ f.rotation → ⊥ = w.2 in
        omega (
          arith,
          ties_split,
          count_some p (suc f.rotation) (m - suc f.rotation) r (omega (arith, not_lower, not_own)) (omega (arith, w.1)) (eq-eqb _ _ w.3),
        ),
  )
