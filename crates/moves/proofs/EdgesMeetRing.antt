-- Which ring edge a step's two edges are compared with. The leaving edge is at line place i, the first of the window at i. The entering edge is at line place i + m,
-- the last of the window at i + 1. For the leaving edge and rotation r, `to_ring` gives ring place r; for the entering edge and the next rotation it gives r too. So
-- `change` compares both with the ring's edge at r and converts no place.
use Prim.Native.Nat.{ℕ, ◌+◌, ◌-◌, ◌%◌, ◌<◌}
use mathlib.Core.Path.{◌≡◌, ap, ◌∙◌}
use native.Mathlib.Nat.{mod-lt, mod-eq_of_lt, mod-add-mod, add-mod_right}
use native.Mathlib.Omega.{arith}
use Rattle.answers.specs.Places.{ring_place_of}
use Rattle.answers.proofs.PlacesUndo.{ring_place_is}

module _ (i r m : ℕ) (below : r < m) where
  -- For start i and rotation r, the leaving edge at line place i meets the ring's edge at place r.
  pub leaving_meets : (ring_place_of (record { 0 = i }) (record { 0 = i }) (record { 0 = r }) m).0 ≡ r
  leaving_meets =
      let none : r + 0 ≡ r = omega arith in
      ring_place_is (record { 0 = i }) (record { 0 = r }) m below (record { 0 = i }) 0 (omega arith) ∙ ap (λ (n : ℕ). n % m) none ∙ mod-eq_of_lt below

  -- For start i + 1 and the rotation after r, the entering edge at line place i + m meets the ring's edge at place r.
  pub entering_meets : (ring_place_of (record { 0 = i + m }) (record { 0 = i + 1 }) (record { 0 = (r + 1) % m }) m).0 ≡ r
  entering_meets =
      let whole : r + 1 + (m - 1) ≡ r + m = omega arith in
      ring_place_is (record { 0 = i + 1 }) (record { 0 = (r + 1) % m }) m (mod-lt (r + 1) (omega arith)) (record { 0 = i + m }) (m - 1) (omega arith)
      ∙ mod-add-mod (r + 1) m (m - 1)
      ∙ ap (λ (n : ℕ). n % m) whole
      ∙ add-mod_right r m
      ∙ mod-eq_of_lt below
