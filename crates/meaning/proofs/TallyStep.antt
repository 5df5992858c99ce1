-- One step of the tally. Start i under rotation r and start i + 1 under rotation (r + 1) mod m compare each line place that both windows contain with the same
-- ring place. So the two distances differ only by the leaving edge and the entering edge, and both are compared with the same ring edge, the one at r.
use Prim.Native.Nat.{ℕ, suc, ◌+◌, ◌-◌, ◌%◌, ◌<◌}
use mathlib.Core.Path.{◌≡◌, ap, ap₂, ◌∙◌}
use mathlib.Core.List.{List}
use native.Mathlib.Nat.{add-zero, zero-add, add_assoc, mod-add-mod, add-mod_right, mod-eq_of_lt}
use native.Mathlib.Omega.{arith}
use lib.ListN.{length, get_or}
use Rattle.meaning.specs.Counting.{one_if, count}
use Rattle.meaning.specs.Meanings.{window_edge, rotation_edge, unequal, differs, distance}
use Rattle.meaning.proofs.Count.{count_last, count_shift}

module _ (ring line : List ℕ) (i : ℕ) where
  abbrev m : ℕ
  m = length ring

  module _ (r : ℕ) (l : r < m) where
    -- The rotation after r.
    abbrev next : ℕ
    next = (r + 1) % m

    -- Place q + 1 of rotation r is place q of the next rotation.
    next_edge : (q : ℕ) → rotation_edge ring next q ≡ rotation_edge ring r (1 + q)
    next_edge q = ap (λ (p : ℕ). get_or ring p 0) (mod-add-mod (r + 1) m q ∙ ap (λ (p : ℕ). p % m) (add_assoc r 1 q))

    -- So the window at i + 1 and the next rotation differ at q where the window at i and rotation r differ at q + 1.
    next_differs : (q : ℕ) → differs ring line (i + 1) next q ≡ differs ring line i r (1 + q)
    unfolding differs
    next_differs q = ap₂ unequal (ap (λ (p : ℕ). get_or line p 0) (add_assoc i 1 q)) (next_edge q)

    -- The leaving edge is compared with the ring's edge at r,
    first_differs : one_if (differs ring line i r 0) ≡ one_if (unequal (window_edge line i 0) (get_or ring r 0))
    unfolding differs
    first_differs = ap (λ (p : ℕ). one_if (unequal (window_edge line i 0) (get_or ring p 0))) (ap (λ (p : ℕ). p % m) (add-zero r) ∙ mod-eq_of_lt l)

    -- and so is the entering edge.
    last_differs : one_if (differs ring line (i + 1) next (m - 1)) ≡ one_if (unequal (window_edge line (i + 1) (m - 1)) (get_or ring r 0))
    unfolding differs
    last_differs =
        let whole : r + 1 + (m - 1) ≡ r + m = omega arith in
        ap (λ (p : ℕ). one_if (unequal (window_edge line (i + 1) (m - 1)) (get_or ring p 0)))
        (mod-add-mod (r + 1) m (m - 1) ∙ ap (λ (p : ℕ). p % m) whole ∙ add-mod_right r m ∙ mod-eq_of_lt l)

    -- The leaving edge's comparison plus the distance of start i + 1 under (r + 1) mod m is the distance of start i under r plus the entering edge's comparison.
    pub distance_step :
        one_if (unequal (window_edge line i 0) (get_or ring r 0)) + distance ring line (i + 1) next
        ≡ distance ring line i r + one_if (unequal (window_edge line (i + 1) (m - 1)) (get_or ring r 0))
    unfolding distance count
    distance_step =
        let whole : m ≡ suc (m - 1) = omega arith in
        omega (
          arith,
          first_differs,
          last_differs,
          ap (count (differs ring line i r) 0) whole,
          ap (count (differs ring line (i + 1) next) 0) whole,
          count_last (differs ring line (i + 1) next) 0 (m - 1),
          ap (λ (p : ℕ). one_if (differs ring line (i + 1) next p)) (zero-add (m - 1)),
          count_shift (differs ring line (i + 1) next) (differs ring line i r) 1 next_differs 0 (m - 1),
        )
