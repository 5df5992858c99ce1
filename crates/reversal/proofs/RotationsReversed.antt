-- Rotations of the reversed ring. Rotation r of the reversed ring has at place q the reversed code of what rotation (m − r) mod m of the ring has at place
-- m − 1 − q (`reversed_edge`): both are read at the same ring place (`mirrored_place`). So rotation r of the reversed ring is the reversed ring of that
-- rotation.
-- Distances: two codes are equal exactly when their reversed codes are (`equal_reversed`). So a window differs from rotation r of the reversed ring at place q
-- exactly when the reversed window differs from rotation (m − r) mod m of the ring at place m − 1 − q. Counted from either end, the number of differing places is
-- the same (`count_backwards`).
use Prim.Native.Nat.{ℕ, ◌+◌, ◌-◌, ◌%◌, ◌≤◌, ◌<◌}
use mathlib.Core.Path.{◌≡◌, sym, ap, ◌∙◌}
use mathlib.Core.Bool.{not}
use mathlib.Core.List.{List}
use mathlib.Core.Logic.{dite}
use native.Mathlib.Nat.{zero-add, mod-lt, mod-eq_of_lt, mod-eq-sub-mod, mod-add-mod, add-mod_left}
use native.Mathlib.Decide.{dec_lt}
use native.Mathlib.Omega.{arith}
use lib.ListN.{length, get_or}
use lib.Seq.{ext_get_or}
use Rattle.lists.proofs.ByPlace.{list_of_length, list_of_at}
use Rattle.meaning.specs.Counting.{count}
use Rattle.meaning.specs.Meanings.{rotation_edge, FitsInLine, window, window_edge, unequal, differs, distance}
use Rattle.meaning.proofs.Count.{count_backwards}
use Rattle.meaning.proofs.Windows.{window_edge_is, window_length}
use Rattle.reversal.specs.Reversing.{reversed_code, reversed_ring, rotated}
use Rattle.reversal.proofs.CodeTwice.{equal_reversed}
use Rattle.reversal.proofs.RingTwice.{reversed_length, reversed_at}

-- Read from the other end, place p is place m − 1 − p. Place (r + q) mod m is then (m − r) + (m − 1 − q), mod m.
mirrored_place : (m r q : ℕ) → r < m → q < m → m - 1 - (r + q) % m ≡ ((m - r) % m + (m - 1 - q)) % m
mirrored_place m r q r_lt q_lt =
    let s : ℕ = m - r + (m - 1 - q) in
    dite (dec_lt (r + q) m)
    (λ within.
    let p : ℕ = m - 1 - (r + q) in
    let whole : s ≡ m + p = omega arith in
    let in_ring : p < m = omega arith in
    ap (λ (n : ℕ). m - 1 - n) (mod-eq_of_lt within)
    ∙ sym (mod-add-mod (m - r) m (m - 1 - q) ∙ ap (λ (n : ℕ). n % m) whole ∙ add-mod_left m p ∙ mod-eq_of_lt in_ring))
    (λ around.
    let over : m ≤ r + q = omega (arith, around) in
    let less : r + q - m < m = omega arith in
    let in_ring : s < m = omega arith in
    let same : m - 1 - (r + q - m) ≡ s = omega arith in
    ap (λ (n : ℕ). m - 1 - n) (mod-eq-sub-mod over ∙ mod-eq_of_lt less)
    ∙ same ∙ sym (mod-add-mod (m - r) m (m - 1 - q) ∙ mod-eq_of_lt in_ring))

-- A rotation has m edges.
rotated_length : (r : ℕ) (ring : List ℕ) → length (rotated r ring) ≡ length ring
unfolding rotated
rotated_length r ring = list_of_length (length ring) _

-- Its edge at place q is `rotation_edge`.
rotated_at : (r : ℕ) (ring : List ℕ) (q : ℕ) → q < length ring → get_or (rotated r ring) q 0 ≡ rotation_edge ring r q
unfolding rotated
rotated_at r ring = list_of_at (length ring) _

module _ (ring : List ℕ) (r : ℕ) (is_rotation : r < length ring) where
  abbrev m : ℕ
  m = length ring

  -- The rotation of the ring whose reversed ring is rotation r of the reversed ring.
  abbrev back : ℕ
  back = (m - r) % m

  -- Rotation r of the reversed ring has at place q the reversed code of what that rotation has at place m − 1 − q.
  reversed_edge : (q : ℕ) → q < m → rotation_edge (reversed_ring ring) r q ≡ reversed_code (rotation_edge ring back (m - 1 - q))
  reversed_edge q l =
      ap (λ (n : ℕ). get_or (reversed_ring ring) ((r + q) % n) 0) (reversed_length ring)
      ∙ reversed_at ring ((r + q) % m) (mod-lt (r + q) (omega arith))
      ∙ ap (λ (p : ℕ). reversed_code (get_or ring p 0)) (mirrored_place m r q is_rotation l)

  -- A rotation of the reversed ring is the reversed ring of a rotation.
  pub rotation_reversed : rotated r (reversed_ring ring) ≡ reversed_ring (rotated ((length ring - r) % length ring) ring)
  rotation_reversed =
      let reversed : List ℕ = reversed_ring ring in
      let turned : List ℕ = rotated back ring in
      let size : length turned ≡ m = rotated_length back ring in
      ext_get_or 0 (rotated r reversed) (reversed_ring turned) (rotated_length r reversed ∙ reversed_length ring ∙ sym (reversed_length turned ∙ size))
      (λ q l.
      let in_ring : q < m = omega (arith, rotated_length r reversed, reversed_length ring) in
      let p : ℕ = m - 1 - q in
      rotated_at r reversed q (omega (arith, reversed_length ring)) ∙ reversed_edge q in_ring
      ∙ ap reversed_code (sym (rotated_at back ring p (omega arith)))
      ∙ ap (λ (n : ℕ). reversed_code (get_or turned (n - 1 - q) 0)) (sym size)
      ∙ sym (reversed_at turned q (omega arith)))

  module _ (line : List ℕ) (i : ℕ) (in_line : FitsInLine ring line i) where
    -- The reversed window has at place m − 1 − q the reversed code of the line's edge at i + q.
    reversed_window : (q : ℕ) → q < m → window_edge (reversed_ring (window m line i)) 0 (m - 1 - q) ≡ reversed_code (window_edge line i q)
    reversed_window q l =
        let w : List ℕ = window m line i in
        let size : length w ≡ m = window_length ring line i in_line in
        let p : ℕ = m - 1 - q in
        let again : length w - 1 - p ≡ q = omega arith in
        ap (λ (n : ℕ). get_or (reversed_ring w) n 0) (zero-add p) ∙ reversed_at w p (omega arith)
        ∙ ap (λ (n : ℕ). reversed_code (get_or w n 0)) again ∙ ap reversed_code (window_edge_is m line i q l)

    -- The window at i is as far from rotation r of the reversed ring as the reversed window is from rotation (m − r) mod m of the ring.
    pub distance_reversed :
        distance (reversed_ring ring) line i r ≡ distance ring (reversed_ring (window (length ring) line i)) 0 ((length ring - r) % length ring)
    unfolding distance differs
    distance_reversed =
        let w : List ℕ = reversed_ring (window m line i) in
        ap (count (differs (reversed_ring ring) line i r) 0) (reversed_length ring)
        ∙ count_backwards (differs (reversed_ring ring) line i r) (differs ring w 0 back) m
        (λ q l.
        let edge : ℕ = rotation_edge ring back (m - 1 - q) in
        ap (unequal (window_edge line i q)) (reversed_edge q l)
        ∙ ap not (sym (equal_reversed (window_edge line i q) edge))
        ∙ ap (λ (x : ℕ). unequal x edge) (sym (reversed_window q l)))
