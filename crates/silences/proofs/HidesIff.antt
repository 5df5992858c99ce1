-- The test `hides` passes exactly when some silence of the list has that cell, ring number and start, and a ceiling of at least that distance (`Hides`). By
-- induction over the list: the first silence covers it (`covers_iff`), or the rest hides it.
use Prim.Native.Nat.{ℕ, ◌≤◌}
use mathlib.Core.Logic.{◌↔◌}
use mathlib.Core.Path.{◌≡◌, refl, sym, ap, ◌∙◌}
use mathlib.Core.Bool.{Bool, true, false, ◌&&◌, ◌||◌, or-true, false≢true}
use mathlib.Core.List.{List, [], ◌∷◌, Memᴰ}
use lib.Dec.{leb}
use Rattle.lists.proofs.SizesTested.{le_iff, and_iff}
use Rattle.silences.specs.Silences.{Address, address, Silence, is_same, covers, hides, Hides}
use Rattle.silences.proofs.SilenceOrder.{is_same_iff}

-- A silence covers a distance at an address exactly when it has that address and the distance is at most its ceiling.
pub covers_iff : (s : Silence) (a : Address) (distance : ℕ) → (covers s a distance ≡ true) ↔ ((s.address ≡ a) × (distance ≤ s.ceiling))
unfolding covers
covers_iff s a distance = and_iff (is_same_iff s.address a) (le_iff distance s.ceiling)

-- A silence with another address covers nothing.
pub covers_other : (s : Silence) (a : Address) (distance : ℕ) → is_same s.address a ≡ false → covers s a distance ≡ false
unfolding covers
covers_other s a distance e = ap (λ (t : Bool). t && leb distance s.ceiling) e

-- At its own address the ceiling decides.
pub covers_same : (s : Silence) (a : Address) (distance : ℕ) → is_same s.address a ≡ true → covers s a distance ≡ leb distance s.ceiling
unfolding covers
covers_same s a distance e = ap (λ (t : Bool). t && leb distance s.ceiling) e

module _ (cell ring_number start distance : ℕ) where
  -- the address
  sought : Address
  sought = address cell ring_number start

  -- one silence more at the front
  hides_tail : (s : Silence) (ss : List Silence) → Hides ss cell ring_number start distance → Hides (s ∷ ss) cell ring_number start distance
  hides_tail s ss h =
      record {
        silenced_by = h.silenced_by;
        among = Memᴰ.tail h.among;
        cell_is = h.cell_is;
        ring_number_is = h.ring_number_is;
        start_is = h.start_is;
        distance_le = h.distance_le;
      }

  -- the first silence covers it
  hides_head : (s : Silence) (ss : List Silence) → (s.address ≡ sought) × (distance ≤ s.ceiling) → Hides (s ∷ ss) cell ring_number start distance
  unfolding sought
  hides_head s ss h =
      record {
        silenced_by = s;
        among = Memᴰ.head refl;
        cell_is = ap (λ (a : Address). a.cell) h.0;
        ring_number_is = ap (λ (a : Address). a.ring_number) h.0;
        start_is = ap (λ (a : Address). a.start) h.0;
        distance_le = h.1;
      }

  -- if the test passes, the list hides it
  hides_yes : (ss : List Silence) → hides ss sought distance ≡ true → Hides ss cell ring_number start distance
  unfolding hides
  hides_yes [] e = absurd (false≢true e)
  hides_yes (s ∷ ss) e = go (covers s sought distance) refl (hides_yes ss) e
    where
      go : (t : Bool) → covers s sought distance ≡ t → (hides ss sought distance ≡ true → Hides ss cell ring_number start distance)
          → (t || hides ss sought distance) ≡ true → Hides (s ∷ ss) cell ring_number start distance
      go true h more e' = hides_head s ss ((covers_iff s sought distance).0 h)
      go false h more e' = hides_tail s ss (more e')

  -- if a silence that covers it stands in the list, the test passes
  hides_of : {s : Silence} {ss : List Silence} → Memᴰ s ss → covers s sought distance ≡ true → hides ss sought distance ≡ true
  unfolding hides
  hides_of (Memᴰ.head {xs = ss} e) c = ap (λ (t : Bool). t || hides ss sought distance) (ap (λ (s : Silence). covers s sought distance) (sym e) ∙ c)
  hides_of (Memᴰ.tail {x = x} m) c = rw (hides_of m c) (or-true (covers x sought distance))

  -- The test `hides` passes exactly when the proposition `Hides` holds.
  pub hides_iff : (ss : List Silence) → (hides ss (address cell ring_number start) distance ≡ true) ↔ Hides ss cell ring_number start distance
  unfolding sought
  hides_iff ss = (
    hides_yes ss,
    λ h. hides_of h.among ((covers_iff h.silenced_by sought distance).1
        ((λ i. record { cell = h.cell_is i; ring_number = h.ring_number_is i; start = h.start_is i }), h.distance_le)),
  )
