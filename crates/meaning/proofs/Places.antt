-- What the meanings give at one place: its distances, its lowest rotation, and `found_at` in each case.
use Prim.Native.Nat.{ℕ, ◌≤◌, ◌<◌}
use mathlib.Core.Path.{◌≡◌, refl, ap}
use mathlib.Core.Bool.{Bool, true, false, cond, ◌&&◌}
use mathlib.Core.List.Memᴰ
use mathlib.Core.List.{List, [], ◌∷◌, Memᴰ}
use lib.Dec.{leb}
use lib.ListN.{length}
use borrow.Author.Tests.{leb-true, le-leb, lt-leb}
use Rattle.meaning.specs.Meanings.{IsStart, is_start, differs, distance, lowest_rotation, least_distance}
use Rattle.meaning.specs.Findings.{Finding, finding_at, found_at}
use Rattle.lists.proofs.Cases.{by_test, and_true}
use Rattle.meaning.proofs.Count.{count_le}
use Rattle.meaning.proofs.Lowest.{IsLowest, lowest_is}
use Rattle.meaning.proofs.Starts.{start_iff}

-- A distance is at most m.
pub distance_le : (ring line : List ℕ) (i r : ℕ) → distance ring line i r ≤ length ring
unfolding distance
distance_le ring line i r = count_le (differs ring line i r) 0 (length ring)

-- `lowest_rotation` is the lowest rotation at which the distance is least, for a ring that is not empty.
pub lowest_rotation_is : (ring line : List ℕ) → 0 < length ring → (i : ℕ)
    → IsLowest (distance ring line i) (length ring) (lowest_rotation ring line i)
unfolding lowest_rotation
lowest_rotation_is ring line pos i = lowest_is (distance ring line i) (length ring) pos

module _ (ring line : List ℕ) (k i : ℕ) where
  -- At a start whose least distance is at most k, `found_at` gives the finding of that start.
  pub found_yes : IsStart ring line i → least_distance ring line i ≤ k → found_at ring line k i ≡ finding_at ring line i ∷ []
  unfolding found_at
  found_yes s h = rw ((start_iff ring line i).1 s, le-leb (least_distance ring line i) k h)

  -- At a place that is not a start, `found_at` gives nothing.
  pub found_no_start : is_start ring line i ≡ false → found_at ring line k i ≡ []
  unfolding found_at
  found_no_start no_start = rw no_start

  -- At a place whose least distance is above k, `found_at` gives nothing.
  pub found_no : k < least_distance ring line i → found_at ring line k i ≡ []
  unfolding found_at
  found_no h = rw (lt-leb (least_distance ring line i) k h) (neither (is_start ring line i))
    where
      neither : (t : Bool) → ◌≡◌ {A = List Finding} (cond (t && false) (finding_at ring line i ∷ []) []) []
      neither true = refl
      neither false = refl

  -- What `found_at` gives is the finding of that place; the place is then a start, and its least distance at most k.
  pub found_mem : (f : Finding) → Memᴰ f (found_at ring line k i)
      → (f ≡ finding_at ring line i) × IsStart ring line i × (least_distance ring line i ≤ k)
  unfolding found_at
  found_mem f =
      by_test (λ (l : List Finding). Memᴰ f l → (f ≡ finding_at ring line i) × IsStart ring line i × (least_distance ring line i ≤ k))
      (is_start ring line i && leb (least_distance ring line i) k)
      (λ e h.
      let both = and_true (is_start ring line i) (leb (least_distance ring line i) k) e in
      (Memᴰ.eq_of_singleton h, (start_iff ring line i).0 both.0, leb-true _ _ both.1))
      (λ _ h. absurd (Memᴰ.not-nil h))

  -- If `found_at` gives the finding f, f starts at i.
  pub found_start : (f : Finding) → found_at ring line k i ≡ f ∷ [] → f.start ≡ i
  found_start f e = ap (λ (g : Finding). g.start) (found_mem f (rw e (Memᴰ.head refl))).0
