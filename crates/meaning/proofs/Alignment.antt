-- An alignment c compares each line place p with the ring place (c + p) mod m. Start i under rotation r is the alignment c = r + i·(m − 1), because then
-- c + i = r + i·m, which is r mod m. So what holds in every alignment holds at every start under every rotation, and no ring place is computed by subtracting
-- a line place.
use Prim.Native.Nat.{ℕ, suc, pred, ◌+◌, ◌*◌, ◌%◌, ◌≤◌, ◌<◌}
use mathlib.Core.Path.{◌≡◌, sym, ap, ◌∙◌}
use mathlib.Core.Bool.{Bool, true, false, not, ◌&&◌, true≢false}
use mathlib.Core.List.{List, [], ◌∷◌}
use native.Mathlib.Nat.{add-zero, add-suc, add-mul-mod_self_right}
use native.Mathlib.Omega.{arith}
use lib.Dec.{eqb}
use lib.ListN.{length, get_or}
use Rattle.meaning.specs.Counting.{one_if, count}
use Rattle.meaning.specs.Meanings.{differs, distance}
use Rattle.meaning.specs.Stretch.{begins}
use Rattle.meaning.proofs.Count.{count_shift}

module _ (ring line : List ℕ) where
  -- In the alignment c, the line's edge at place p differs from the ring's edge that it is compared with.
  unfoldable pub unlike : ℕ → ℕ → Bool
  unlike c p = not (eqb (get_or line p 0) (get_or ring ((c + p) % length ring) 0))

  -- The distance of start i under rotation r is the number of unlike places in their alignment, among the m places from i on.
  pub distance_aligned : 0 < length ring → (i r : ℕ) → distance ring line i r ≡ count (unlike (r + i * pred (length ring))) i (length ring)
  unfolding distance differs unlike
  distance_aligned pos i r =
      let m : ℕ = length ring in
      let c : ℕ = r + i * pred m in
      let whole : m ≡ suc (pred m) = omega arith in
      let at : (x : ℕ) → c + (i + x) ≡ r + x + i * m = λ x. omega (arith, ap (λ (n : ℕ). i * n) whole) in
      let same : (x : ℕ) → (r + x) % m ≡ (c + (i + x)) % m = λ x. sym (ap (λ (n : ℕ). n % m) (at x) ∙ add-mul-mod_self_right (r + x) i m) in
      count_shift (differs ring line i r) (unlike c) i (λ x. ap (λ (n : ℕ). not (eqb (get_or line (i + x) 0) (get_or ring n 0))) (same x)) 0 m
      ∙ ap (λ (n : ℕ). count (unlike c) n m) (add-zero i)

  -- The stretch is the line's edges from place a on.
  abbrev pub FromLine : ℕ → List ℕ → Type 0
  FromLine a [] = Unit {0}
  FromLine a (x ∷ s) = (x ≡ get_or line a 0) × FromLine (suc a) s

  -- If a stretch of the line from place a on is not the beginning of rotation c + a, it has an unlike place in the alignment c.
  pub unlike_in_stretch : (c a : ℕ) (s : List ℕ) → FromLine a s → begins ring (c + a) s ≡ false → 1 ≤ count (unlike c) a (length s)
  unfolding begins count unlike
  unlike_in_stretch c a [] h e = absurd (true≢false e)
  unlike_in_stretch c a (x ∷ s) h e =
      go (eqb (get_or line a 0) (get_or ring ((c + a) % length ring) 0)) (begins ring (suc (c + a)) s) (count (unlike c) (suc a) (length s)) (rw h.0 at e)
      (λ q. unlike_in_stretch c (suc a) s h.1 (ap (λ (n : ℕ). begins ring n s) (add-suc c a) ∙ q))
    where
      go : (t b : Bool) (rest : ℕ) → (t && b) ≡ false → (b ≡ false → 1 ≤ rest) → 1 ≤ one_if (not t) + rest
      go true b rest q ih = omega (arith, ih q)
      go false b rest q ih = omega arith
