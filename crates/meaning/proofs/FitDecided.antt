-- The test `fits ring s` is true exactly when `Fits ring s` holds. `begins` and its meaning `Begins` agree by induction on the stretch, edge by edge. The
-- rotation that the test finds is the rotation that the meaning requires.
use Prim.Native.Nat.{ℕ, zero, suc, ◌%◌, ◌≤◌, ◌<◌}
use mathlib.Core.Path.{◌≡◌, refl, sym, ap, ap₂, ◌∙◌}
use mathlib.Core.Bool.{Bool, true, false, ◌&&◌}
use mathlib.Core.Logic.{◌↔◌}
use mathlib.Core.List.{List, [], ◌∷◌}
use native.Mathlib.Nat.{add-zero, suc-mod, mod-mod, mod-lt}
use native.Mathlib.Omega.{arith}
use lib.Dec.{eqb, leb}
use lib.ListN.{length, get_or}
use borrow.Author.Tests.{eqb-true, eq-eqb, leb-true, le-leb}
use Rattle.meaning.specs.Meanings.{rotation_edge}
use Rattle.meaning.specs.Stretch.{Fits, begins, fits}
use Rattle.lists.proofs.Cases.{and_true, and_yes}
use Rattle.meaning.proofs.Some.{some_yes, some_by, some_no}

-- The stretch is the beginning of rotation r: at each of its places q it has the rotation's edge at q.
pub Begins : List ℕ → ℕ → List ℕ → Type 0
Begins ring r s = (q : ℕ) → q < length s → get_or s q 0 ≡ rotation_edge ring r q

-- Equal numbers give the same ring edge.
edge_at : (ring : List ℕ) {a b : ℕ} → a ≡ b → get_or ring (a % length ring) 0 ≡ get_or ring (b % length ring) 0
edge_at ring e = ap (λ (n : ℕ). get_or ring (n % length ring) 0) e

-- If the test `begins` is true, the stretch is the beginning of rotation r.
begins_yes : (ring : List ℕ) (r : ℕ) (s : List ℕ) → begins ring r s ≡ true → Begins ring r s
unfolding begins Begins
begins_yes ring r [] e q l = absurd (omega arith)
begins_yes ring r (x ∷ s) e zero l =
    eqb-true x _ (and_true _ (begins ring (suc r) s) e).0 ∙ edge_at ring (sym (add-zero r))
begins_yes ring r (x ∷ s) e (suc q) l =
    begins_yes ring (suc r) s (and_true (eqb x (get_or ring (r % length ring) 0)) (begins ring (suc r) s) e).1 q (omega arith)
    ∙ edge_at ring (omega arith)

-- If the stretch is the beginning of rotation r, the test `begins` is true.
begins_by : (ring : List ℕ) (r : ℕ) (s : List ℕ) → Begins ring r s → begins ring r s ≡ true
unfolding begins Begins
begins_by ring r [] h = refl
begins_by ring r (x ∷ s) h =
    rw (eq-eqb x _ (h 0 (omega arith) ∙ edge_at ring (add-zero r)))
    (begins_by ring (suc r) s (λ q l. h (suc q) (omega arith) ∙ edge_at ring (omega arith)))

-- The test `begins` is true exactly when the stretch is the beginning of rotation r.
pub begins_iff : (ring : List ℕ) (r : ℕ) (s : List ℕ) → (begins ring r s ≡ true) ↔ Begins ring r s
begins_iff ring r s = (begins_yes ring r s, begins_by ring r s)

-- The test `fits` is true exactly when the stretch fits the ring.
pub fits_iff : (ring s : List ℕ) → (fits ring s ≡ true) ↔ Fits ring s
unfolding fits Begins
fits_iff ring s = (
  λ e.
      let both = and_true (leb (length s) (length ring)) _ e in
      let found = some_yes (λ r. begins ring r s) (length ring) both.1 in
      record {
        at_most_m = leb-true (length s) (length ring) both.0;
        rotation = found.0;
        is_rotation = found.1;
        begins_it = begins_yes ring found.0 s found.2;
      },
  λ h.
      and_yes _ _ (le-leb (length s) (length ring) h.at_most_m)
      ∙ some_by (λ r. begins ring r s) (length ring) h.rotation h.is_rotation (begins_by ring h.rotation s h.begins_it),
)

-- Two rotations whose numbers are equal mod m begin with the same stretches.
pub begins_mod : (ring s : List ℕ) (r r' : ℕ) → r % length ring ≡ r' % length ring → begins ring r s ≡ begins ring r' s
unfolding begins
begins_mod ring [] r r' e = refl
begins_mod ring (x ∷ s) r r' e =
    ap₂ (λ (n : ℕ) (b : Bool). eqb x (get_or ring n 0) && b) e
    (begins_mod ring s (suc r) (suc r') (suc-mod r _ ∙ ap (λ (n : ℕ). suc n % length ring) e ∙ sym (suc-mod r' _)))

-- A stretch of at most m edges that does not fit is the beginning of no rotation r, also for r ≥ m.
pub fits_no : (ring s : List ℕ) → 0 < length ring → length s ≤ length ring → fits ring s ≡ false → (r : ℕ) → begins ring r s ≡ false
unfolding fits
fits_no ring s pos short e r =
    begins_mod ring s r (r % length ring) (sym (mod-mod r (length ring)))
    ∙ some_no (λ x. begins ring x s) (length ring) (sym (and_yes _ _ (le-leb (length s) (length ring) short)) ∙ e)
    (r % length ring) (mod-lt r pos)
