-- The findings are listed by strictly rising start, so each start has at most one. A list that rises from lo to mid and a list that rises from mid to hi,
-- joined, rise from lo to hi; and each place adds at most its own start.
use Prim.Native.Nat.{ℕ, zero, suc, ◌≤◌, ◌<◌}
use mathlib.Core.Path.{◌≡◌, refl, ap, ◌∙◌, sym}
use mathlib.Core.Bool.{◌&&◌}
use mathlib.Core.Logic.{⊎_elim}
use mathlib.Core.List.Memᴰ
use mathlib.Core.List.{List, [], ◌∷◌, ◌++◌, Memᴰ}
use native.Mathlib.Omega.{arith}
use lib.Dec.{leb}
use lib.ListN.{length}
use Rattle.meaning.specs.Meanings.{is_start, least_distance}
use Rattle.meaning.specs.Findings.{Rising, Finding, found_at, findings_below, findings}
use Rattle.lists.proofs.Cases.{by_test}

-- A list that rises from lo' on rises from every lower number on.
rising_lower : (lo lo' hi : ℕ) (l : List Finding) → lo ≤ lo' → Rising lo' hi l → Rising lo hi l
rising_lower lo lo' hi [] h r = omega arith
rising_lower lo lo' hi (f ∷ fs) h r = (omega arith, r.1)

-- A list that rises to mid, joined with one that rises from mid on, rises.
rising_join : (lo mid hi : ℕ) (a b : List Finding) → Rising lo mid a → Rising mid hi b → Rising lo hi (a ++ b)
rising_join lo mid hi [] b ra rb = rising_lower lo mid hi b ra rb
rising_join lo mid hi (f ∷ a) b ra rb = (ra.0, rising_join (suc f.start) mid hi a b ra.1 rb)

module _ (ring line : List ℕ) (k : ℕ) where
  -- A place adds at most its own start.
  at_rising : (i : ℕ) → Rising i (suc i) (found_at ring line k i)
  unfolding found_at
  at_rising i =
      by_test (Rising i (suc i)) (is_start ring line i && leb (least_distance ring line i) k) (λ _. (omega arith, omega arith)) (λ _. omega arith)

  -- The starts of the findings below place i rise strictly, and all are below i.
  pub below_rising : (i : ℕ) → Rising 0 i (findings_below ring line k i)
  unfolding findings_below
  below_rising zero = omega arith
  below_rising (suc i) = rising_join 0 i (suc i) (findings_below ring line k i) (found_at ring line k i) (below_rising i) (at_rising i)

  -- The starts of the findings rise strictly, and all are below n.
  pub findings_rising : Rising 0 (length line) (findings ring line k)
  findings_rising = below_rising (length line)

-- In a list that rises from lo on, no start is below lo.
pub rising_from : (lo hi : ℕ) (l : List Finding) → Rising lo hi l → (f : Finding) → Memᴰ f l → lo ≤ f.start
rising_from lo hi [] r f h = absurd (Memᴰ.not-nil h)
rising_from lo hi (g ∷ l) r f h =
    ⊎_elim
    (λ e. omega (arith, r.0, ap (λ (x : Finding). x.start) e))
    (λ m. omega (arith, r.0, rising_from (suc g.start) hi l r.1 f m))
    (Memᴰ.cases_cons h)

-- A list that rises, and whose starts are all below hi', rises to hi'.
pub rising_below : (lo hi hi' : ℕ) (l : List Finding) → Rising lo hi l → lo ≤ hi' → ((f : Finding) → Memᴰ f l → f.start < hi') → Rising lo hi' l
rising_below lo hi hi' [] r le below = le
rising_below lo hi hi' (g ∷ l) r le below = (
  r.0,
  rising_below (suc g.start) hi hi' l r.1 (omega (arith, below g (Memᴰ.head refl))) (λ f m. below f (Memᴰ.tail m)),
)

-- Each start has at most one finding in a list that rises.
rising_unique : (lo hi : ℕ) (l : List Finding) → Rising lo hi l
    → (f g : Finding) → Memᴰ f l → Memᴰ g l → f.start ≡ g.start → f ≡ g
rising_unique lo hi [] r f g hf hg e = absurd (Memᴰ.not-nil hf)
rising_unique lo hi (x ∷ l) r f g hf hg e =
    ⊎_elim
    (λ ef. ⊎_elim
    (λ eg. ef ∙ sym eg)
    (λ mg. absurd (omega (arith, rising_from (suc x.start) hi l r.1 g mg, ap (λ (y : Finding). y.start) ef)))
    (Memᴰ.cases_cons hg))
    (λ mf. ⊎_elim
    (λ eg. absurd (omega (arith, rising_from (suc x.start) hi l r.1 f mf, ap (λ (y : Finding). y.start) eg)))
    (λ mg. rising_unique (suc x.start) hi l r.1 f g mf mg e)
    (Memᴰ.cases_cons hg))
    (Memᴰ.cases_cons hf)

-- Each start has at most one finding: two findings of the list with the same start are equal.
pub findings_unique : (ring line : List ℕ) (k : ℕ) (f g : Finding) → Memᴰ f (findings ring line k) → Memᴰ g (findings ring line k)
    → f.start ≡ g.start → f ≡ g
findings_unique ring line k f g hf hg e = rising_unique 0 (length line) (findings ring line k) (findings_rising ring line k) f g hf hg e
