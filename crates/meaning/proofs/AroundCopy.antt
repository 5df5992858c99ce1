-- One stored copy gives several findings. A step of one place changes a distance by at most 1, if the rotation moves along with it (`distance_step`): at most
-- one edge that agreed leaves the window, and at most one that differs enters. So s places from a copy with d differing edges, some rotation differs in at most
-- d + s places. Every start within k − d places of the copy, on either side, is found; an exact copy gives at least 2·k + 1 findings away from the line's ends
-- and from marks. Between two marks it stands alone (`alone_between`): every other window so near contains one of them.
use Prim.Native.Nat.{ℕ, zero, suc, ◌+◌, ◌-◌, ◌%◌, ◌≤◌, ◌<◌}
use mathlib.Core.Path.{◌≡◌, sym, ap, ◌∙◌, subst}
use mathlib.Core.Logic.{⊎_elim}
use mathlib.Core.List.{List, Memᴰ}
use native.Mathlib.Nat.{add-zero, mod-lt, mod-add-mod, add-mod_right, mod-eq_of_lt}
use native.Mathlib.Omega.{arith}
use lib.ListN.{length, get_or}
use Rattle.meaning.specs.Meanings.{IsStart, window_edge, mark, unequal, distance}
use Rattle.meaning.specs.Findings.{Finding, findings}
use Rattle.lists.proofs.Cases.{le_or_lt}
use Rattle.meaning.proofs.Count.{one_if_le}
use Rattle.meaning.proofs.Starts.{no_start_over}
use Rattle.meaning.proofs.TallyStep.{distance_step}
use Rattle.meaning.proofs.FoundExactly.{found_iff}

module _ (ring line : List ℕ) (pos : 0 < length ring) where
  abbrev m : ℕ
  m = length ring

  -- Some rotation differs at start i in at most d places.
  abbrev Near : ℕ → ℕ → Type 0
  Near i d = (r : ℕ) × (r < m) × (distance ring line i r ≤ d)

  -- One place on, the next rotation differs in at most one place more.
  near_next : (i d : ℕ) → Near i d → Near (i + 1) (d + 1)
  near_next i d (r, l, le) = (
    (r + 1) % m,
    mod-lt (r + 1) pos,
    omega (arith, distance_step ring line i r l, one_if_le (unequal (window_edge line (i + 1) (m - 1)) (get_or ring r 0)), le),
  )

  -- One place back, the rotation before differs in at most one place more.
  near_before : (i d : ℕ) → Near (i + 1) d → Near i (d + 1)
  near_before i d (r, l, le) =
      let before : ℕ = (r + (m - 1)) % m in
      let below : before < m = mod-lt (r + (m - 1)) pos in
      let whole : r + (m - 1) + 1 ≡ r + m = omega arith in
      let back : (before + 1) % m ≡ r = mod-add-mod (r + (m - 1)) m 1 ∙ ap (λ (p : ℕ). p % m) whole ∙ add-mod_right r m ∙ mod-eq_of_lt l in
      let same : distance ring line (i + 1) ((before + 1) % m) ≡ distance ring line (i + 1) r = ap (distance ring line (i + 1)) back in
      (before, below, omega (arith, distance_step ring line i before below, one_if_le (unequal (window_edge line i 0) (get_or ring before 0)), same, le))

  -- s places on, some rotation differs in at most s places more.
  near_after : (s i d : ℕ) → Near i d → Near (i + s) (d + s)
  near_after zero i d near = subst (λ (j : ℕ). Near j (d + 0)) (sym (add-zero i)) (subst (Near i) (sym (add-zero d)) near)
  near_after (suc s) i d near =
      let on : Near (i + s + 1) (d + s + 1) = near_next (i + s) (d + s) (near_after s i d near) in
      let place : i + s + 1 ≡ i + suc s = omega arith in
      let far : d + s + 1 ≡ d + suc s = omega arith in
      subst (λ (j : ℕ). Near j (d + suc s)) place (subst (Near (i + s + 1)) far on)

  -- s places back, some rotation differs in at most s places more.
  near_ahead : (s i d : ℕ) → Near (i + s) d → Near i (d + s)
  near_ahead zero i d near = subst (λ (j : ℕ). Near j (d + 0)) (add-zero i) (subst (Near (i + 0)) (sym (add-zero d)) near)
  near_ahead (suc s) i d near =
      let place : i + suc s ≡ i + s + 1 = omega arith in
      let far : d + 1 + s ≡ d + suc s = omega arith in
      subst (Near i) far (near_ahead s i (d + 1) (near_before (i + s) d (subst (λ (j : ℕ). Near j d) place near)))

  module _ (i r k s : ℕ) (l : r < m) where
    -- A start s places after a place where rotation r differs in d places is found, if d + s is at most k.
    pub found_after : distance ring line i r + s ≤ k → IsStart ring line (i + s) → (f : Finding) × (f.start ≡ i + s) × Memᴰ f (findings ring line k)
    found_after le start =
        let near : Near (i + s) (distance ring line i r + s) = near_after s i (distance ring line i r) (r, l, omega arith) in
        (found_iff ring line k pos (i + s)).1 (start, (near.0, near.1, omega (arith, near.2, le)))

    -- A start s places before a place where rotation r differs in d places is found, if d + s is at most k.
    pub found_before_lem : distance ring line (i + s) r + s ≤ k → IsStart ring line i → (f : Finding) × (f.start ≡ i) × Memᴰ f (findings ring line k)
    found_before_lem le start =
        let near : Near i (distance ring line (i + s) r + s) = near_ahead s i (distance ring line (i + s) r) (r, l, omega arith) in
        (found_iff ring line k pos i).1 (start, (near.0, near.1, omega (arith, near.2, le)))

  -- If the line has marks at p and at p + m + 1, the only start within m places of p + 1 is p + 1 itself.
  pub alone_between : (p : ℕ) → get_or line p 0 ≡ mark → get_or line (p + m + 1) 0 ≡ mark
      → (i : ℕ) → p < i + m → i ≤ p + m + 1 → IsStart ring line i → i ≡ p + 1
  alone_between p first second i lo hi start =
      ⊎_elim
      (λ before. absurd (no_start_over ring line i p first before lo start))
      (λ after. ⊎_elim
      (λ le. omega arith)
      (λ behind. absurd (no_start_over ring line i (p + m + 1) second hi (omega arith) start))
      (le_or_lt i (p + 1)))
      (le_or_lt i p)
