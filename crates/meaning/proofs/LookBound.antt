-- The quick scan's looks are at most 3·m·n − 2·m·m + m for n ≥ m, and so at most 3·m·n; for n < m they are 0. Reading costs at most m looks for each of the
-- n − m + 1 places where a window fits in the line. Verifying costs m·m looks for the first candidate, and from then on at most 2·m for each place beyond it, because a fresh count is never
-- dearer than the steps it replaces (`tally_looks_le`). The sum of (n − m + 1)·m, m·m and (n − m)·2·m is the bound.
use Prim.Native.Nat.{ℕ, suc, ◌+◌, ◌-◌, ◌*◌, ◌≤◌, ◌<◌}
use mathlib.Core.Path.{◌≡◌, sym, ap, subst}
use mathlib.Core.Logic.{⊎_elim}
use mathlib.Core.List.{List, ◌∷◌}
use Rattle.std.specs.Prelude.{None, Some}
use native.Mathlib.Nat.{mul-le-mul_left, mul-le-mul_right}
use native.Mathlib.Omega.{arith}
use lib.Dec.{ltb}
use lib.ListN.{length}
use borrow.Author.Tests.{ltb-true}
use Rattle.meaning.specs.Rules.{Reading, read_window, is_candidate, candidates_of}
use Rattle.meaning.specs.Looks.{read_looks, step_looks, tally_looks, verify_looks, quick_looks}
use Rattle.lists.proofs.Cases.{by_test, le_or_lt}
use Rattle.meaning.proofs.WindowRead.{window_read}
use Rattle.meaning.proofs.WindowSteps.{next_after, next_above, windows_at, windows_start, windows_end, windows_induct}

-- Verifying a start s beyond the last verified one never costs more than s steps.
pub tally_looks_le : (m last s : ℕ) → tally_looks m (Some last) (last + s) ≤ s * step_looks m
unfolding tally_looks
tally_looks_le m last s =
    let e : last + s - last ≡ s = omega arith in
    rw e
    (by_test (λ (looks : ℕ). looks ≤ s * (2 * m)) (ltb m (2 * s))
    (λ far. let a : m ≤ 2 * s = omega (arith, ltb-true m (2 * s) far) in omega (arith, mul-le-mul_right m a))
    (λ _. omega arith))

module _ (ring line : List ℕ) (k : ℕ) where
  abbrev m : ℕ
  m = length ring

  -- Reading these windows costs at most g·m looks, if every window in the line from i on begins at one of the g places from i on.
  abbrev ReadsAtMost : ℕ → List Reading → Type 0
  ReadsAtMost i ws = (g : ℕ) → length line + 1 ≤ i + g + m → read_looks ws ≤ g * m

  -- There is at most one window for each place, and each costs at most m looks.
  reads_le : (i : ℕ) → ReadsAtMost i (windows_at ring line k i)
  unfolding read_looks
  reads_le =
      windows_induct ring line k ReadsAtMost
      (λ i _ g _. omega arith)
      (λ i in_line rest g h.
      one_window (read_window ring line k i).read _ g (omega arith) (window_read ring line k i).read_le
      (rest (g - 1) (omega (arith, next_above ring line k i))))
    where
      one_window : (a b g : ℕ) → 0 < g → a ≤ m → b ≤ (g - 1) * m → a + b ≤ g * m
      one_window a b g left ha hb = let q : g ≡ suc (g - 1) = omega arith in omega (arith, ap (λ (x : ℕ). x * m) q)

  -- Verifying the candidates among these windows, after the verified start `last`, costs at most g steps, if no window in the line begins more than g places beyond `last`.
  abbrev StepsAtMost : ℕ → List Reading → Type 0
  StepsAtMost i ws = (last g : ℕ) → last < i → length line ≤ last + g + m → verify_looks m (Some last) (candidates_of ring k ws) ≤ g * step_looks m

  -- Verifying i costs at most s steps, s = i − last; with a rest of at most g − s steps this is at most g steps.
  steps_add : (last i g rest : ℕ) → last < i → i ≤ last + g → rest ≤ (g - (i - last)) * step_looks m
      → tally_looks m (Some last) i + rest ≤ g * step_looks m
  steps_add last i g rest l h r =
      let s : ℕ = i - last in
      let at : last + s ≡ i = omega arith in
      let all : s + (g - s) ≡ g = omega arith in
      omega (arith, tally_looks_le m last s, ap (tally_looks m (Some last)) at, ap (λ (x : ℕ). x * step_looks m) all)

  -- The candidates after the window at i.
  abbrev later : ℕ → List ℕ
  later i = candidates_of ring k (windows_at ring line k (next_after ring line k i))

  -- The start that a window's reading carries is the place where it was read.
  start_at : (i : ℕ) (P : ℕ → Type 0) → P i → P (read_window ring line k i).start
  start_at i P h = subst P (sym (window_read ring line k i).start_is) h

  -- Each candidate costs at most the steps from the one verified before it.
  steps_le : (i : ℕ) → StepsAtMost i (windows_at ring line k i)
  unfolding verify_looks candidates_of
  steps_le =
      windows_induct ring line k StepsAtMost
      (λ i _ last g _ _. omega arith)
      (λ i in_line rest last g l h.
      by_test (λ (starts : List ℕ). verify_looks m (Some last) starts ≤ g * step_looks m) (is_candidate ring k (read_window ring line k i))
      (λ _. start_at i (λ j. verify_looks m (Some last) (j ∷ later i) ≤ g * step_looks m)
      (steps_add last i g _ l (omega arith) (rest i (g - (i - last)) (next_above ring line k i) (omega arith))))
      (λ _. rest last g (omega (arith, next_above ring line k i)) h))

  -- Verifying with no start verified before costs at most one fresh count, and g steps, if no window in the line begins more than g places beyond i.
  abbrev FirstAtMost : ℕ → List Reading → Type 0
  FirstAtMost i ws = (g : ℕ) → length line ≤ i + g + m → verify_looks m None (candidates_of ring k ws) ≤ m * m + g * step_looks m

  -- The first candidate is counted afresh, the others as after a verified start.
  first_le : (i : ℕ) → FirstAtMost i (windows_at ring line k i)
  unfolding verify_looks candidates_of tally_looks
  first_le =
      windows_induct ring line k FirstAtMost
      (λ i _ g _. omega arith)
      (λ i in_line rest g h.
      by_test (λ (starts : List ℕ). verify_looks m None starts ≤ m * m + g * step_looks m) (is_candidate ring k (read_window ring line k i))
      (λ _. start_at i (λ j. verify_looks m None (j ∷ later i) ≤ m * m + g * step_looks m)
      (omega (arith, steps_le (next_after ring line k i) i g (next_above ring line k i) h)))
      (λ _. rest g (omega (arith, next_above ring line k i))))

  -- The looks of the quick scan: "For n ≥ m they are never above 3·m·n − 2·m·m + m".
  pub quick_looks_le : m ≤ length line → quick_looks ring line k ≤ 3 * m * length line - 2 * m * m + m
  quick_looks_le h =
      let g : ℕ = length line - m in
      let n : length line ≡ m + g = omega arith in
      rw windows_start
      (omega (
        arith,
        reads_le 0 (suc g) (omega arith),
        first_le 0 g (omega arith),
        ap (λ (x : ℕ). m * x) n,
      ))

  -- For n ≥ m the look bound, 3·m·n − 2·m·m + m, is "at most 3·m·n".
  pub look_bound_le : 0 < m → m ≤ length line → 3 * m * length line - 2 * m * m + m ≤ 3 * m * length line
  look_bound_le pos h = omega (arith, mul-le-mul_left m pos, mul-le-mul_left m h)

  -- On a line shorter than the ring the quick scan takes "no look".
  pub quick_looks_short : length line < m → quick_looks ring line k ≡ 0
  unfolding read_looks verify_looks candidates_of
  quick_looks_short h = rw (windows_start, windows_end ring line k 0 (omega arith))

  -- On every line the quick scan takes at most 3·m·n looks, for a ring that is not empty.
  pub quick_looks_most : 0 < m → quick_looks ring line k ≤ 3 * m * length line
  quick_looks_most pos =
      ⊎_elim
      (λ h. omega (arith, quick_looks_le h, look_bound_le pos h))
      (λ h. omega (arith, quick_looks_short h))
      (le_or_lt m (length line))
