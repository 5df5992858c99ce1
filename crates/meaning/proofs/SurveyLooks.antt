-- The plain survey's looks: 2·m·n − m·m for n ≥ m, else 0. The windows at places 0 to s cost m·m + s·2·m; the places past the last window cost nothing. For
-- n ≥ m the last window is at s = n − m.
use Prim.Native.Nat.{ℕ, zero, suc, ◌+◌, ◌-◌, ◌*◌, ◌≤◌, ◌<◌}
use mathlib.Core.Path.{◌≡◌, refl, sym, ap, ◌∙◌}
use mathlib.Core.Bool.{cond}
use mathlib.Core.List.{List}
use native.Mathlib.Nat.{add-zero, add-suc}
use native.Mathlib.Omega.{arith}
use lib.Dec.{eqb}
use lib.ListN.{length}
use borrow.Author.Tests.{ne_eqb}
use Rattle.meaning.specs.Meanings.{FitsInLine, IsPastLine, fits_in_line}
use Rattle.meaning.specs.Looks.{afresh_looks, step_looks, survey_looks_below, survey_looks}
use Rattle.meaning.proofs.Starts.{fits_line_iff, past_line_iff}

module _ (ring line : List ℕ) where
  abbrev m : ℕ
  m = length ring

  -- Place i adds its cost if a window fits there, else nothing.
  one_place : (i : ℕ) → survey_looks_below ring line (suc i)
      ≡ survey_looks_below ring line i + cond (fits_in_line ring line i) (cond (eqb i 0) (afresh_looks m) (step_looks m)) 0
  unfolding survey_looks_below
  one_place i = refl

  -- The plain survey counts the first window afresh: m·m looks.
  pub survey_looks_first : FitsInLine ring line 0 → survey_looks_below ring line 1 ≡ afresh_looks m
  unfolding survey_looks_below
  survey_looks_first h = rw ((fits_line_iff ring line 0).1 h) (omega arith)

  -- Each next window costs one step: 2·m looks.
  survey_looks_step : (i : ℕ) → FitsInLine ring line (suc i) → survey_looks_below ring line (suc (suc i)) ≡ survey_looks_below ring line (suc i) + step_looks m
  survey_looks_step i h = one_place (suc i) ∙ rw ((fits_line_iff ring line (suc i)).1 h, ne_eqb (suc i) 0 (λ z. omega arith))

  -- Places past the last window add nothing.
  below_past : (i d : ℕ) → IsPastLine ring line i → survey_looks_below ring line (i + d) ≡ survey_looks_below ring line i
  below_past i zero h = rw add-zero
  below_past i (suc d) h =
      ap (survey_looks_below ring line) (add-suc i d) ∙ one_place (i + d)
      ∙ rw ((past_line_iff ring line (i + d)).1 (omega arith)) (add-zero _) ∙ below_past i d h

  -- The windows at places 0 to s cost the plain survey m·m + s·2·m looks.
  pub survey_looks_below_lem : (s : ℕ) → FitsInLine ring line s → survey_looks_below ring line (suc s) ≡ afresh_looks m + s * step_looks m
  survey_looks_below_lem zero h = survey_looks_first (omega arith) ∙ omega arith
  survey_looks_below_lem (suc s) h = survey_looks_step s h ∙ omega (arith, survey_looks_below_lem s (omega arith))

  -- If i ≤ n and a window at i would reach past the line's end, all looks of the plain survey are those for the places below i.
  pub survey_looks_end : (i : ℕ) → i ≤ length line → IsPastLine ring line i → survey_looks ring line ≡ survey_looks_below ring line i
  survey_looks_end i in_line past =
      let all : i + (length line - i) ≡ length line = omega arith in
      sym (ap (survey_looks_below ring line) all) ∙ below_past i (length line - i) past

  -- The plain survey takes "2·m·n − m·m looks for n ≥ m", for a ring that is not empty.
  pub survey_looks_is : 0 < m → m ≤ length line → survey_looks ring line ≡ 2 * m * length line - m * m
  survey_looks_is pos h =
      let s : ℕ = length line - m in
      let n : length line ≡ m + s = omega arith in
      survey_looks_end (suc s) (omega arith) (omega arith) ∙ survey_looks_below_lem s (omega arith) ∙ omega (arith, ap (λ (x : ℕ). m * x) n)

  -- For n < m the plain survey takes no look: "else 0".
  pub survey_looks_short : length line < m → survey_looks ring line ≡ 0
  unfolding survey_looks_below
  survey_looks_short h = survey_looks_end 0 (omega arith) (omega arith)
