-- The windows from place i on, without the number that bounds the recursion of `windows_from`: every number above n − i gives the same list
-- (`windows_from_enough`). So a window that fits in the line is read and followed by the windows from the next start on (`windows_step`), and where no window
-- fits none is read (`windows_end`).
use Prim.Native.Nat.{ℕ, zero, suc, ◌+◌, ◌<◌}
use mathlib.Core.Path.{◌≡◌, refl, sym, ap, ◌∙◌, subst}
use mathlib.Core.Bool.{cond}
use mathlib.Core.Logic.{⊎_elim}
use mathlib.Core.List.{List, [], ◌∷◌}
use native.Mathlib.Numerals.{add-one}
use native.Mathlib.Omega.{arith}
use lib.ListN.{length}
use Rattle.meaning.specs.Meanings.{FitsInLine, IsPastLine, fits_in_line}
use Rattle.meaning.specs.Rules.{Reading, read_window, next_start, windows_from, windows}
use Rattle.meaning.proofs.Starts.{fits_line_iff, past_line_iff, fits_or_past}
use Rattle.meaning.proofs.WindowRead.{window_read}

module _ (ring line : List ℕ) (k : ℕ) where
  -- Where the window after the one at i starts.
  abbrev pub next_after : ℕ → ℕ
  next_after i = next_start ring (read_window ring line k i)

  -- Each window starts after the one before.
  pub next_above : (i : ℕ) → i < next_after i
  next_above i = omega (arith, (window_read ring line k i).start_is)

  -- Two numbers above n − i give the same windows.
  windows_from_enough : (f g i : ℕ) → length line < i + f → length line < i + g → windows_from ring line k f i ≡ windows_from ring line k g i
  unfolding windows_from
  windows_from_enough zero zero i hf hg = refl
  windows_from_enough zero (suc g) i hf hg = rw ((past_line_iff ring line i).1 (omega arith))
  windows_from_enough (suc f) zero i hf hg = rw ((past_line_iff ring line i).1 (omega arith))
  windows_from_enough (suc f) (suc g) i hf hg =
      ap (λ (ws : List Reading). cond (fits_in_line ring line i) (read_window ring line k i ∷ ws) [])
      (windows_from_enough f g (next_after i) (omega (arith, next_above i)) (omega (arith, next_above i)))

  -- The windows read from place i on.
  pub windows_at : ℕ → List Reading
  windows_at i = windows_from ring line k (length line + 1) i

  -- "The first window starts at 0": the windows of a line are those from place 0 on.
  pub windows_start : windows ring line k ≡ windows_at 0
  unfolding windows_at
  windows_start = refl

  -- A window that fits in the line is read, and followed by the windows from the next start on.
  pub windows_step : (i : ℕ) → FitsInLine ring line i → windows_at i ≡ read_window ring line k i ∷ windows_at (next_after i)
  unfolding windows_at windows_from
  windows_step i h =
      ap (λ (f : ℕ). windows_from ring line k f i) (add-one (length line))
      ∙ rw ((fits_line_iff ring line i).1 h)
      (ap (λ (ws : List Reading). read_window ring line k i ∷ ws)
      (windows_from_enough (length line) (length line + 1) _ (omega (arith, next_above i)) (omega (arith, next_above i))))

  -- Where no window fits in the line, none is read.
  pub windows_end : (i : ℕ) → IsPastLine ring line i → windows_at i ≡ []
  unfolding windows_at windows_from
  windows_end i h = ap (λ (f : ℕ). windows_from ring line k f i) (add-one (length line)) ∙ rw ((past_line_iff ring line i).1 h)

  -- Induction over the windows. P holds for the windows from every place on if it holds where no window fits in the line, and if, at a window in the line, it
  -- holds whenever it holds for the windows from the next start on.
  pub windows_induct : (P : ℕ → List Reading → Type 0)
      → ((i : ℕ) → IsPastLine ring line i → P i [])
      → ((i : ℕ) → FitsInLine ring line i → P (next_after i) (windows_at (next_after i)) → P i (read_window ring line k i ∷ windows_at (next_after i)))
      → (i : ℕ) → P i (windows_at i)
  windows_induct P over step i = go (suc (length line)) i (omega arith)
    where
      past : (i : ℕ) → IsPastLine ring line i → P i (windows_at i)
      past i o = subst (P i) (sym (windows_end i o)) (over i o)

      go : (f i : ℕ) → length line < i + f → P i (windows_at i)
      go zero i h = past i (omega arith)
      go (suc f) i h =
          ⊎_elim
          (λ in_line. subst (P i) (sym (windows_step i in_line)) (step i in_line (go f _ (omega (arith, next_above i)))))
          (past i)
          (fits_or_past ring line i)
