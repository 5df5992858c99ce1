-- The test `fits_in_line` decides whether a window fits in the line, and `is_start` whether a place is a start: a window in the line is at a start exactly when it
-- holds no mark.
use Prim.Native.Nat.{ℕ, ◌+◌, ◌-◌, ◌≤◌, ◌<◌}
use mathlib.Core.Path.{◌≡◌, sym, ap, ◌∙◌}
use mathlib.Core.Bool.{true, false}
use mathlib.Core.Logic.Iff
use mathlib.Core.Logic.{◌↔◌, ◌⊎◌, inl, inr, ⊎_elim}
use mathlib.Core.List.{List}
use native.Mathlib.Omega.{arith}
use lib.ListN.{length, get_or}
use borrow.Author.Tests.{leb-true, leb-false, le-leb, lt-leb}
use Rattle.lists.proofs.Cases.{le_or_lt}
use Rattle.lists.proofs.SizesTested.{and_iff, not_iff, test_fails}
use Rattle.meaning.specs.Meanings.{FitsInLine, IsPastLine, fits_in_line, window, window_edge, mark, is_mark, IsStart, is_start}
use Rattle.meaning.proofs.Marks.{holds_iff}
use Rattle.meaning.proofs.Windows.{window_holds, window_holds_none}

module _ (ring line : List ℕ) (i : ℕ) where
  -- The test `fits_in_line` passes exactly when a window fits in the line at i.
  pub fits_line_iff : (fits_in_line ring line i ≡ true) ↔ FitsInLine ring line i
  fits_line_iff = (
    λ e. record { in_line = leb-true (i + length ring) (length line) e },
    λ h. le-leb (i + length ring) (length line) h.in_line,
  )

  -- The test `fits_in_line` fails exactly when a window at i would reach past the line's end.
  pub past_line_iff : (fits_in_line ring line i ≡ false) ↔ IsPastLine ring line i
  past_line_iff = (
    λ e. record { past = leb-false (i + length ring) (length line) e },
    λ h. lt-leb (i + length ring) (length line) h.past,
  )

  -- A window at i fits in the line, or would reach past its end.
  pub fits_or_past : FitsInLine ring line i ⊎ IsPastLine ring line i
  fits_or_past = ⊎_elim (λ h. inl (record { in_line = h })) (λ h. inr (record { past = h })) (le_or_lt (i + length ring) (length line))

  -- The test `is_start` passes exactly when i is a start.
  pub start_iff : (is_start ring line i ≡ true) ↔ IsStart ring line i
  start_iff =
      Iff.trans (and_iff fits_line_iff (not_iff (holds_iff (window (length ring) line i)))) (
        λ h. record { fits_in_line = h.0; no_mark = h.1 },
        λ s. (s.fits_in_line, s.no_mark),
      )

  -- If a window fits in the line at i and none of its edges is a mark, i is a start.
  pub unmarked_is_start : FitsInLine ring line i → ((q : ℕ) → q < length ring → is_mark (window_edge line i q) ≡ false) → IsStart ring line i
  unmarked_is_start in_line none = record { fits_in_line = in_line; no_mark = window_holds_none ring line i in_line none }

  -- If one of the m edges from i on is a mark, i is not a start.
  pub marked_no_start : (q : ℕ) → q < length ring → window_edge line i q ≡ mark → IsStart ring line i → ⊥
  marked_no_start q l is start = start.no_mark (window_holds ring line i start.fits_in_line q l is)

  -- If the line has a mark at p, and p is one of the m places from i on, i is not a start.
  pub no_start_over : (p : ℕ) → get_or line p 0 ≡ mark → i ≤ p → p < i + length ring → IsStart ring line i → ⊥
  no_start_over p is lo hi = let there : i + (p - i) ≡ p = omega arith in marked_no_start (p - i) (omega arith) (ap (λ (x : ℕ). get_or line x 0) there ∙ is)

  -- If i cannot be a start, the test fails.
  pub no_start : (IsStart ring line i → ⊥) → is_start ring line i ≡ false
  no_start can_not = sym (test_fails start_iff can_not)

  -- If a window at i would reach past the line's end, i is not a start.
  pub past_no_start : IsPastLine ring line i → is_start ring line i ≡ false
  past_no_start past = rw (past_line_iff.1 past)
