-- The place just past the last mark. Parts of the line that lie side by side are joined by taking the later of their two places (`past_join`). Where the part
-- begins at place 0 and ends with a window, that window is at a start exactly when the place is at most the window's own (`start_iff_past`). Induction on the number of places.
use Prim.Native.Nat.{ℕ, zero, suc, ◌+◌, ◌≤◌, ◌<◌, max}
use mathlib.Core.Path.{◌≡◌, refl, sym, ap, ◌∙◌}
use mathlib.Core.Bool.{Bool, true, false}
use mathlib.Core.List.{List}
use mathlib.Core.Logic.{◌↔◌, ⊎_elim}
use native.Mathlib.Nat.{add-zero, zero-add, add-suc, eq-or-lt_of_le, le_of_suc-le-suc}
use native.Mathlib.Omega.{arith}
use lib.ListN.{length, get_or}
use borrow.Author.Tests.{eqb-true}
use Rattle.lists.proofs.Cases.{by_test, not_passed}
use Rattle.meaning.specs.Meanings.{FitsInLine, window_edge, mark, is_mark, IsStart}
use Rattle.meaning.proofs.Starts.{unmarked_is_start, marked_no_start}
use Rattle.tally.specs.Marks.{past_after, past_mark}

module _ (line : List ℕ) where
  -- Of no places the place is 0.
  pub past_none : (from : ℕ) → past_mark line from 0 ≡ 0
  unfolding past_mark
  past_none from = refl

  -- One place more: the edge at `place`, the next one, is asked.
  pub past_next : (from places place : ℕ) → place ≡ from + places
      → past_after (get_or line place 0) (past_mark line from places) (place + 1) ≡ past_mark line from (suc places)
  unfolding past_mark
  past_next from places place here = rw here refl

  -- If the next place has a mark, the place just past it is the new one.
  past_mark_lem : (from places : ℕ) → is_mark (get_or line (from + places) 0) ≡ true → past_mark line from (suc places) ≡ from + places + 1
  unfolding past_mark
  past_mark_lem from places is = rw is refl

  -- If the next place has no mark, nothing changes.
  past_edge : (from places : ℕ) → is_mark (get_or line (from + places) 0) ≡ false → past_mark line from (suc places) ≡ past_mark line from places
  unfolding past_mark
  past_edge from places edge = rw edge refl

  -- The place is never past the part's end.
  past_le : (from places : ℕ) → past_mark line from places ≤ from + places
  unfolding past_mark
  past_le from zero = omega arith
  past_le from (suc places) =
      by_test (λ (p : ℕ). p ≤ from + suc places) (is_mark (get_or line (from + places) 0)) (λ _. omega arith) (λ _. omega (arith, past_le from places))

  -- Of two parts side by side, the first from place 0 on, the later of their two places is that of both together.
  pub past_join : (a b : ℕ) → max (past_mark line 0 a) (past_mark line a b) ≡ past_mark line 0 (a + b)
  unfolding past_mark
  past_join a zero = rw add-zero (omega arith)
  past_join a (suc b) = joined (is_mark (get_or line (a + b) 0)) refl (past_join a b) ∙ sym (ap (past_mark line 0) (add-suc a b))
    where
      joined : (t : Bool) → is_mark (get_or line (a + b) 0) ≡ t → max (past_mark line 0 a) (past_mark line a b) ≡ past_mark line 0 (a + b)
          → max (past_mark line 0 a) (past_mark line a (suc b)) ≡ past_mark line 0 (suc (a + b))
      joined true is _ = omega (arith, past_le 0 a, past_mark_lem a b is, past_mark_lem 0 (a + b) (rw zero-add is))
      joined false edge so_far = omega (arith, so_far, past_edge a b edge, past_edge 0 (a + b) (rw zero-add edge))

  -- If none of the m edges from i on is a mark, the place just past the last mark is at most i.
  clear_by : (i m : ℕ) → ((q : ℕ) → q < m → is_mark (window_edge line i q) ≡ false) → past_mark line 0 (i + m) ≤ i
  clear_by i zero none = rw add-zero (omega (arith, past_le 0 i))
  clear_by i (suc m) none =
      omega (
        arith,
        clear_by i m (λ q l. none q (omega arith)),
        ap (past_mark line 0) (add-suc i m),
        past_edge 0 (i + m) (rw zero-add (none m (omega arith))),
      )

  -- If that place is at most i, none of the m edges from i on is a mark.
  clear_at : (i m : ℕ) → past_mark line 0 (i + m) ≤ i → (q : ℕ) → q < m → is_mark (window_edge line i q) ≡ false
  clear_at i zero le q l = absurd (omega arith)
  clear_at i (suc m) le q l = asked (is_mark (window_edge line i m)) refl (λ so_far. clear_at i m so_far q)
    where
      asked : (t : Bool) → is_mark (window_edge line i m) ≡ t → (past_mark line 0 (i + m) ≤ i → q < m → is_mark (window_edge line i q) ≡ false)
          → is_mark (window_edge line i q) ≡ false
      asked true is _ = absurd (omega (arith, ap (past_mark line 0) (add-suc i m), past_mark_lem 0 (i + m) (rw zero-add is)))
      asked false edge earlier =
          ⊎_elim
          (λ here. ap (λ (p : ℕ). is_mark (window_edge line i p)) here ∙ edge)
          (earlier (omega (arith, ap (past_mark line 0) (add-suc i m), past_edge 0 (i + m) (rw zero-add edge))))
          (eq-or-lt_of_le (le_of_suc-le-suc l))

-- Two lists that have the same first edges have the same place.
pub past_same : (line line' : List ℕ) (places : ℕ) → ((p : ℕ) → p < places → get_or line p 0 ≡ get_or line' p 0) → past_mark line 0 places ≡ past_mark line' 0 places
unfolding past_mark
past_same line line' zero same = refl
past_same line line' (suc places) same =
    rw (zero-add places, same places (omega arith), past_same line line' places (λ p l. same p (omega arith))) refl

-- A window that fits in the line is at a start exactly when the place just past the last mark, seen up to the window's end, is at most the window's own place.
pub start_iff_past : (ring line : List ℕ) (i : ℕ) → FitsInLine ring line i → IsStart ring line i ↔ (past_mark line 0 (i + length ring) ≤ i)
start_iff_past ring line i in_line = (
  λ start. clear_by line i (length ring)
      (λ q l. sym (not_passed (is_mark (window_edge line i q)) (λ is. marked_no_start ring line i q l (eqb-true (window_edge line i q) mark is) start))),
  λ le. unmarked_is_start ring line i in_line (clear_at line i (length ring) le),
)
