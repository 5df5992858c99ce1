-- A candidate is at a start: a window that was not stopped holds no mark, because reading stops at the first mark read. Induction on the edges left.
use Prim.Native.Nat.{ℕ, zero, suc, ◌≤◌, ◌<◌}
use mathlib.Core.Path.{◌≡◌, refl, sym, ap, ◌∙◌}
use mathlib.Core.Bool.{true, false, or-true, true≢false}
use mathlib.Core.Logic.{⊎_elim}
use mathlib.Core.List.{List}
use native.Mathlib.Nat.{eq-or-lt_of_le}
use native.Mathlib.Omega.{arith}
use lib.Dec.{ltb}
use lib.ListN.{length}
use Rattle.meaning.specs.Meanings.{FitsInLine, window_edge, is_mark, IsStart}
use Rattle.meaning.specs.Rules.{Reading, unread, read_edge, is_stopped, read_left, read_window}
use Rattle.lists.proofs.Cases.{by_test, not_passed}
use Rattle.meaning.proofs.Starts.{unmarked_is_start}

module _ (ring line : List ℕ) (k i : ℕ) where
  -- Once a window is stopped, no edge of it is read any more.
  pub stopped_stays : (left : ℕ) (w : Reading) → is_stopped k w ≡ true → read_left ring line k i left w ≡ w
  unfolding read_left
  stopped_stays zero w stop = refl
  stopped_stays (suc left) w stop = rw stop

  -- If the window is not stopped in the end, the edge read next is no mark.
  edge_unmarked : (left x : ℕ) (w : Reading) → is_stopped k (read_left ring line k i left (read_edge ring x w)) ≡ false → is_mark x ≡ false
  unfolding read_edge
  edge_unmarked left x w goes_on =
      sym
      (not_passed (is_mark x)
      (λ is.
      let stop : is_stopped k (read_edge ring x w) ≡ true = rw is (or-true (ltb k w.breaks)) in
      true≢false (sym stop ∙ sym (ap (is_stopped k) (stopped_stays left (read_edge ring x w) stop)) ∙ goes_on)))

  -- The window's edges from place q on are no marks.
  abbrev UnmarkedFrom : ℕ → Type 0
  UnmarkedFrom left = (q : ℕ) → left ≤ q → q < length ring → is_mark (window_edge line i q) ≡ false

  -- If the edges read so far are no marks, and the window is not stopped in the end, none of its edges is one.
  left_unmarked : (left : ℕ) (w : Reading) → UnmarkedFrom left → is_stopped k (read_left ring line k i left w) ≡ false → UnmarkedFrom 0
  unfolding read_left
  left_unmarked zero w so_far = λ _. so_far
  left_unmarked (suc left) w so_far =
      let x : ℕ = window_edge line i left in
      by_test (λ (v : Reading). is_stopped k v ≡ false → UnmarkedFrom 0) (is_stopped k w)
      (λ stop goes_on. absurd (true≢false (sym stop ∙ goes_on)))
      (λ _ goes_on. left_unmarked left (read_edge ring x w)
      (λ q lo hi. ⊎_elim (λ here. ap (λ (p : ℕ). is_mark (window_edge line i p)) (sym here) ∙ edge_unmarked left x w goes_on) (λ past. so_far q past hi) (eq-or-lt_of_le lo))
      goes_on)

  -- If the window at i fits in the line and was not stopped, i is a start.
  pub candidate_is_start : FitsInLine ring line i → is_stopped k (read_window ring line k i) ≡ false → IsStart ring line i
  unfolding read_window
  candidate_is_start in_line goes_on =
      unmarked_is_start ring line i in_line
      (λ q l. left_unmarked (length ring) (unread i) (λ p lo hi. absurd (omega arith)) goes_on q (omega arith) l)
