-- What holds for every window that was read: its start is the place where it was read, at most m edges were read, and either all of them were read and the window
-- was not stopped, or it was stopped; if at a mark, the mark is the last edge read. Induction on the edges left.
use Prim.Native.Nat.{ℕ, zero, suc, ◌+◌, ◌-◌, ◌≤◌, ◌<◌}
use mathlib.Core.Path.{◌≡◌, refl, sym, ap, ◌∙◌}
use mathlib.Core.Bool.{Bool, true, false, and-false, true≢false, false≢true}
use mathlib.Core.Logic.Iff
use mathlib.Core.Logic.{◌↔◌, ◌⊎◌, inl, inr, ⊎_elim}
use mathlib.Core.List.{List, ◌∷◌}
use native.Mathlib.Omega.{arith}
use lib.Dec.{eqb}
use lib.ListN.{length, get_or}
use borrow.Author.Tests.{eqb-true, eq-eqb}
use Rattle.meaning.specs.Meanings.{window_edge, mark, is_mark}
use Rattle.meaning.specs.Stretch.{fits}
use Rattle.meaning.specs.Rules.{Reading, unread, mark_read, grown_read, broken_read, read_edge, is_stopped, read_left, read_window, next_start, is_candidate}
use Rattle.lists.proofs.Cases.{by_test, le_or_lt}
use Rattle.lists.proofs.SizesTested.{lt_iff, or_iff}

-- P holds for what reading the edge x gives if it holds in each of the three cases: x is a mark; the grown stretch fits; x is a break.
pub by_edge : (ring : List ℕ) (x : ℕ) (w : Reading) (P : Reading → Type 0) → (is_mark x ≡ true → P (mark_read w))
    → (is_mark x ≡ false → fits ring (x ∷ w.held) ≡ true → P (grown_read x w)) → (is_mark x ≡ false → fits ring (x ∷ w.held) ≡ false → P (broken_read w))
    → P (read_edge ring x w)
unfolding read_edge
by_edge ring x w P marked grown broken =
    by_test P (is_mark x) marked (λ edge. by_test P (fits ring (x ∷ w.held)) (grown edge) (broken edge))

-- Reading an edge keeps the window's start.
edge_start : (ring : List ℕ) (x : ℕ) (w : Reading) → (read_edge ring x w).start ≡ w.start
edge_start ring x w = by_edge ring x w (λ (v : Reading). v.start ≡ w.start) (λ _. refl) (λ _ _. refl) (λ _ _. refl)

-- Reading an edge adds one to the edges read.
pub edge_read : (ring : List ℕ) (x : ℕ) (w : Reading) → (read_edge ring x w).read ≡ suc w.read
edge_read ring x w = by_edge ring x w (λ (v : Reading). v.read ≡ suc w.read) (λ _. refl) (λ _ _. refl) (λ _ _. refl)

-- A window is stopped exactly when it has more than k breaks or the last edge read is a mark.
pub stopped_iff : (k : ℕ) (w : Reading) → (is_stopped k w ≡ true) ↔ ((k < w.breaks) ⊎ (w.at_mark ≡ true))
stopped_iff k w = or_iff (lt_iff k w.breaks) Iff.rfl

-- All m edges are read and the window was not stopped, or it was stopped.
abbrev pub Ended : List ℕ → ℕ → Reading → Type 0
Ended ring k w = ((w.read ≡ length ring) × (is_stopped k w ≡ false)) ⊎ (is_stopped k w ≡ true)

-- If the last of j edges read is a mark, at least one edge is read, the line's mark is at place i + (m − j), and there are at most k breaks.
pub record EndsAtMark (ring line : List ℕ) (k i : ℕ) (w : Reading) : Type 0 where
  pub some_read : 0 < w.read
  pub is_mark : window_edge line i (length ring - w.read) ≡ mark
  pub few : w.breaks ≤ k

-- What holds for a reading that ended at a mark.
abbrev MarkIs : List ℕ → List ℕ → ℕ → ℕ → Reading → Type 0
MarkIs ring line k i w = w.at_mark ≡ true → EndsAtMark ring line k i w

-- What holds for the window at i once it is read: its start, how many edges were read at most, how reading ended, and where the mark is if it ended at one.
pub record WasRead (ring line : List ℕ) (k i : ℕ) (w : Reading) : Type 0 where
  pub start_is : w.start ≡ i
  pub read_le : w.read ≤ length ring
  pub ended : Ended ring k w
  pub mark_is : MarkIs ring line k i w

module _ (ring line : List ℕ) (k i : ℕ) where
  -- Once all edges are read, the test decides which of the two it is.
  all_read : (w : Reading) → w.read ≡ length ring → Ended ring k w
  all_read w e = go (is_stopped k w) refl
    where
      go : (t : Bool) → is_stopped k w ≡ t → Ended ring k w
      go true stop = inr stop
      go false goes_on = inl (e, goes_on)

  -- A window that is not stopped has at most k breaks.
  few_breaks : (w : Reading) → is_stopped k w ≡ false → w.breaks ≤ k
  few_breaks w goes_on = ⊎_elim (λ few. few) (λ many. absurd (true≢false (sym ((stopped_iff k w).1 (inl many)) ∙ goes_on))) (le_or_lt w.breaks k)

  -- After the edge at place `left` is read, the mark is there if that edge is one.
  mark_next : (left : ℕ) (w : Reading) → w.read + suc left ≡ length ring → is_stopped k w ≡ false
      → MarkIs ring line k i (read_edge ring (window_edge line i left) w)
  mark_next left w e goes_on =
      let x : ℕ = window_edge line i left in
      let there : length ring - suc w.read ≡ left = omega arith in
      let few : w.breaks ≤ k = few_breaks w goes_on in
      by_edge ring x w (MarkIs ring line k i)
      (λ is _. record { some_read = omega arith; is_mark = ap (window_edge line i) there ∙ eqb-true x mark is; few = few })
      (λ _ _ no. absurd (false≢true no))
      (λ _ _ no. absurd (false≢true no))

  -- The same for a window with `left` edges unread.
  left_read : (left : ℕ) (w : Reading) → w.start ≡ i → w.read + left ≡ length ring → MarkIs ring line k i w → WasRead ring line k i (read_left ring line k i left w)
  unfolding read_left
  left_read zero w s e is = record { start_is = s; read_le = omega arith; ended = all_read w (omega arith); mark_is = is }
  left_read (suc left) w s e is =
      let x : ℕ = window_edge line i left in
      by_test (WasRead ring line k i) (is_stopped k w)
      (λ stop. record { start_is = s; read_le = omega arith; ended = inr stop; mark_is = is })
      (λ goes_on. left_read left (read_edge ring x w) (edge_start ring x w ∙ s) (omega (arith, edge_read ring x w)) (mark_next left w e goes_on))

  -- `WasRead` holds for the window at every place i.
  pub window_read : WasRead ring line k i (read_window ring line k i)
  unfolding read_window
  window_read = left_read (length ring) (unread i) refl (omega arith) (λ no. absurd (false≢true no))

-- The window after one that is left at a mark begins "just past the mark" (document 02, ticket 2).
pub next_past_mark : (ring line : List ℕ) (k i : ℕ) → (read_window ring line k i).at_mark ≡ true
    → (p : ℕ) × (get_or line p 0 ≡ mark) × (next_start ring (read_window ring line k i) ≡ p + 1)
next_past_mark ring line k i left =
    let was = window_read ring line k i in
    (i + (length ring - (read_window ring line k i).read), (was.mark_is left).is_mark, omega (arith, was.start_is))

-- A window with all m edges read that was not stopped is a candidate.
pub candidate_yes : (ring : List ℕ) (k : ℕ) (w : Reading) → w.read ≡ length ring → is_stopped k w ≡ false → is_candidate ring k w ≡ true
candidate_yes ring k w e goes_on = rw (eq-eqb w.read (length ring) e, goes_on)

-- A window that was stopped is not a candidate.
pub candidate_no : (ring : List ℕ) (k : ℕ) (w : Reading) → is_stopped k w ≡ true → is_candidate ring k w ≡ false
candidate_no ring k w stop = rw stop (and-false (eqb w.read (length ring)))
