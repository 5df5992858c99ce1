-- On a line without marks nothing has changed: findings and looks are those of document 01 before marks (BeforeMarks of specs/). No edge of the line is a mark, so a
-- start is again every place where a window fits in the line, and no window is left at a mark. (The survey's looks do not depend on marks at all.)
use Prim.Native.Nat.{ℕ, zero, suc, ◌+◌}
use mathlib.Core.Path.{◌≡◌, refl, ap, ap₂, ◌∙◌}
use mathlib.Core.Bool.{Bool, false, not, cond, ◌&&◌, or-false}
use mathlib.Core.Logic.{⊎_elim}
use mathlib.Core.List.{List, [], ◌∷◌, ◌++◌}
use Rattle.std.specs.Prelude.{None}
use native.Mathlib.Omega.{arith}
use lib.Dec.{leb, ltb, eqb}
use lib.ListN.{length, get_or, get_or-eq_default}
use Rattle.lists.proofs.Cases.{by_test, le_or_lt}
use Rattle.lists.proofs.SizesTested.{lt_iff, le_iff, not_iff, test_same}
use Rattle.meaning.specs.Meanings.{fits_in_line, window_edge, is_mark, holds_mark, is_start, least_distance}
use Rattle.meaning.specs.Findings.{Finding, finding_at, found_at, findings_below, findings}
use Rattle.meaning.specs.Stretch.{fits}
use Rattle.meaning.specs.Rules.{Reading, unread, read_edge, is_stopped, read_left, read_window, next_start, windows_from, candidates_of}
use Rattle.meaning.specs.Looks.{read_looks, verify_looks, quick_looks}
use Rattle.meaning.specs.BeforeMarks.{found_before, below_before, findings_before, edge_before, left_before, window_before, windows_before, candidates_before, quick_looks_before}
use Rattle.meaning.proofs.Marks.{no_mark_at}
use Rattle.meaning.proofs.Starts.{fits_line_iff, start_iff, unmarked_is_start}

module _ (ring line : List ℕ) (k : ℕ) (unmarked : holds_mark line ≡ false) where
  -- No place has a mark. (Past the line's end `get_or` gives 0.)
  edge_no_mark : (p : ℕ) → is_mark (get_or line p 0) ≡ false
  edge_no_mark p =
      ⊎_elim
      (λ inside. no_mark_at line unmarked p inside)
      (λ past. rw (get_or-eq_default line 0 {n = p} (omega arith)) refl)
      (le_or_lt (suc p) (length line))

  -- Every place where a window fits in the line is a start.
  start_before : (i : ℕ) → is_start ring line i ≡ fits_in_line ring line i
  start_before i =
      test_same (start_iff ring line i) (fits_line_iff ring line i)
      (λ s. s.fits_in_line, λ in_line. unmarked_is_start ring line i in_line (λ q _. edge_no_mark (i + q)))

  found_same : (i : ℕ) → found_at ring line k i ≡ found_before ring line k i
  unfolding found_at found_before
  found_same i = ap (λ (t : Bool). cond (t && leb (least_distance ring line i) k) (finding_at ring line i ∷ []) []) (start_before i)

  below_before_lem : (i : ℕ) → findings_below ring line k i ≡ below_before ring line k i
  unfolding findings_below below_before
  below_before_lem zero = refl
  below_before_lem (suc i) = ap₂ (λ (a b : List Finding). a ++ b) (below_before_lem i) (found_same i)

  -- On a line without marks the findings are what they were.
  pub findings_before_lem : findings ring line k ≡ findings_before ring line k
  findings_before_lem = below_before_lem (length line)

  -- An edge is read as before, and is no mark.
  edge_before_lem : (p : ℕ) (w : Reading) → read_edge ring (get_or line p 0) w ≡ edge_before ring (get_or line p 0) w
  unfolding read_edge edge_before
  edge_before_lem p w = rw (edge_no_mark p) refl

  edge_not_marked : (x : ℕ) (w : Reading) → (edge_before ring x w).at_mark ≡ false
  unfolding edge_before
  edge_not_marked x w = by_test (λ (v : Reading). v.at_mark ≡ false) (fits ring (x ∷ w.held)) (λ _. refl) (λ _. refl)

  -- Without a mark, only break k + 1 stops a window.
  stopped_before : (w : Reading) → w.at_mark ≡ false → is_stopped k w ≡ ltb k w.breaks
  stopped_before w edge = rw edge (or-false (ltb k w.breaks))

  left_before_lem : (i left : ℕ) (w : Reading) → w.at_mark ≡ false → read_left ring line k i left w ≡ left_before ring line k i left w
  unfolding read_left left_before
  left_before_lem i zero w edge = refl
  left_before_lem i (suc left) w edge =
      let v : Reading = edge_before ring (window_edge line i left) w in
      ap₂ (λ (t : Bool) (further : Reading). cond t w further) (stopped_before w edge)
      (ap (read_left ring line k i left) (edge_before_lem (i + left) w) ∙ left_before_lem i left v (edge_not_marked (window_edge line i left) w))

  -- A window is read as before, and so are all windows.
  window_before_lem : (i : ℕ) → read_window ring line k i ≡ window_before ring line k i
  unfolding read_window
  window_before_lem i = left_before_lem i (length ring) (unread i) refl

  windows_before_lem : (more i : ℕ) → windows_from ring line k more i ≡ windows_before ring line k more i
  unfolding windows_from windows_before
  windows_before_lem zero i = refl
  windows_before_lem (suc more) i =
      ap (λ (w : Reading). cond (fits_in_line ring line i) (w ∷ windows_from ring line k more (next_start ring w)) []) (window_before_lem i)
      ∙ ap (λ (ws : List Reading). cond (fits_in_line ring line i) (window_before ring line k i ∷ ws) []) (windows_before_lem more _)

  -- None of their edges is a mark.
  left_not_marked : (i left : ℕ) (w : Reading) → w.at_mark ≡ false → (left_before ring line k i left w).at_mark ≡ false
  unfolding left_before
  left_not_marked i zero w edge = edge
  left_not_marked i (suc left) w edge =
      by_test (λ (v : Reading). v.at_mark ≡ false) (ltb k w.breaks) (λ _. edge)
      (λ _. left_not_marked i left (edge_before ring (window_edge line i left) w) (edge_not_marked (window_edge line i left) w))

  -- So "at most k breaks" decides which windows are candidates.
  few_before : (w : Reading) → w.at_mark ≡ false → not (is_stopped k w) ≡ leb w.breaks k
  few_before w edge =
      ap not (stopped_before w edge)
      ∙ test_same (not_iff (lt_iff k w.breaks)) (le_iff w.breaks k) (λ few. omega arith, λ le many. omega arith)

  candidates_before_lem : (more i : ℕ) → candidates_of ring k (windows_before ring line k more i) ≡ candidates_before ring k (windows_before ring line k more i)
  unfolding windows_before candidates_of candidates_before
  candidates_before_lem zero i = refl
  candidates_before_lem (suc more) i =
      let w : Reading = window_before ring line k i in
      let later : List Reading = windows_before ring line k more (next_start ring w) in
      by_test (λ (ws : List Reading). candidates_of ring k ws ≡ candidates_before ring k ws) (fits_in_line ring line i)
      (λ _. ap₂ (λ (few : Bool) (starts : List ℕ). cond (eqb w.read (length ring) && few) (w.start ∷ starts) starts)
      (few_before w (left_not_marked i (length ring) (unread i) refl)) (candidates_before_lem more (next_start ring w)))
      (λ _. refl)

  -- On a line without marks the looks of the quick scan are what they were.
  pub quick_looks_before_lem : quick_looks ring line k ≡ quick_looks_before ring line k
  quick_looks_before_lem =
      let ws : List Reading = windows_before ring line k (length line + 1) 0 in
      ap (λ (read : List Reading). read_looks read + verify_looks (length ring) None (candidates_of ring k read)) (windows_before_lem (length line + 1) 0)
      ∙ ap (λ (starts : List ℕ). read_looks ws + verify_looks (length ring) None starts) (candidates_before_lem (length line + 1) 0)
