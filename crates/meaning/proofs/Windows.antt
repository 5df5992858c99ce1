-- The window at a place, as a list: it has the line's m edges from there on. So it holds a mark exactly where the line has one at one of these places.
use Prim.Native.Nat.{ℕ, ◌<◌}
use mathlib.Core.Path.{◌≡◌, sym, ◌∙◌}
use mathlib.Core.Bool.{false}
use mathlib.Core.List.{List}
use native.Mathlib.Omega.{arith}
use lib.ListN.{length, get_or, drop, length-drop}
use lib.Seq.{length-take-le}
use borrow.Author.Tests.{eqb-false}
use Rattle.meaning.specs.Meanings.{FitsInLine, window, window_edge, mark, is_mark, HoldsMark}
use Rattle.lists.proofs.Records.{part_at}

-- The window as a list has at place q the line's edge at i + q.
pub window_edge_is : (m : ℕ) (line : List ℕ) (i q : ℕ) → q < m → get_or (window m line i) q 0 ≡ window_edge line i q
unfolding window
window_edge_is m line i q = part_at m line i q

module _ (ring line : List ℕ) (i : ℕ) (in_line : FitsInLine ring line i) where
  abbrev m : ℕ
  m = length ring

  -- A window that fits in the line has m edges.
  pub window_length : length (window m line i) ≡ m
  unfolding window
  window_length = length-take-le m (drop i line) (omega (arith, length-drop i line))

  -- If one of its places has a mark, the window holds a mark.
  pub window_holds : (q : ℕ) → q < m → window_edge line i q ≡ mark → HoldsMark (window m line i)
  window_holds q l is = record { place = q; in_edges = omega (arith, window_length); is_mark = window_edge_is m line i q l ∙ is }

  -- If none of its places has a mark, the window holds none.
  pub window_holds_none : ((q : ℕ) → q < m → is_mark (window_edge line i q) ≡ false) → HoldsMark (window m line i) → ⊥
  window_holds_none none holds =
      let in_window : holds.place < m = omega (arith, window_length, holds.in_edges) in
      eqb-false (window_edge line i holds.place) mark (none holds.place in_window) (sym (window_edge_is m line i holds.place in_window) ∙ holds.is_mark)
