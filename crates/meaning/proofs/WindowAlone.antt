-- A window taken out of the line as a list of its own. At start 0 it has the same distances and the same reading as at its start in the line, because both
-- depend on its m edges only.
use Prim.Native.Nat.{ℕ, zero, suc, ◌≤◌, ◌<◌}
use mathlib.Core.Path.{◌≡◌, refl, ap, ap₂}
use mathlib.Core.Bool.{Bool, true, false, cond, true≢false, false≢true}
use mathlib.Core.List.{List, ◌∷◌}
use native.Mathlib.Nat.{zero-add}
use native.Mathlib.Omega.{arith}
use lib.ListN.{length}
use Rattle.meaning.specs.Meanings.{window, window_edge, is_mark, distance}
use Rattle.meaning.specs.Stretch.{fits}
use Rattle.meaning.specs.Rules.{Reading, unread, mark_read, grown_read, broken_read, read_edge, stops_at, read_left, read_window}
use Rattle.meaning.proofs.Windows.{window_edge_is}
use Rattle.meaning.proofs.SameWindow.{same_distance}

-- Two readings that agree in all but their starts.
pub record SameReading (v w : Reading) : Type 0 where
  pub read_is : v.read ≡ w.read
  pub breaks_is : v.breaks ≡ w.breaks
  pub held_is : v.held ≡ w.held
  pub mark_is : v.at_mark ≡ w.at_mark

-- Equal tests pick readings that agree.
same_cond : (t t' : Bool) → t ≡ t' → {v w v' w' : Reading} → SameReading v w → SameReading v' w' → SameReading (cond t v v') (cond t' w w')
same_cond true true e a b = a
same_cond true false e a b = absurd (true≢false e)
same_cond false true e a b = absurd (false≢true e)
same_cond false false e a b = b

module _ (ring line : List ℕ) (i : ℕ) where
  abbrev m : ℕ
  m = length ring

  -- The edges of the window taken out are the line's.
  pub alone_edge : (q : ℕ) → q < m → window_edge (window m line i) 0 q ≡ window_edge line i q
  alone_edge q l = rw (zero-add q) (window_edge_is m line i q l)

  -- The distances of the window taken out are those of its start in the line.
  pub alone_distance : (r : ℕ) → distance ring (window m line i) 0 r ≡ distance ring line i r
  alone_distance = same_distance ring (window m line i) 0 line i (record { edge_is = alone_edge })

  -- Two readings that agree still do after one edge more: the held stretches are equal, so both fit or neither does.
  same_edge : (x : ℕ) (v w : Reading) → SameReading v w → SameReading (read_edge ring x v) (read_edge ring x w)
  unfolding read_edge
  same_edge x v w s =
      same_cond (is_mark x) (is_mark x) refl {v = mark_read v} {w = mark_read w}
      (record { read_is = ap suc s.read_is; breaks_is = s.breaks_is; held_is = refl; mark_is = refl })
      (same_cond _ _ (ap (λ (held : List ℕ). fits ring (x ∷ held)) s.held_is) {v = grown_read x v} {w = grown_read x w} {v' = broken_read v} {w' = broken_read w}
      (record { read_is = ap suc s.read_is; breaks_is = s.breaks_is; held_is = ap (λ (held : List ℕ). x ∷ held) s.held_is; mark_is = refl })
      (record { read_is = ap suc s.read_is; breaks_is = ap suc s.breaks_is; held_is = refl; mark_is = refl }))

  -- They still agree after all edges left: breaks and mark are the same, so both stop or neither does.
  same_left : (k left : ℕ) (v w : Reading) → left ≤ m → SameReading v w
      → SameReading (read_left ring (window m line i) k 0 left v) (read_left ring line k i left w)
  unfolding read_left
  same_left k zero v w l s = s
  same_left k (suc left) v w l s =
      same_cond _ _ (ap₂ (stops_at k) s.breaks_is s.mark_is) s
      (rw (alone_edge left (omega arith)) (same_left k left _ _ (omega arith) (same_edge (window_edge line i left) v w s)))

  -- The window taken out is read as the line's window at i.
  pub alone_reading : (k : ℕ) → SameReading (read_window ring (window m line i) k 0) (read_window ring line k i)
  unfolding read_window
  alone_reading k = same_left k m (unread 0) (unread i) (omega arith) (record { read_is = refl; breaks_is = refl; held_is = refl; mark_is = refl })
