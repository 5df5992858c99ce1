-- The loop that reads one window and keeps a vector of m bits in place of the stretch: its invariant and its turns. Bit r says whether the held stretch is the
-- beginning of rotation r. When an edge is read, the bits are rotated by one place and kept only at the places where the ring has that edge (`GrownBy`, source
-- document 003). They then say the same about the grown stretch, so the grown stretch fits exactly when some bit is still set.
use Prim.Native.Nat.{ℕ, suc, ◌+◌, ◌%◌, ◌≤◌, ◌<◌}
use mathlib.Core.Path.{◌≡◌, refl, sym, ap, ap₂, ◌∙◌}
use mathlib.Core.Bool.{Bool, true, false, ◌&&◌, and_comm, or-true}
use mathlib.Core.List.{List, ◌∷◌}
use native.Mathlib.Nat.{mod-eq_of_lt, mod-mod, mod-lt}
use native.Mathlib.Numerals.{add-one}
use native.Mathlib.Omega.{arith}
use lib.Dec.{ltb, eqb}
use lib.ListN.{length, get_or}
use borrow.Author.Tests.{eqb-true, lt-ltb, le-ltb, le-leb}
use Rattle.meaning.specs.Counting.{some_below}
use Rattle.meaning.specs.Meanings.{window_edge, is_mark, holds_mark}
use Rattle.meaning.specs.Stretch.{begins, fits}
use Rattle.meaning.specs.Rules.{Reading, unread, mark_read, grown_read, broken_read, read_edge, is_stopped, read_left, read_window}
use Rattle.lists.proofs.Cases.{and_true, and_yes, eqb_sym}
use Rattle.meaning.proofs.Some.{some_yes, some_same}
use Rattle.meaning.proofs.Marks.{no_mark_at}
use Rattle.meaning.proofs.CandidateStart.{stopped_stays}
use Rattle.meaning.proofs.FitDecided.{begins_mod}

module _ (ring : List ℕ) where
  -- The bits of a stretch: bit r says whether it is the beginning of rotation r, for every r below m.
  unfoldable pub BitsOf : (ℕ → Bool) → List ℕ → Type 0
  BitsOf bits s = (r : ℕ) → r < length ring → bits r ≡ begins ring r s

  -- Every bit below m is set.
  unfoldable pub AllSet : (ℕ → Bool) → Type 0
  AllSet bits = (r : ℕ) → r < length ring → bits r ≡ true

  -- `bits'` is `bits` rotated by one place, and kept only where the ring has the edge x.
  unfoldable pub GrownBy : ℕ → (ℕ → Bool) → (ℕ → Bool) → Type 0
  GrownBy x bits bits' = (r : ℕ) → r < length ring → bits' r ≡ (bits ((r + 1) % length ring) && eqb (get_or ring r 0) x)

  -- If bits stand for a stretch, the bits grown by an edge stand for the grown stretch.
  bits_grown : (x : ℕ) (bits bits' : ℕ → Bool) (s : List ℕ) → BitsOf bits s → GrownBy x bits bits' → BitsOf bits' (x ∷ s)
  unfolding BitsOf GrownBy begins
  bits_grown x bits bits' s h g r l =
      let m : ℕ = length ring in
      let here : eqb (get_or ring r 0) x ≡ eqb x (get_or ring (r % m) 0) =
      eqb_sym (get_or ring r 0) x ∙ ap (λ (p : ℕ). eqb x (get_or ring p 0)) (sym (mod-eq_of_lt l))
      in
      let rest : bits ((r + 1) % m) ≡ begins ring (suc r) s =
      h ((r + 1) % m) (mod-lt (r + 1) (omega arith)) ∙ begins_mod ring s _ (suc r) (mod-mod (r + 1) m ∙ ap (λ (p : ℕ). p % m) (add-one r))
      in
      g r l ∙ and_comm (bits ((r + 1) % m)) (eqb (get_or ring r 0) x) ∙ ap₂ (λ (a b : Bool). a && b) here rest

  -- If the ring holds no mark, no bit is set once a mark is read: a mark fits nothing.
  bits_unmarked : holds_mark ring ≡ false → (x : ℕ) (bits bits' : ℕ → Bool) → GrownBy x bits bits' → some_below bits' (length ring) ≡ true → is_mark x ≡ false
  unfolding GrownBy
  bits_unmarked none x bits bits' g e =
      let one = some_yes bits' (length ring) e in
      let has : get_or ring one.0 0 ≡ x = eqb-true (get_or ring one.0 0) x (and_true (bits ((one.0 + 1) % length ring)) (eqb (get_or ring one.0 0) x) (sym (g one.0 one.1) ∙ one.2)).1 in
      ap is_mark (sym has) ∙ no_mark_at ring none one.0 one.1

  -- A stretch of at most m edges fits exactly when some bit is set.
  bits_fit : (bits : ℕ → Bool) (s : List ℕ) → length s ≤ length ring → BitsOf bits s → fits ring s ≡ some_below bits (length ring)
  unfolding BitsOf fits
  bits_fit bits s short h =
      and_yes _ _ (le-leb (length s) (length ring) short) ∙ sym (some_same bits (λ r. begins ring r s) (length ring) h)

module _ (ring line : List ℕ) (k i : ℕ) where
  abbrev m : ℕ
  m = length ring

  -- The invariant, with `left` edges unread and `breaks` breaks: there is a reading so far with these numbers, the bits stand for its stretch, and reading on
  -- from it gives the reading of the whole window.
  pub record WindowLoop (left breaks : ℕ) (bits : ℕ → Bool) : Type 0 where
    pub so_far : Reading
    pub left_is : so_far.read + left ≡ m
    pub breaks_is : breaks ≡ so_far.breaks
    pub held_le : length so_far.held ≤ so_far.read
    pub no_mark : so_far.at_mark ≡ false
    pub bits_are : BitsOf ring bits so_far.held
    pub goes_on : read_left ring line k i left so_far ≡ read_window ring line k i

  -- The invariant holds before the first edge, with every bit set.
  pub window_start : (bits : ℕ → Bool) → AllSet ring bits → WindowLoop m 0 bits
  unfolding BitsOf AllSet begins read_window
  window_start bits all = record {
    so_far = unread i;
    left_is = omega arith;
    breaks_is = refl;
    held_le = omega arith;
    no_mark = refl;
    bits_are = all;
    goes_on = refl;
  }

  -- Reading the window ends with `left` edges unread and `breaks` breaks, at a mark or not.
  pub record ReadTo (left breaks : ℕ) (marked : Bool) : Type 0 where
    pub left_is : (read_window ring line k i).read + left ≡ m
    pub breaks_is : (read_window ring line k i).breaks ≡ breaks
    pub mark_is : (read_window ring line k i).at_mark ≡ marked

  -- Where reading ends, what the reading so far has is what the window's reading has.
  ends_with : {left breaks : ℕ} (w : Reading) → w ≡ read_window ring line k i → w.read + left ≡ m → breaks ≡ w.breaks → ReadTo left breaks w.at_mark
  ends_with w is left_is breaks_is = record {
    left_is = omega (arith, ap (λ (v : Reading). v.read) is);
    breaks_is = omega (arith, ap (λ (v : Reading). v.breaks) is);
    mark_is = ap (λ (v : Reading). v.at_mark) (sym is);
  }

  -- With no edge left, the window is read, with `breaks` breaks.
  pub window_end : (breaks : ℕ) (bits : ℕ → Bool) → WindowLoop 0 breaks bits → ReadTo 0 breaks false
  unfolding read_left
  window_end breaks bits h = rw h.no_mark at (ends_with h.so_far h.goes_on h.left_is h.breaks_is)

  module _ (left breaks : ℕ) (bits bits' : ℕ → Bool) (none : holds_mark ring ≡ false) (few : breaks ≤ k)
      (g : GrownBy ring (window_edge line i left) bits bits') (h : WindowLoop (suc left) breaks bits) where
    abbrev x : ℕ
    x = window_edge line i left

    -- The grown bits stand for the grown stretch,
    grown_bits : BitsOf ring bits' (x ∷ h.so_far.held)
    grown_bits = bits_grown ring x bits bits' h.so_far.held h.bits_are g

    -- so it fits exactly when some bit is left.
    grown_fits : fits ring (x ∷ h.so_far.held) ≡ some_below bits' m
    grown_fits = bits_fit ring bits' (x ∷ h.so_far.held) (omega (arith, h.left_is, h.held_le)) grown_bits

    -- The next edge is read, because there are at most k breaks so far.
    goes_on_read : read_left ring line k i left (read_edge ring x h.so_far) ≡ read_window ring line k i
    unfolding read_left
    goes_on_read =
        let not_stopped : is_stopped k h.so_far ≡ false = rw (le-ltb k h.so_far.breaks (omega (arith, h.breaks_is))) h.no_mark in
        rw not_stopped at h.goes_on

    -- If a bit is still set after the next edge, that edge is no mark, and the invariant holds with the grown stretch held.
    pub window_grows : some_below bits' m ≡ true → WindowLoop left breaks bits'
    unfolding read_edge
    window_grows e = record {
      so_far = grown_read x h.so_far;
      left_is = omega (arith, h.left_is);
      breaks_is = h.breaks_is;
      held_le = omega (arith, h.held_le);
      no_mark = refl;
      bits_are = grown_bits;
      goes_on = rw (bits_unmarked ring none x bits bits' g e, grown_fits, e) at goes_on_read;
    }

    -- If the next edge is a mark, reading the window ends there, without a break more.
    pub window_marked : is_mark x ≡ true → ReadTo left breaks true
    unfolding read_edge
    window_marked is =
        let stop : is_stopped k (mark_read h.so_far) ≡ true = or-true (ltb k h.so_far.breaks) in
        ends_with (mark_read h.so_far) (sym (stopped_stays ring line k i left (mark_read h.so_far) stop) ∙ rw is at goes_on_read) (omega (arith, h.left_is)) h.breaks_is

    -- If no bit is set after the next edge and it is no mark, it is a break: the invariant holds with one break more and every bit set again.
    pub window_breaks : is_mark x ≡ false → some_below bits' m ≡ false → (all : ℕ → Bool) → AllSet ring all → WindowLoop left (suc breaks) all
    unfolding read_edge BitsOf AllSet begins
    window_breaks edge e all All-set = record {
      so_far = broken_read h.so_far;
      left_is = omega (arith, h.left_is);
      breaks_is = omega (arith, h.breaks_is);
      held_le = omega arith;
      no_mark = refl;
      bits_are = All-set;
      goes_on = rw (edge, grown_fits, e) at goes_on_read;
    }

  -- With more than k breaks reading the window ends here.
  pub window_stopped : (left breaks : ℕ) (bits : ℕ → Bool) → k < breaks → WindowLoop left breaks bits → ReadTo left breaks false
  window_stopped left breaks bits many h =
      let stop : is_stopped k h.so_far ≡ true = rw (lt-ltb k h.so_far.breaks (omega (arith, h.breaks_is))) in
      rw h.no_mark at (ends_with h.so_far (sym (stopped_stays ring line k i left h.so_far stop) ∙ h.goes_on) h.left_is h.breaks_is)
