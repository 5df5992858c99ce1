-- The window that `window` returns. If m edges from i on fit in the whole line, it has m edges: a window that crosses the line's end lies in the join area, every
-- other in the line. If the join area begins with the line's last m − 1 edges, the line up to there followed by the area's first 2·m − 2 is the whole line. So the
-- window is the whole line's, whichever part it comes from.
use Prim.Native.Nat.{ℕ, ◌+◌, ◌-◌, ◌≤◌, ◌<◌, min}
use mathlib.Core.Path.{◌≡◌, refl, sym, ap, ◌∙◌}
use mathlib.Core.Bool.{true, false, ◌&&◌, false≢true}
use mathlib.Core.Logic.{◌↔◌, ⊎_elim}
use mathlib.Core.List.{List, [], ◌++◌, append_assoc, append-nil}
use native.Mathlib.Omega.{arith}
use lib.Dec.{ltb, leb}
use lib.ListN.{length, get_or, take, drop, length-append, length-drop, take-append-drop}
use lib.Seq.{length-take-le, take_all, take-nil, take-add, take-append-le, drop-append-le, drop-append-add, drop-nil}
use borrow.Author.Tests.{lt-ltb, le-leb, lt-leb}
use Rattle.std.specs.List.{slice_range}
use Rattle.lists.proofs.Cases.{by_test, le_or_lt}
use Rattle.lists.proofs.SizesTested.{lt_iff, le_iff, and_iff, test_fails}
use Rattle.meaning.specs.Meanings.{FitsInLine, IsPastLine, window, window_edge}
use Rattle.meaning.proofs.Windows.{window_edge_is}
use Rattle.windows.specs.Windows.{window_at, Parts, parts, crosses, window_of, whole_line, Joined, IsWindow, IsWholeLength, IsPart}

-- If m edges from i on do not fit, the empty part meets the contract of `part`.
pub none_at : (edges : List ℕ) (i m : ℕ) → length edges < i + m → IsPart edges i m []
none_at edges i m past = record { is = rw (lt-leb (i + m) (length edges) past) refl }

-- If m edges from i on fit, the part from i to i + m meets the contract of `part`.
pub part_at : (edges : List ℕ) (i m : ℕ) → i + m ≤ length edges → IsPart edges i m (take (i + m - i) (drop i edges))
unfolding window
part_at edges i m fits =
    let size : i + m - i ≡ m = omega arith in
    record { is = ap (λ (n : ℕ). take n (drop i edges)) size ∙ sym (rw (le-leb (i + m) (length edges) fits) refl) }

-- The first m of the edges from i on meet the contract of `part`.
pub part_of : (edges : List ℕ) (i m : ℕ) {rest part : List ℕ} → i + m ≤ length edges → rest ≡ slice_range edges i (length edges) → part ≡ slice_range rest 0 m
    → IsPart edges i m part
part_of edges i m {rest} {part} fits rest_is part_is =
    let all : rest ≡ drop i edges = rest_is ∙ take_all (length edges - i) (drop i edges) (omega (arith, length-drop i edges)) in
    let size : m - 0 ≡ i + m - i = omega arith in
    record { is = part_is ∙ ap (take (m - 0)) all ∙ ap (λ (n : ℕ). take n (drop i edges)) size ∙ (part_at edges i m fits).is }

-- If m edges from i on fit, the window there is the window at i.
window_at_lem : (m : ℕ) (edges : List ℕ) (i : ℕ) → i + m ≤ length edges → window_at m edges i ≡ window m edges i
window_at_lem m edges i fits = rw (le-leb (i + m) (length edges) fits) refl

module _ (m : ℕ) (p : Parts) where
  abbrev n : ℕ
  n = length p.line

  abbrev whole : List ℕ
  whole = whole_line m p

  -- what the join area adds to the line
  abbrev added : List ℕ
  added = take (m - 1) (drop (m - 1) p.join)

  crosses_iff : (i : ℕ) → (crosses m n i ≡ true) ↔ ((m ≤ n) × ((n - m < i) × (i < n)))
  crosses_iff i = and_iff (le_iff m n) (and_iff (lt_iff (n - m) i) (lt_iff i n))

  -- a window that does not cross comes from the line
  from_line : (i : ℕ) → ((m ≤ n) × ((n - m < i) × (i < n)) → ⊥) → window_at m p.line i ≡ window_of m p i
  unfolding window_of
  from_line i apart = rw (sym (test_fails (crosses_iff i) apart)) refl

  -- No window begins behind the line.
  pub none_behind : (i : ℕ) → n ≤ i → [] ≡ window_of m p i
  unfolding window
  none_behind i behind =
      ⊎_elim
      (λ fits.
      let none : m ≡ 0 = omega arith in
      sym (ap (λ (k : ℕ). window_at k p.line i) none ∙ by_test (λ (l : List ℕ). l ≡ []) (leb (i + 0) n) (λ _. refl) (λ _. refl)))
      (λ past. (none_at p.line i m past).is)
      (le_or_lt (i + m) n)
      ∙ from_line i (λ both. omega (arith, both.1.1))

  -- If the line has fewer than m edges, there is no window.
  pub none_short : (i : ℕ) → n < m → [] ≡ window_of m p i
  none_short i short = (none_at p.line i m (omega arith)).is ∙ from_line i (λ both. omega (arith, both.0))

  -- If m edges from i on fit in the line, the window is that part of it.
  pub window_in_line : (i : ℕ) → i + m ≤ n → take (i + m - i) (drop i p.line) ≡ window_of m p i
  window_in_line i fits = (part_at p.line i m fits).is ∙ from_line i (λ both. omega (arith, both.1.0))

  -- A window that crosses comes from the join area: with n − i edges left in the line, from its place m − (n − i) − 1 on.
  pub window_in_join : (i : ℕ) → m ≤ n → i < n → n - i < m → window_at m p.join (m - (n - i) - 1) ≡ window_of m p i
  unfolding window_of
  window_in_join i long begins rest =
      let past : n - m < i = omega arith in
      let place : m - (n - i) - 1 ≡ i - (n - m) - 1 = omega arith in
      ap (λ (j : ℕ). window_at m p.join j) place ∙ rw ((crosses_iff i).1 (long, (past, begins))) refl

  -- If a window fits in the line, the whole line is the line followed by the m − 1 edges of the join area behind its first m − 1.
  pub whole_long : 0 < m → m ≤ n → whole ≡ p.line ++ added
  unfolding whole_line
  whole_long some long = rw (lt-ltb 0 m some, le-leb m n long) refl

  -- If no window fits in the line, the whole line is the line.
  pub whole_short : n < m → whole ≡ p.line
  unfolding whole_line
  whole_short short = let some : 0 < m = omega arith in rw (lt-ltb 0 m some, lt-leb m n short) refl

  -- If the ring has no edge, the whole line is the line.
  pub whole_no_edge : m ≡ 0 → whole ≡ p.line
  unfolding whole_line
  whole_no_edge none = rw none refl

  whole_added : 0 < m → m ≤ n → length whole ≡ n + length added
  whole_added some long = ap length (whole_long some long) ∙ length-append p.line added

  -- If a window fits in the line and the join area holds m − 1 edges behind its first m − 1, it adds m − 1.
  pub whole_full : 0 < m → m ≤ n → m - 1 ≤ length p.join - (m - 1) → length whole ≡ n + (m - 1)
  whole_full some long wide =
      whole_added some long ∙ ap (λ (l : ℕ). n + l) (length-take-le (m - 1) (drop (m - 1) p.join) (omega (arith, length-drop (m - 1) p.join)))

  -- If it holds at most m − 1 there, it adds all of them.
  pub whole_part : 0 < m → m ≤ n → length p.join - (m - 1) ≤ m - 1 → length whole ≡ n + (length p.join - (m - 1))
  whole_part some long narrow =
      whole_added some long
      ∙ ap (λ (l : ℕ). n + l) (ap length (take_all (m - 1) (drop (m - 1) p.join) (omega (arith, length-drop (m - 1) p.join))) ∙ length-drop (m - 1) p.join)

  -- So it adds m − 1, or as many as it holds there.
  pub whole_least : 0 < m → m ≤ n → length whole ≡ n + min (m - 1) (length p.join - (m - 1))
  whole_least some long =
      ⊎_elim (λ wide. omega (arith, whole_full some long wide)) (λ narrow. omega (arith, whole_part some long (omega arith)))
      (le_or_lt (m - 1) (length p.join - (m - 1)))

  -- the two cases
  by_added : {P : Type 0} → 0 < m → m ≤ n → (m - 1 ≤ length p.join - (m - 1) → length whole ≡ n + (m - 1) → P)
      → (length p.join - (m - 1) ≤ m - 1 → length whole ≡ n + (length p.join - (m - 1)) → P) → P
  by_added some long full part =
      ⊎_elim (λ wide. full wide (whole_full some long wide)) (λ narrow. let le : length p.join - (m - 1) ≤ m - 1 = omega arith in part le (whole_part some long le))
      (le_or_lt (m - 1) (length p.join - (m - 1)))

  -- The line is no longer than the whole line.
  pub line_le_whole : n ≤ length whole
  unfolding whole_line
  line_le_whole =
      by_test (λ (l : List ℕ). n ≤ length l) (ltb 0 m && leb m n) (λ _. omega (arith, length-append p.line added)) (λ _. omega arith)

  -- If m edges from i on do not fit in the whole line, the window is empty.
  pub whole_window_none : 0 < m → (i : ℕ) → length whole < i + m → window_of m p i ≡ []
  unfolding window_of
  whole_window_none some i past =
      by_test (λ (l : List ℕ). l ≡ []) (crosses m n i)
      (λ e.
      let both = (crosses_iff i).0 e in
      let beyond = by_added {P = length p.join < i - (n - m) - 1 + m} some both.0 (λ wide size. absurd (omega (arith, both.1.1))) (λ narrow size. omega (arith, both.0, both.1.0)) in
      sym (none_at p.join (i - (n - m) - 1) m beyond).is)
      (λ e. sym (none_at p.line i m (omega (arith, line_le_whole))).is)

  module _ (some : 0 < m) (i : ℕ) (fits : i + m ≤ length whole) where
    -- a whole line in which a window fits begins with a line in which one fits
    long : m ≤ n
    long = ⊎_elim (λ h. h) (λ short. let same = ap length (whole_short short) in absurd (omega (arith, same))) (le_or_lt m n)

    -- it begins in the line
    begins : i < n
    begins = by_added some long (λ wide size. omega arith) (λ narrow size. omega arith)

    -- a window that does not cross lies in the line
    in_line : crosses m n i ≡ false → i + m ≤ n
    in_line apart = ⊎_elim (λ h. omega (arith, long)) (λ past. absurd (true_not_false past)) (le_or_lt i (n - m))
      where
        true_not_false : n - m < i → ⊥
        true_not_false past = let both = (crosses_iff i).1 (long, (past, begins)) in false≢true (sym apart ∙ both)

    -- a window that crosses lies in the join area
    in_join : n - m < i → i - (n - m) - 1 + m ≤ length p.join
    in_join past = by_added some long (λ wide size. omega (arith, long)) (λ narrow size. omega (arith, long))

    -- If m edges from i on fit in the whole line, the window has m edges.
    pub whole_window_length : length (window_of m p i) ≡ m
    unfolding window_of window
    whole_window_length =
        by_test (λ (l : List ℕ). length l ≡ m) (crosses m n i)
        (λ e.
        let lies = in_join ((crosses_iff i).0 e).1.0 in
        let j = i - (n - m) - 1 in
        ap length (window_at_lem m p.join j lies) ∙ length-take-le m (drop j p.join) (omega (arith, length-drop j p.join)))
        (λ e.
        let lies = in_line e in
        ap length (window_at_lem m p.line i lies) ∙ length-take-le m (drop i p.line) (omega (arith, length-drop i p.line)))

    module _ (joined : Joined m p) where
      -- the line up to where the join area begins
      abbrev before : List ℕ
      before = take (n - (m - 1)) p.line

      -- the part of the join area that windows come from
      abbrev used : List ℕ
      used = take (m - 1 + (m - 1)) p.join

      -- the whole line, if a window crosses: the line up to the join area, and that part of it
      by_join : m ≤ length p.join → whole ≡ before ++ used
      by_join wide =
          whole_long some long
          ∙ ap (λ (l : List ℕ). l ++ added) (sym (take-append-drop (n - (m - 1)) p.line))
          ∙ append_assoc before (drop (n - (m - 1)) p.line) added
          ∙ ap (λ (l : List ℕ). before ++ (l ++ added)) (sym (joined.lasts long wide))
          ∙ ap (λ (l : List ℕ). before ++ l) (sym (take-add (m - 1) (m - 1) p.join))

      -- a window that crosses lies in that part
      in_used : n - m < i → i - (n - m) - 1 + m ≤ length used
      in_used past =
          ⊎_elim
          (λ wide. omega (arith, length-take-le (m - 1 + (m - 1)) p.join wide, begins, long))
          (λ narrow. omega (arith, ap length (take_all (m - 1 + (m - 1)) p.join (omega arith)), in_join past))
          (le_or_lt (m - 1 + (m - 1)) (length p.join))

      crossing_is : n - m < i → window m p.join (i - (n - m) - 1) ≡ window m whole i
      unfolding window
      crossing_is past =
          let j = i - (n - m) - 1 in
          let later = drop (m - 1 + (m - 1)) p.join in
          let lies = in_used past in
          let size = length-take-le (n - (m - 1)) p.line (omega arith) in
          let place : i ≡ length before + j = omega (arith, size, long) in
          ap (λ (l : List ℕ). take m (drop j l)) (sym (take-append-drop (m - 1 + (m - 1)) p.join))
          ∙ ap (take m) (drop-append-le j used later (omega (arith, lies)))
          ∙ take-append-le m (drop j used) later (omega (arith, lies, length-drop j used))
          ∙ ap (take m) (sym (ap (λ (l : List ℕ). drop i l) (by_join (omega (arith, in_join past))) ∙ ap (λ (q : ℕ). drop q (before ++ used)) place
          ∙ drop-append-add before used j))

      apart_is : i + m ≤ n → window m p.line i ≡ window m whole i
      unfolding window
      apart_is lies =
          sym (ap (λ (l : List ℕ). take m (drop i l)) (whole_long some long) ∙ ap (take m) (drop-append-le i p.line added (omega arith))
          ∙ take-append-le m (drop i p.line) added (omega (arith, length-drop i p.line)))

      -- If m edges from i on fit in the whole line and the join area is right, the window is the whole line's.
      pub whole_window : window_of m p i ≡ window m whole i
      unfolding window_of
      whole_window =
          by_test (λ (l : List ℕ). l ≡ window m whole i) (crosses m n i)
          (λ e. let past = ((crosses_iff i).0 e).1.0 in window_at_lem m p.join (i - (n - m) - 1) (in_join past) ∙ crossing_is past)
          (λ e. window_at_lem m p.line i (in_line e) ∙ apart_is (in_line e))

      -- If m edges from i on fit in the whole line and the join area is right, the window's edges are the whole line's.
      pub whole_edge : (q : ℕ) → q < m → get_or (window_of m p i) q 0 ≡ window_edge whole i q
      whole_edge q l = ap (λ (xs : List ℕ). get_or xs q 0) whole_window ∙ window_edge_is m whole i q l

-- An empty join area adds nothing: the whole line is the line.
pub whole_open : (m : ℕ) (line : List ℕ) → whole_line m (parts line []) ≡ line
unfolding whole_line
whole_open m line =
    by_test (λ (l : List ℕ). l ≡ line) (ltb 0 m && leb m (length line))
    (λ _. ap (λ (l : List ℕ). line ++ l) (ap (take (m - 1)) (drop-nil (m - 1)) ∙ take-nil (m - 1)) ∙ append-nil line) (λ _. refl)

-- An empty join area is right: no window crosses.
pub open_joined : (m : ℕ) (line : List ℕ) → 0 < m → Joined m (parts line [])
open_joined m line some = record { lasts = λ long wide. absurd (omega arith) }

module _ {p : Parts} {ring : List ℕ} {i : ℕ} {edges : List ℕ} (some : 0 < length ring) (answer : IsWindow p i (length ring) edges)
    (in_line : FitsInLine ring (whole_line (length ring) p) i) where
  -- If a window fits in the whole line at i, the window that `window` returns has m edges.
  pub fitting_length : length edges ≡ length ring
  fitting_length = ap length answer.is ∙ whole_window_length (length ring) p some i in_line.in_line

  -- If also the join area is right, `window` returns the whole line's window at i.
  pub fitting_window : Joined (length ring) p → edges ≡ window (length ring) (whole_line (length ring) p) i
  fitting_window joined = answer.is ∙ whole_window (length ring) p some i in_line.in_line joined

module _ {p : Parts} {ring : List ℕ} {i : ℕ} {edges : List ℕ} (some : 0 < length ring) (answer : IsWindow p i (length ring) edges) where
  -- If `window` returns no edge, a window at i would reach past the whole line's end.
  pub none_is_past : length edges ≡ 0 → IsPastLine ring (whole_line (length ring) p) i
  none_is_past none = ⊎_elim
      (λ fits. absurd (omega (arith, fitting_length {p = p} {ring = ring} some answer (record { in_line = fits }))))
      (λ past. record { past = past })
      (le_or_lt (i + length ring) (length (whole_line (length ring) p)))

  -- If `window` returns an edge, a window fits in the whole line at i.
  pub some_fits : 0 < length edges → FitsInLine ring (whole_line (length ring) p) i
  some_fits edge = ⊎_elim
      (λ fits. record { in_line = fits })
      (λ past. absurd (omega (arith, ap length (answer.is ∙ whole_window_none (length ring) p some i past))))
      (le_or_lt (i + length ring) (length (whole_line (length ring) p)))

module _ {p : Parts} {ring : List ℕ} {i n : ℕ} (long : IsWholeLength (length ring) p n) where
  -- A window that ends within the length that `whole_length` returned fits in the whole line.
  pub fits_whole : i + length ring ≤ n → FitsInLine ring (whole_line (length ring) p) i
  fits_whole ends = record { in_line = omega (arith, long.is) }

  -- A window that ends beyond that length would reach past the whole line's end.
  pub past_whole : n < i + length ring → IsPastLine ring (whole_line (length ring) p) i
  past_whole ends = record { past = omega (arith, long.is) }
