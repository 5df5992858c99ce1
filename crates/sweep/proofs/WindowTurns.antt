-- The loop of `read_windows`, with any table. Before each turn, reading on from here gives the same result as from the start (`StillWindows`). A window takes at most m
-- looks, and each starts past the one before.
use Prim.Native.Nat.{ℕ, zero, suc, ◌+◌, ◌-◌, ◌*◌, ◌≤◌, ◌<◌}
use mathlib.Core.Path.{◌≡◌, refl, sym, ap, ◌∙◌}
use mathlib.Core.Bool.{Bool, false}
use mathlib.Core.List.{List}
use Rattle.std.specs.Prelude.{None, Some}
use Rattle.std.specs.Option.{is_some}
use native.Mathlib.Nat.{add-zero}
use native.Mathlib.Omega.{arith}
use lib.Dec.{eqb}
use lib.ListN.{length}
use borrow.Author.Tests.{eqb-false}
use Rattle.lists.proofs.Cases.{by_test}
use Rattle.meaning.specs.Meanings.{FitsInLine, IsPastLine, fits_in_line}
use Rattle.meaning.proofs.Starts.{fits_line_iff, past_line_iff}
use Rattle.vectors.specs.Bits.{word_count}
use Rattle.occurrences.specs.declared.table.EdgeVectors.{EdgeVectors}
use Rattle.windows.specs.Windows.{Parts, window_of, whole_line, IsWindow}
use Rattle.windows.proofs.WindowEdges.{fitting_length, some_fits}
use Rattle.tally.specs.Counts.{most_counts}
use Rattle.sweep.specs.declared.reading.WindowRead.{WindowRead}
use Rattle.std.specs.Prelude.{Some}
use Rattle.sweep.specs.declared.sweeping.WindowsRead.{WindowsRead}
use Rattle.sweep.specs.Reads.{unread_from, unread, read_by, none_left, windows_on, windows_by, CanReadWindows}
use Rattle.sweep.proofs.ReadTurns.{read_sum, read_some}

-- The invariant before the turn at start i: at most `left` windows are still to come, and `still` says that reading them from here gives the result of the whole loop.
pub record StillWindows (ring : List ℕ) (table : EdgeVectors) (p : Parts) (k from i looks : ℕ) : Type 0 where
  pub can : CanReadWindows (length ring) (length (whole_line (length ring) p)) from
  pub left : ℕ
  pub enough : length (whole_line (length ring) p) + 1 ≤ i + left
  pub start_le : i ≤ length (whole_line (length ring) p) + 1
  pub looks_le : looks ≤ most_counts * i
  pub still : windows_on ring table p k left i looks ≡ windows_by ring table p k from

-- Of a window that fits in the line at least one edge is read, and looks and edges left unread add up to m.
window_reads : (table : EdgeVectors) (k : ℕ) {ring edges : List ℕ} {p : Parts} {i : ℕ} → 0 < length ring → FitsInLine ring (whole_line (length ring) p) i
    → IsWindow p i (length ring) edges
    → ((read_by table edges k).looks + unread (read_by table edges k) ≡ length ring) × (unread (read_by table edges k) < length ring)
window_reads table k {ring} {edges = edges} some_edge in_line handed =
    let size : length edges ≡ length ring = fitting_length some_edge handed in_line in
    let words : ℕ = word_count (length edges) in
    (read_sum table edges k words ∙ size, omega (arith, read_some table edges k words (omega arith)))

-- The invariant holds before the first turn.
pub windows_start : {ring : List ℕ} {table : EdgeVectors} {p : Parts} {k from : ℕ} → CanReadWindows (length ring) (length (whole_line (length ring) p)) from → StillWindows ring table p k from from 0
windows_start {ring} {p = p} {from = from} can =
    record { can = can; left = length (whole_line (length ring) p) + 1 - from; enough = omega arith; start_le = can.start_le; looks_le = omega arith; still = refl }

-- If no window fits in the line at i, reading on gives `none_left`.
windows_none : (ring : List ℕ) (table : EdgeVectors) (p : Parts) (k left i looks : ℕ) → IsPastLine ring (whole_line (length ring) p) i → windows_on ring table p k left i looks ≡ none_left i looks
unfolding windows_on
windows_none ring table p k zero i looks past = refl
windows_none ring table p k (suc left) i looks past = rw ((past_line_iff ring (whole_line (length ring) p) i).1 past) refl

module _ {ring : List ℕ} {table : EdgeVectors} {p : Parts} {k from i looks : ℕ} (known : StillWindows ring table p k from i looks) where
  abbrev m : ℕ
  m = length ring

  abbrev line : List ℕ
  line = whole_line m p

  abbrev n : ℕ
  n = length line

  -- If no window fits in the line at i, the loop's result there meets the contract.
  pub windows_end : IsPastLine ring line i → none_left i looks ≡ windows_by ring table p k from
  windows_end past = sym (windows_none ring table p k known.left i looks past) ∙ known.still

  -- If the window that `window` returned is not empty, it fits in the whole line at i, and it has m edges.
  pub windows_fit : {edges : List ℕ} {none : Bool} → IsWindow p i m edges → none ≡ eqb (length edges) 0 → none ≡ false → FitsInLine ring line i
  windows_fit {edges} handed none_is some = some_fits known.can.some_edge handed (omega (arith, eqb-false (length edges) 0 (sym none_is ∙ some)))

  pub windows_size : {edges : List ℕ} {none : Bool} → IsWindow p i m edges → none ≡ eqb (length edges) 0 → none ≡ false → length edges ≡ m
  windows_size handed none_is some = fitting_length known.can.some_edge handed (windows_fit handed none_is some)

  module _ (in_line : FitsInLine ring line i) {edges : List ℕ} (handed : IsWindow p i m edges) {r : WindowRead} (reads : r ≡ read_by table edges k) where
    is_read : read_by table (window_of m p i) k ≡ r
    is_read = sym (reads ∙ ap (λ (w : List ℕ). read_by table w k) handed.is)

    from_here : windows_on ring table p k (suc (known.left - 1)) i looks ≡ windows_by ring table p k from
    from_here =
        let one_more : known.left ≡ suc (known.left - 1) = omega (arith, known.enough) in
        ap (λ (x : ℕ). windows_on ring table p k x i looks) (sym one_more) ∙ known.still

    reads_fit : (r.looks + unread r ≡ m) × (unread r < m)
    reads_fit = rw reads (window_reads table k known.can.some_edge in_line handed)

    -- The next window starts at n + 1 at most: i + edges left + 1 ≤ n + 1.
    pub windows_next_le : i + unread r + 1 ≤ n + 1
    windows_next_le = omega (arith, reads_fit.1)

    -- The looks so far are at most 256 for each place before the next start.
    pub windows_looks_le : looks + r.looks ≤ most_counts * (i + unread r + 1)
    windows_looks_le = omega (arith, known.looks_le, reads_fit.0, known.can.most)

    -- If the window was not stopped it is the candidate, and returning there meets the contract.
    pub windows_stop : r.stopped_at ≡ None
        → record { start = record { 0 = i }; looks = looks + r.looks; next = Some (record { 0 = i + 1 }) } ≡ windows_by ring table p k from
    unfolding windows_on
    windows_stop goes_on = rw (add-zero i) at (rw ((fits_line_iff ring line i).1 in_line, is_read, goes_on) at from_here)

    -- If the window was stopped with `left` edges unread, the invariant holds at the next start.
    pub windows_turn : {left : ℕ} → r.stopped_at ≡ Some left → StillWindows ring table p k from (i + (left + 1)) (looks + r.looks)
    unfolding windows_on
    windows_turn {left} stop =
        let left_is : unread r ≡ left = ap unread_from stop in
        let next : i + unread r + 1 ≡ i + (left + 1) = omega arith in
        record {
          can = known.can;
          left = known.left - 1;
          enough = omega (arith, known.enough);
          start_le = rw next at windows_next_le;
          looks_le = rw next at windows_looks_le;
          still = rw next at (rw ((fits_line_iff ring line i).1 in_line, is_read, ap is_some stop) at from_here);
        }

-- How far reading at most `left` windows goes: to a start of at most n + 1, with at most 256 looks for each window.
pub record WindowsGo (n looks left : ℕ) (to : WindowsRead) : Type 0 where
  pub start_le : to.start.0 ≤ n + 1
  pub looks_le : to.looks ≤ looks + most_counts * left

module _ (ring : List ℕ) (table : EdgeVectors) (p : Parts) (k from : ℕ) (can : CanReadWindows (length ring) (length (whole_line (length ring) p)) from) where
  abbrev line' : List ℕ
  line' = whole_line (length ring) p

  windows_go : (left i looks : ℕ) → i ≤ length line' + 1 → WindowsGo (length line') looks left (windows_on ring table p k left i looks)
  unfolding windows_on
  windows_go zero i looks l = record { start_le = l; looks_le = omega arith }
  windows_go (suc left) i looks l =
      by_test (WindowsGo (length line') looks (suc left)) (fits_in_line ring line' i)
      (λ e.
      let in_line = (fits_line_iff ring line' i).0 e in
      let r : WindowRead = read_by table (window_of (length ring) p i) k in
      let reads = window_reads table k can.some_edge in_line (record { is = refl }) in
      by_test (WindowsGo (length line') looks (suc left)) (is_some r.stopped_at)
      (λ _.
      let later = windows_go left (i + unread r + 1) (looks + r.looks) (omega (arith, reads.1)) in
      record { start_le = later.start_le; looks_le = omega (arith, later.looks_le, reads.0, can.most) })
      (λ _. record { start_le = l; looks_le = omega (arith, reads.0, can.most) }))
      (λ _. record { start_le = l; looks_le = omega arith })

  -- Reading windows from `from` on ends at a start of at most n + 1, with at most 256·(n + 1 − from) looks.
  pub windows_within : WindowsGo (length line') 0 (length line' + 1 - from) (windows_by ring table p k from)
  windows_within = windows_go (length line' + 1 - from) from 0 can.start_le
