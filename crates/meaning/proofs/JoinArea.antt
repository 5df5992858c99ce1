-- The join area. For n ≥ m its first 2·m − 2 bytes are the closed line from place n − (m − 1) on (`join_ends`): the line's last m − 1 edges, then its first
-- m − 1. So the line followed by the second half is the closed line, and the windows that cross the line's end stand in the join area. Later bytes keep their
-- values, by the laws of `written`; for n < m all do.
use Prim.Native.Nat.{ℕ, ◌+◌, ◌-◌, ◌*◌, ◌≤◌, ◌<◌}
use mathlib.Core.Path.{◌≡◌, sym, ap, ◌∙◌}
use mathlib.Core.Logic.{⊎_elim}
use mathlib.Core.List.{List, ◌++◌}
use native.Mathlib.Omega.{arith}
use lib.ListN.{length, get_or, take, drop, length-append, length-drop}
use lib.Seq.{length-take-le, take-take, take_at, drop_at, drop-append-le, get_or-drop}
use borrow.Author.Tests.{le-leb, lt-leb}
use Rattle.lists.specs.Areas.{written}
use Rattle.lists.proofs.Areas.{written_length, written_rest, written_front}
use Rattle.lists.proofs.Cases.{le_or_lt}
use Rattle.meaning.specs.Closed.{closed_line, join_of, joined_with}
use Rattle.meaning.proofs.SameWindow.{SameWindow}
use Rattle.meaning.proofs.ClosedLine.{closed_long}

module _ (m : ℕ) (line : List ℕ) where
  -- where the line's last m − 1 edges begin
  abbrev from : ℕ
  from = length line - (m - 1)

  module _ (long : m ≤ length line) where
    -- there are m − 1 edges from there on
    lasts_length : length (drop from line) ≡ m - 1
    lasts_length = length-drop from line ∙ omega arith

    -- For n ≥ m the line's last m − 1 edges and its first m − 1 are 2·m − 2 edges.
    pub join_length : length (join_of m line) ≡ 2 * m - 2
    unfolding join_of
    join_length = length-append (drop from line) (take (m - 1) line) ∙ omega (arith, lasts_length, length-take-le (m - 1) line (omega arith))

    -- The first half of the join is "the line's last m−1 edges".
    pub join_lasts : take (m - 1) (join_of m line) ≡ drop (length line - (m - 1)) line
    unfolding join_of
    join_lasts = take_at (drop from line) (take (m - 1) line) (m - 1) lasts_length

    -- The second half of the join is the line's "first m−1".
    pub join_firsts : drop (m - 1) (join_of m line) ≡ take (m - 1) line
    unfolding join_of
    join_firsts = drop_at (drop from line) (take (m - 1) line) (m - 1) lasts_length

    -- The line followed by the m − 1 edges of the join behind its first m − 1 is the closed line.
    pub join_closes : line ++ take (m - 1) (drop (m - 1) (join_of m line)) ≡ closed_line m line
    join_closes =
        ap (λ (firsts : List ℕ). line ++ take (m - 1) firsts) join_firsts
        ∙ ap (λ (firsts : List ℕ). line ++ firsts) (take-take (m - 1) (m - 1) line (omega arith))
        ∙ sym (closed_long m line long)

    -- The join is the end of the closed line, from the line's last m − 1 edges on.
    pub join_ends : drop (length line - (m - 1)) (closed_line m line) ≡ join_of m line
    unfolding join_of
    join_ends = ap (drop from) (closed_long m line long) ∙ drop-append-le from line (take (m - 1) line) (omega arith)

    -- A window of the closed line that begins among the line's last m − 1 edges has the same edges in the join.
    pub join_window : (i : ℕ) → length line - (m - 1) ≤ i → SameWindow m (join_of m line) (i - (length line - (m - 1))) (closed_line m line) i
    join_window i h = record {
      edge_is = λ q l.
          let place : from + (i - from + q) ≡ i + q = omega arith in
          ap (λ (join : List ℕ). get_or join (i - from + q) 0) (sym join_ends)
          ∙ get_or-drop from (closed_line m line) (i - from + q) 0
          ∙ ap (λ (p : ℕ). get_or (closed_line m line) p 0) place;
    }

  module _ (join : List ℕ) where
    -- For n ≥ m the line's last and first m − 1 edges are written at the beginning of the join area.
    pub joined_long : m ≤ length line → joined_with m line join ≡ written (join_of m line) join
    unfolding joined_with
    joined_long long = rw (le-leb m (length line) long)

    -- For n < m "all of it" keeps its values.
    pub joined_short : length line < m → joined_with m line join ≡ join
    unfolding joined_with
    joined_short short = rw (lt-leb m (length line) short)

    -- The join area keeps its length, if it has 2·m − 2 bytes or n < m.
    pub joined_length : (m ≤ length line → 2 * m - 2 ≤ length join) → length (joined_with m line join) ≡ length join
    joined_length room =
        ⊎_elim
        (λ long. ap length (joined_long long) ∙ written_length (join_of m line) join (omega (arith, join_length long, room long)))
        (λ short. ap length (joined_short short))
        (le_or_lt m (length line))

    -- "The first 2·m − 2 bytes of the join area then hold the line's last m−1 edges and its first m−1".
    pub joined_first : m ≤ length line → take (2 * m - 2) (joined_with m line join) ≡ join_of m line
    joined_first long = written_front (join_of m line) join (joined_long long) (2 * m - 2) (join_length long)

    -- "later bytes .. keep their values": every byte from place 2·m − 2 on is what it was.
    pub joined_rest : (p : ℕ) → 2 * m - 2 ≤ p → get_or (joined_with m line join) p 0 ≡ get_or join p 0
    joined_rest p behind =
        ⊎_elim
        (λ long.
        let j : ℕ = p - length (join_of m line) in
        let place : length (join_of m line) + j ≡ p = omega (arith, join_length long) in
        ap (λ (area : List ℕ). get_or area p 0) (joined_long long)
        ∙ ap (λ (x : ℕ). get_or (written (join_of m line) join) x 0) (sym place)
        ∙ written_rest (join_of m line) join j
        ∙ ap (λ (x : ℕ). get_or join x 0) place)
        (λ short. ap (λ (area : List ℕ). get_or area p 0) (joined_short short))
        (le_or_lt m (length line))
