-- The window at a place: the contract of the function `window`, on every line, join area, place and m. "Windows that cross come from a lent join area, the others
-- from the line itself, and the caller gets the part that applies" (document 02, ticket 3). Everything above `window` goes by one list, the whole line, so it is
-- proved once for lines that are searched open and for lines that are searched closed.
--
--   window_at     the window at a place of the line or of the join area
--   Parts, parts  the two parts that windows come from: the line and the join area
--   parts_of      the parts that a `LineParts` lends
--   crosses       whether a window crosses the line's end
--   window_of     the window at a place, out of the part that applies
--   whole_line    the line, followed by the m − 1 edges that the join area adds to it
--   Joined        the join area begins with the line's last m − 1 edges
--   IsWindow, IsWholeLength   the contracts of `window` and `whole_length`
--   IsPart        the contract of `part`
use Rattle.std.specs.Prelude.{ℕ, ◌+◌, ◌-◌, ◌≤◌, ◌≡◌, Bool, cond, ◌&&◌, List, [], ◌++◌, leb, ltb, length, take, drop}
use Rattle.meaning.specs.Meanings.{window}
use Rattle.windows.specs.declared.windows.LineParts.{LineParts}

-- "Its window is the m edges from i." If m edges from i on do not fit, the window is empty.
abbrev pub window_at : ℕ → List ℕ → ℕ → List ℕ
window_at m edges i = cond (leb (i + m) (length edges)) (window m edges i) []

-- The two parts that windows come from. A line that is searched open has an empty join area.
pub record Parts : Type 0 where
  pub line : List ℕ
  pub join : List ℕ

-- A line and a join area, as the two parts.
abbrev pub parts : List ℕ → List ℕ → Parts
parts line join = record { line = line; join = join }

-- The parts that the code's struct lends.
abbrev pub parts_of : LineParts → Parts
parts_of lent = parts lent.line.now lent.join.now

-- Whether the window of m edges at i crosses the end of a line of n edges: it begins in the line, which has room for a window, but not at i.
abbrev pub crosses : ℕ → ℕ → ℕ → Bool
crosses m n i = leb m n && (ltb (n - m) i && ltb i n)

-- The window at i: "Windows that cross come from a lent join area, the others from the line itself" (document 02, ticket 3). The join area's place 0 is the
-- line's place n − m + 1.
unfoldable pub window_of : ℕ → Parts → ℕ → List ℕ
window_of m p i =
    let n : ℕ = length p.line in
    cond (crosses m n i) (window_at m p.join (i - (n - m) - 1)) (window_at m p.line i)

-- The whole line that windows are taken from: the line, followed by the m − 1 edges that the join area holds behind its first m − 1, or by as many of them as it
-- holds. The line alone for m = 0, or if no window fits in it.
unfoldable pub whole_line : ℕ → Parts → List ℕ
whole_line m p = cond (ltb 0 m && leb m (length p.line)) (p.line ++ take (m - 1) (drop (m - 1) p.join)) p.line

-- The join area is right: if some window may cross, the area's first m − 1 edges are the line's last m − 1.
pub record Joined (m : ℕ) (p : Parts) : Type 0 where
  pub lasts : m ≤ length p.line → m ≤ length p.join → take (m - 1) p.join ≡ drop (length p.line - (m - 1)) p.line

-- The contract of `window`: i is the number of the line place, `edges` the returned part of the line or of the join area.
pub record IsWindow (p : Parts) (i m : ℕ) (edges : List ℕ) : Type 0 where
  pub is : edges ≡ window_of m p i

-- The contract of `whole_length`, which returns r.
pub record IsWholeLength (m : ℕ) (p : Parts) (r : ℕ) : Type 0 where
  pub is : r ≡ length (whole_line m p)

-- From here on: the contract of a private function.

-- The contract of `part`: the returned part is the window at i of these edges, the line's or the join area's.
pub record IsPart (edges : List ℕ) (i m : ℕ) (r : List ℕ) : Type 0 where
  pub is : r ≡ window_at m edges i
