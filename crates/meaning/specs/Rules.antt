-- Document 01, "Rules of the quick scan", rules 1 to 4, and what document 02, ticket 2, says of marks. Rule 5 decides no finding: what verifying costs is
-- in Looks, and what a tally holds is in crates/tally. Each window begins with an empty stretch and no breaks.
-- `windows_from` takes a number that only bounds its recursion. To read the rules without it, take the two equations of proofs/WindowSteps for
-- `windows_at i`, the windows from place i on: `windows_step` (a window that fits in the line is read, then come the windows from the next start on)
-- and `windows_end` (where no window fits, none is read).
use Rattle.std.specs.Prelude.{ℕ, zero, suc, ◌+◌, ◌-◌, Bool, true, false, not, cond, ◌&&◌, ◌||◌, List, [], ◌∷◌, ◌++◌, ltb, eqb, length}
use Rattle.meaning.specs.Meanings.{fits_in_line, window_edge, is_mark}
use Rattle.meaning.specs.Findings.{Finding, found_at}
use Rattle.meaning.specs.Stretch.{fits}

-- How far a window is read: its start, how many edges are read, how many of them were breaks, the stretch held, and whether the last edge read was a mark.
pub record Reading : Type 0 where
  pub start : ℕ
  pub read : ℕ
  pub breaks : ℕ
  pub held : List ℕ
  pub at_mark : Bool

-- "A stretch is held, empty at first": the window at i before its first edge is read.
abbrev pub unread : ℕ → Reading
unread i = record { start = i; read = 0; breaks = 0; held = []; at_mark = false }

-- "that read is one look and no break" (document 02, ticket 2): the edge read is a mark. A mark is in no stretch.
abbrev pub mark_read : Reading → Reading
mark_read w = record { start = w.start; read = suc w.read; breaks = w.breaks; held = []; at_mark = true }

-- Rule 2. The stretch "grows to the left by each edge read".
abbrev pub grown_read : ℕ → Reading → Reading
grown_read x w = record { start = w.start; read = suc w.read; breaks = w.breaks; held = x ∷ w.held; at_mark = false }

-- Rule 2. "that edge is a break: count one and empty the stretch."
abbrev pub broken_read : Reading → Reading
broken_read w = record { start = w.start; read = suc w.read; breaks = suc w.breaks; held = []; at_mark = false }

-- An edge is read. Whether it is a mark is asked first. Then rule 2: "If the grown stretch doesn't fit the ring, that edge is a break".
unfoldable pub read_edge : List ℕ → ℕ → Reading → Reading
read_edge ring x w =
    let edge : Reading = cond (fits ring (x ∷ w.held)) (grown_read x w) (broken_read w) in
    cond (is_mark x) (mark_read w) edge

-- Rule 3, "Stop at break k+1", and document 02, ticket 2: "On reading a mark the quick scan leaves the window". Whether reading stops, with so many breaks and
-- with a mark as the last edge read or not.
abbrev pub stops_at : ℕ → ℕ → Bool → Bool
stops_at k breaks marked = ltb k breaks || marked

-- Whether the window is stopped there.
abbrev pub is_stopped : ℕ → Reading → Bool
is_stopped k w = stops_at k w.breaks w.at_mark

-- Rules 1 and 3. "read its edges from the last towards the first"; "Stop at break k+1, or when all m edges are read", and at a mark. The number before
-- w is how many edges of the window at i are still unread.
unfoldable pub read_left : List ℕ → List ℕ → ℕ → ℕ → ℕ → Reading → Reading
read_left ring line k i zero w = w
read_left ring line k i (suc left) w =
    let further : Reading = read_left ring line k i left (read_edge ring (window_edge line i left) w) in
    cond (is_stopped k w) w further

-- The window at i, read until break k + 1, until a mark, or until all m edges are read.
unfoldable pub read_window : List ℕ → List ℕ → ℕ → ℕ → Reading
read_window ring line k i = read_left ring line k i (length ring) (unread i)

-- Rule 3. "With j edges read, the next window starts m − j + 1 further on." Where the last edge read is a mark, that is "just past the mark" (document 02,
-- ticket 2), also for j = m.
abbrev pub next_start : List ℕ → Reading → ℕ
next_start ring w = w.start + (length ring - w.read + 1)

-- Rule 1. The windows read from place i on, "While a window fits in the line". The number before i is how many windows may still come. n + 1 is enough,
-- because each window starts after the one before it, at a place from 0 to n.
unfoldable pub windows_from : List ℕ → List ℕ → ℕ → ℕ → ℕ → List Reading
windows_from ring line k zero i = []
windows_from ring line k (suc more) i =
    let w : Reading = read_window ring line k i in
    let onward : List Reading = w ∷ windows_from ring line k more (next_start ring w) in
    cond (fits_in_line ring line i) onward []

-- Rule 1. "The first window starts at 0."
abbrev pub windows : List ℕ → List ℕ → ℕ → List Reading
windows ring line k = windows_from ring line k (length line + 1) 0

-- Rule 4. "A window with all m edges read and at most k breaks is a candidate": it was not stopped. A window left at a mark, be it
-- the last of its m edges, stays "unverified" (document 02, ticket 2).
abbrev pub is_candidate : List ℕ → ℕ → Reading → Bool
is_candidate ring k w = eqb w.read (length ring) && not (is_stopped k w)

-- The starts of the windows that are candidates.
unfoldable pub candidates_of : List ℕ → ℕ → List Reading → List ℕ
candidates_of ring k [] = []
candidates_of ring k (w ∷ ws) = cond (is_candidate ring k w) (w.start ∷ candidates_of ring k ws) (candidates_of ring k ws)

-- The candidates of a ring, a line and an allowance.
abbrev pub candidates : List ℕ → List ℕ → ℕ → List ℕ
candidates ring line k = candidates_of ring k (windows ring line k)

-- Rule 4. "Each candidate is verified, and reported if it is a finding."
unfoldable pub reported : List ℕ → List ℕ → ℕ → List ℕ → List Finding
reported ring line k [] = []
reported ring line k (i ∷ starts) = found_at ring line k i ++ reported ring line k starts

-- What rules 1 to 4 report.
abbrev pub quick_findings : List ℕ → List ℕ → ℕ → List Finding
quick_findings ring line k = reported ring line k (candidates ring line k)
