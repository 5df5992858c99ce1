-- Document 01 as it read before document 02, ticket 2: no byte is a mark, so every place where a window fits in the line is a start, and every edge read is held
-- or is a break. No contract uses these definitions. `WithoutMarks` of proofs/ shows that on a line without marks all answers are still what they give.
--
--   found_before, below_before, findings_before   the finding at a place, those below a place, and all
--   edge_before, left_before, window_before       an edge read; the edges left; a window
--   windows_before, candidates_before             the windows read from a place on; the starts of those that are candidates
--   quick_looks_before                            the looks of the quick scan
use Rattle.std.specs.Prelude.{ℕ, zero, suc, ◌+◌, cond, ◌&&◌, List, [], ◌∷◌, ◌++◌, ltb, leb, eqb, length}
use Rattle.std.specs.Prelude.{None}
use Rattle.meaning.specs.Meanings.{fits_in_line, window_edge, least_distance}
use Rattle.meaning.specs.Findings.{Finding, finding_at}
use Rattle.meaning.specs.Stretch.{fits}
use Rattle.meaning.specs.Rules.{Reading, unread, grown_read, broken_read, next_start}
use Rattle.meaning.specs.Looks.{read_looks, verify_looks}

-- "A start i is a line place with i + m ≤ n." "A finding is a start whose least distance over all r is at most k."
unfoldable pub found_before : List ℕ → List ℕ → ℕ → ℕ → List Finding
found_before ring line k i =
    let found : List Finding = finding_at ring line i ∷ [] in
    cond (fits_in_line ring line i && leb (least_distance ring line i) k) found []

-- The findings at places below i, "by rising start".
unfoldable pub below_before : List ℕ → List ℕ → ℕ → ℕ → List Finding
below_before ring line k zero = []
below_before ring line k (suc i) = below_before ring line k i ++ found_before ring line k i

-- All findings.
abbrev pub findings_before : List ℕ → List ℕ → ℕ → List Finding
findings_before ring line k = below_before ring line k (length line)

-- Rule 2. "If the grown stretch doesn't fit the ring, that edge is a break".
unfoldable pub edge_before : List ℕ → ℕ → Reading → Reading
edge_before ring x w = cond (fits ring (x ∷ w.held)) (grown_read x w) (broken_read w)

-- Rules 1 and 3. "Stop at break k+1, or when all m edges are read."
unfoldable pub left_before : List ℕ → List ℕ → ℕ → ℕ → ℕ → Reading → Reading
left_before ring line k i zero w = w
left_before ring line k i (suc left) w =
    let further : Reading = left_before ring line k i left (edge_before ring (window_edge line i left) w) in
    cond (ltb k w.breaks) w further

-- The window at i, read until break k + 1 or until all m edges are read.
abbrev pub window_before : List ℕ → List ℕ → ℕ → ℕ → Reading
window_before ring line k i = left_before ring line k i (length ring) (unread i)

-- Rule 1. The windows read from place i on. The number before i is how many windows may still come.
unfoldable pub windows_before : List ℕ → List ℕ → ℕ → ℕ → ℕ → List Reading
windows_before ring line k zero i = []
windows_before ring line k (suc more) i =
    let w : Reading = window_before ring line k i in
    let onward : List Reading = w ∷ windows_before ring line k more (next_start ring w) in
    cond (fits_in_line ring line i) onward []

-- Rule 4. "A window with all m edges read and at most k breaks is a candidate."
unfoldable pub candidates_before : List ℕ → ℕ → List Reading → List ℕ
candidates_before ring k [] = []
candidates_before ring k (w ∷ ws) =
    cond (eqb w.read (length ring) && leb w.breaks k) (w.start ∷ candidates_before ring k ws) (candidates_before ring k ws)

-- "Looks are the sum over rules 1 and 5."
abbrev pub quick_looks_before : List ℕ → List ℕ → ℕ → ℕ
quick_looks_before ring line k =
    let ws : List Reading = windows_before ring line k (length line + 1) 0 in
    read_looks ws + verify_looks (length ring) None (candidates_before ring k ws)
