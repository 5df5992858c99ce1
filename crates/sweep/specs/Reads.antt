-- What reading windows computes, on every input and with any table. The code holds a vector of one bit for each rotation in place of the stretch (source document
-- 003). With the vectors of a ring without marks, and a join area that is right, the result is what rules 1 to 3 give, `IsWindowRead` of ReadingRules and
-- `IsWindowsRead` of SweepRules, by `read_by_rules` and `windows_by_rules` of proofs/. Windows come from the line and its join area, the parts p; n is the length of
-- the whole line (specs/Windows.antt of crates/windows).
--
--   unread_from, unread                the edges that reading a window leaves unread
--   held_with                         the held vector after one more edge
--   read_on, read_with, read_by       one window: from a given point; from its last edge with a given number of words; with as few words as m bits need
--   none_left                         the result if no window fits in the line any more
--   windows_on, windows_by            window after window, to the next candidate: at most a given number of them; all from a given start
--   CanReadWindows                    the precondition of `read_windows`
use Rattle.std.specs.Prelude.{ℕ, zero, suc, ◌+◌, ◌-◌, ◌≤◌, ◌<◌, cond, List, length, get_or}
use Rattle.std.specs.Prelude.{Option, None, Some}
use Rattle.std.specs.Option.{is_some}
use Rattle.meaning.specs.Meanings.{fits_in_line, is_mark}
use Rattle.meaning.specs.Rules.{stops_at}
use Rattle.vectors.specs.Bits.{word_count, first_bits, no_bit}
use Rattle.vectors.specs.ByValue.{vector_words, grown_words}
use Rattle.occurrences.specs.declared.table.EdgeVectors.{EdgeVectors}
use Rattle.occurrences.specs.EdgeVectors.{vector_at}
use Rattle.windows.specs.Windows.{Parts, window_of, whole_line}
use Rattle.tally.specs.Counts.{most_counts}
use Rattle.findings.specs.Limits.{most_places}
use Rattle.sweep.specs.declared.reading.WindowRead.{WindowRead}
use Rattle.sweep.specs.declared.sweeping.WindowsRead.{WindowsRead}

-- The place where reading stopped; 0 if it did not.
abbrev pub unread_from : Option ℕ → ℕ
unread_from None = 0
unread_from (Some left) = left

-- The edges that reading a window leaves unread: those before the place where it stopped; none if it was not stopped.
abbrev pub unread : WindowRead → ℕ
unread r = unread_from r.stopped_at

-- The held vector after the edge at place `left` of the window is read: `held` grown by the edge's occurrence vector.
abbrev pub held_with : EdgeVectors → List ℕ → ℕ → ℕ → List ℕ → List ℕ
held_with table window words left held = grown_words (length window) words (vector_at table (get_or window left 0) words) held

-- The result of reading the edges before place `left`, given the held vector, the breaks and the looks so far. Rule 2: "If the grown stretch doesn't fit the ring,
-- that edge is a break: count one and empty the stretch." The grown vector has no bit at a break; for the empty stretch all m bits are set. Rule 3: "Stop at break
-- k+1, or when all m edges are read." And a mark is where "the quick scan leaves the window" (document 02, ticket 2): "one look and no break". Whether reading stops
-- is asked only where the grown vector has no bit, because a mark fits no ring of an accepted call; there an edge that is no mark is break `breaks + 1`.
unfoldable pub read_on : EdgeVectors → List ℕ → ℕ → ℕ → ℕ → List ℕ → ℕ → ℕ → WindowRead
read_on table window k words zero held breaks looks = record { looks = looks; stopped_at = None }
read_on table window k words (suc left) held breaks looks =
    let next : List ℕ = held_with table window words left held in
    let stopped : WindowRead = record { looks = looks + 1; stopped_at = Some left } in
    let emptied : WindowRead = read_on table window k words left (first_bits (length window) vector_words) (breaks + 1) (looks + 1) in
    let grown : WindowRead = read_on table window k words left next breaks (looks + 1) in
    let unfit : WindowRead = cond (stops_at k (breaks + 1) (is_mark (get_or window left 0))) stopped emptied in
    cond (no_bit next words) unfit grown

-- Rule 1: "read its edges from the last towards the first". At first all m bits are set, because the empty stretch is the beginning of every rotation. `words` is
-- the number of machine words of a vector, of the held one and of the edges' occurrence vectors.
abbrev pub read_with : EdgeVectors → List ℕ → ℕ → ℕ → WindowRead
read_with table window k words = read_on table window k words (length window) (first_bits (length window) vector_words) 0 0

-- The window read with as few words as m bits need.
abbrev pub read_by : EdgeVectors → List ℕ → ℕ → WindowRead
read_by table window k = read_with table window k (word_count (length window))

-- The result if no window fits in the line at place i: no candidate, and so no window after it.
abbrev pub none_left : ℕ → ℕ → WindowsRead
none_left i looks = record { start = record { 0 = i }; looks = looks; next = None }

-- The result of reading at most `left` windows from start i on, up to the next candidate, with the looks so far. Rule 1: "While a window fits in the line". Rule 3:
-- "With j edges read, the next window starts m − j + 1 further on." Rule 4: "A window with all m edges read and at most k breaks is a candidate." All edges of a
-- window that was not stopped are read, so only this is tested.
unfoldable pub windows_on : List ℕ → EdgeVectors → Parts → ℕ → ℕ → ℕ → ℕ → WindowsRead
windows_on ring table p k zero i looks = none_left i looks
windows_on ring table p k (suc left) i looks =
    let read : WindowRead = read_by table (window_of (length ring) p i) k in
    let found : WindowsRead = record { start = record { 0 = i }; looks = looks + read.looks; next = Some (record { 0 = i + unread read + 1 }) } in
    let later : WindowsRead = windows_on ring table p k left (i + unread read + 1) (looks + read.looks) in
    let tried : WindowsRead = cond (is_some read.stopped_at) later found in
    let none : WindowsRead = none_left i looks in
    cond (fits_in_line ring (whole_line (length ring) p) i) tried none

-- The windows from start `from` on, up to the next candidate. Each window starts past the one before, so there are at most n + 1 − from of them.
abbrev pub windows_by : List ℕ → EdgeVectors → Parts → ℕ → ℕ → WindowsRead
windows_by ring table p k from = windows_on ring table p k (length (whole_line (length ring) p) + 1 - from) from 0

-- Precondition of `read_windows`: the ring has 1 to 256 edges, the line fewer than 2^32, and the start is at most n + 1.
pub record CanReadWindows (m n from : ℕ) : Type 0 where
  pub some_edge : 0 < m
  pub most : m ≤ most_counts
  pub most_line : n < most_places
  pub start_le : from ≤ n + 1
