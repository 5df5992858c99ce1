-- Rules 1 to 3 for one window. The code reads a window as a line of its own, at start 0; by `alone_reading` of crates/meaning this is the same as reading it in the
-- line. `read_by` of Reads is what the code computes with any table. `read_by_rules` in proofs/ReadByRules.antt proves that with the own vectors of a ring without marks it is what the
-- rules give.
use Rattle.std.specs.Prelude.{ℕ, ◌+◌, ◌≤◌, ◌<◌, ◌≡◌, false, List, length}
use Rattle.std.specs.Option.{is_some}
use Rattle.meaning.specs.Meanings.{holds_mark}
use Rattle.meaning.specs.Rules.{is_stopped, read_window}
use Rattle.occurrences.specs.declared.table.EdgeVectors.{EdgeVectors}
use Rattle.occurrences.specs.Storing.{Occurrences}
use Rattle.tally.specs.Counts.{most_counts}
use Rattle.sweep.specs.declared.reading.WindowRead.{WindowRead}
use Rattle.sweep.specs.Reads.{unread}

-- The ring has 1 to 256 edges and holds no mark, and `table` holds its occurrence vectors.
pub record OwnVectors (ring : List ℕ) (table : EdgeVectors) : Type 0 where
  pub some_edge : 0 < length ring
  pub most : length ring ≤ most_counts
  pub no_mark : holds_mark ring ≡ false
  pub occurs : Occurrences ring table

-- r is the result of reading the window by rules 1 to 3: one look for each edge read, the number of edges left unread, and whether the window was stopped, at break
-- k + 1 or at a mark.
pub record IsWindowRead (ring window : List ℕ) (k : ℕ) (r : WindowRead) : Type 0 where
  pub read_is : r.looks ≡ (read_window ring window k 0).read
  pub left_is : r.looks + unread r ≡ length ring
  pub stopped_is : is_some r.stopped_at ≡ is_stopped k (read_window ring window k 0)
