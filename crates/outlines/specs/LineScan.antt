-- Contracts of the private functions of src/quick.rt, which scan a line with a book. The report lends its own book, the scan an empty one.
--
--   CanScanLine    the precondition of `scan_line`
--   CanScan        the precondition of `scan_windows`
--   LineScanned    the contract of both
use Rattle.std.specs.Prelude.{ℕ, ◌≡◌, List, length}
use Rattle.std.specs.Prelude.{None}
use Rattle.lists.specs.Areas.{written}
use Rattle.meaning.specs.Findings.{findings, words_of}
use Rattle.meaning.specs.Looks.{quick_looks}
use Rattle.silences.specs.Reading.{book_refusal, silences_read}
use Rattle.occurrences.specs.declared.table.EdgeVectors.{EdgeVectors}
use Rattle.occurrences.specs.Storing.{Occurrences}
use Rattle.windows.specs.Windows.{Parts, whole_line, Joined}
use Rattle.tally.specs.Counts.{most_counts, IsDoubled}
use Rattle.findings.specs.Limits.{CanSearch}
use Rattle.outlines.specs.Report.{shown, hidden}

-- The precondition of `scan_line`: ring, allowance, whole line and words are within the limits, the join area is right, and the book is accepted.
pub record CanScanLine (ring : List ℕ) (p : Parts) (k : ℕ) (book words : List ℕ) : Type 0 where
  pub can_search : CanSearch ring k (length (whole_line (length ring) p)) (length words)
  pub joined : Joined (length ring) p
  pub book_read : book_refusal book ≡ None

-- The precondition of `scan_windows`: that of `scan_line`, and the ring's vectors, its double and 256 counts are lent. The counts may hold anything.
pub record CanScan (ring doubled : List ℕ) (table : EdgeVectors) (p : Parts) (k : ℕ) (book counts words : List ℕ) : Type 0 where
  pub can_scan : CanScanLine ring p k book words
  pub occurs : Occurrences ring table
  pub twice : IsDoubled ring doubled
  pub size : length counts ≡ most_counts

-- The contract of `scan_line` and `scan_windows`: found is the number of findings, `hid` the number of those that the book's silences hide, the looks are the
-- quick scan's, and the words of the shown findings are written.
pub record LineScanned (cell ring_number : ℕ) (ring line : List ℕ) (k : ℕ) (book words : List ℕ) (found hid looks : ℕ) (out : List ℕ) : Type 0 where
  pub found_is : found ≡ length (findings ring line k)
  pub hidden_is : hid ≡ length (hidden (silences_read book) cell ring_number (findings ring line k))
  pub looks_are : looks ≡ quick_looks ring line k
  pub words_are : out ≡ written (words_of (shown (silences_read book) cell ring_number (findings ring line k))) words
