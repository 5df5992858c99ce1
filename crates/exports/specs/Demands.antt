-- The three demands on the calls, stated for what a C caller gets: the struct of five numbers, six from the two-way scan, and the lent areas at exit. Read this
-- page beside document 01 and tickets 1 to 4, 6 and 7 of document 02. Nothing here says how a call works. proofs/SearchDemands.antt (survey and scan),
-- proofs/ReportDemands.antt, proofs/ClosedDemands.antt (the three on a closed line), proofs/TwoWayDemands.antt, proofs/BookDemands.antt and proofs/ImportDemands.antt
-- prove that each call meets its demands.
--
--   Row, row_of, FirstRow, NoRow                a row of the table of refusals; the first row that is given; no row is given
--   ring_table, limit_table                     rows 1, 12, 2, with which every search begins; the same and row 3
--   search_table, book_table, report_table,     the rows of each call in its order, "Given exactly when"
--   closed_search_table, closed_report_table,
--   two_way_table, unpack_table, pack_table,
--   import_table
--   ByTable                                     accepted, or refused by the first row that is given
--   Demand1                                     the same, and a refusal has 0 in every count and writes nothing
--   BookHides, NeverHidden                      which findings a book hides
--   Demand2                                     which findings are written, and which are hidden
--   UnpackDemand2, PackDemand2                  books: what is accepted, and what is written
--   GivesBack, ReadsBack                        unpacking gives back what was packed; packing what was unpacked reads back the same, up to 1,000 records
--   ImportDemand2                               vertices: the edges that are written
--   Demand3                                     the looks of scan and report, and of each pass of the two-way scan
--   JoinDemand, ClosedDemand2,                  a closed line: the join area at exit, and demands 2 and 3
--   ClosedDemand3
--   TwoWayDemand1, PassDemand2,                 the two-way scan: demand 1; demand 2 on one pass, and on both
--   TwoWayDemand2
--   SurveyMeets, ScanMeets, ReportMeets,        the demands on each call
--   SurveyClosedMeets, ScanClosedMeets,
--   ReportClosedMeets, TwoWayMeets,
--   UnpackMeets, PackMeets, ImportMeets
--   SurveyScanSame                              survey and scan give the same findings
--   PassIsScan                                  a pass of the two-way scan gives what the scan for its ring gives
--
-- The theorems require that a book's numbers are below 256 and that words are below 2^32. A C caller's types guarantee both.
use Rattle.std.specs.Prelude.{ℕ, ◌+◌, ◌-◌, ◌*◌, ◌/◌, ◌%◌, ◌≤◌, ◌<◌, ◌≡◌, ◌↔◌, ◌⊎◌, ℤ, ◌-ℤ◌, length, get_or, take, drop}
use mathlib.Core.List.{List, [], ◌∷◌, ◌++◌, Memᴰ}
use Rattle.lists.specs.Areas.{written}
use Rattle.meaning.specs.Meanings.{HoldsMark, IsStart, distance}
use Rattle.meaning.specs.Findings.{Finding, IsFinding, Rising, words_of}
use Rattle.meaning.specs.Looks.{quick_looks}
use Rattle.meaning.specs.Closed.{closed_line, IsClosedStart, closed_distance, IsClosedFinding}
use Rattle.silences.specs.Silences.{Silence, Hides}
use Rattle.silences.specs.Layout.{layout}
use Rattle.silences.specs.Books.{LaidDown, NoTag21, IsBook}
use Rattle.silences.specs.Packing.{silences_of, words_of_silences}
use Rattle.silences.specs.Faults.{IsFieldFault, IsOrderFault, IsNumberFault, IsRecordFault, IsPackable}
use Rattle.reversal.specs.Reversing.{reversed_ring}
use Rattle.vertices.specs.Steps.{IsCodeOf}
use Rattle.vertices.specs.Boundary.{vertex_at, IsFirstEqualPair}
use Rattle.exports.specs.declared.answering.Answer.{Answer as AnswerStruct}
use Rattle.exports.specs.declared.two_way_scan.TwoWayAnswer.{TwoWayAnswer}

-- A row of a call: `r number place` says that the row is given, with this number and this place.
abbrev pub Row : Type 1
Row = ℕ → ℕ → Type 0

-- A row with one number and place 0: it is given exactly when the condition holds.
abbrev pub row_of : ℕ → Type 0 → Row
row_of its_number condition number place = (number ≡ its_number) × (place ≡ 0) × condition

-- This number and place are those of the first row that is given: that row holds of them, and no row before it holds of any.
unfoldable pub FirstRow : List Row → ℕ → ℕ → Type 0
FirstRow [] number place = ⊥
FirstRow (r ∷ rows) number place = r number place ⊎ (((n p : ℕ) → r n p → ⊥) × FirstRow rows number place)

-- No row is given, whatever the number and the place.
unfoldable pub NoRow : List Row → Type 0
NoRow [] = Unit {0}
NoRow (r ∷ rows) = ((n p : ℕ) → r n p → ⊥) × NoRow rows

-- The rows that the ring, m edges long, and the allowance k decide, with which every search begins: 1, 2, and 12 "after 1 and before 2" (document 02, ticket 2).
abbrev pub ring_table : List ℕ → ℕ → List Row
ring_table ring k =
    -- "m = 0 or m > 256"
    row_of 1 ((length ring ≡ 0) ⊎ (256 < length ring))
    -- "a ring holding 255" (document 02, ticket 2)
    ∷ row_of 12 (HoldsMark ring)
    -- "k ≥ m"
    ∷ row_of 2 (length ring ≤ k)
    ∷ []

-- The same, then row 3 for a line of n bytes.
abbrev pub limit_table : List ℕ → ℕ → ℕ → List Row
limit_table ring k n =
    ring_table ring k
    -- "n > 65,536"
    ++ row_of 3 (65536 < n)
    ∷ []

-- "Order: survey and scan 1 to 4": with `room` words lent for findings.
abbrev pub search_table : List ℕ → ℕ → ℕ → ℕ → List Row
search_table ring k n room =
    limit_table ring k n
    -- "n ≥ m and fewer than" 4·(n − m + 1) "words are lent for findings"; document 01 has 3·(n − m + 1), and document 02, ticket 1, makes it 4
    ++ row_of 4 ((length ring ≤ n) × (room < 4 * (n - length ring + 1)))
    ∷ []

-- Survey and scan on a closed line (document 02, ticket 3): with `room` words lent for findings and `joins` bytes for the join.
abbrev pub closed_search_table : List ℕ → ℕ → ℕ → ℕ → ℕ → List Row
closed_search_table ring k n room joins =
    limit_table ring k n
    -- "findings room is 4·n words"; "in this mode 4 uses that figure"
    ++ row_of 4 ((length ring ≤ n) × (room < 4 * n))
    -- "10, after 4, is given when the join area is below 2·m − 2 bytes and n ≥ m"
    ∷ row_of 10 ((length ring ≤ n) × (joins < 2 * length ring - 2))
    ∷ []

-- The two-way scan (document 02, ticket 6): with `room` words lent for the findings of both passes.
abbrev pub two_way_table : List ℕ → ℕ → ℕ → ℕ → List Row
two_way_table ring k n room =
    ring_table ring k
    -- "14, a ring code above 247, place the first such ring place, after 2": the code at this place is above 247, and none before it is
    ++ (λ number place. (number ≡ 14) × ((place < length ring) × (247 < get_or ring place 0) × ((q : ℕ) → q < place → get_or ring q 0 ≤ 247)))
    -- "n > 65,536"
    ∷ row_of 3 (65536 < n)
    -- "n ≥ m and fewer than" 8·(n − m + 1) "words are lent for findings": "4 asks room for both passes, 8·(n − m + 1) words"
    ∷ row_of 4 ((length ring ≤ n) × (room < 8 * (n - length ring + 1)))
    ∷ []

-- Rows 5, 6 and 7 of a book that is read. "Within a book the first faulty field decides, 6 before 7": a fault requires that all fields before it are right.
abbrev pub book_table : List ℕ → List Row
book_table book =
    -- "book longer than" 15,000 "bytes": "5 at 15,000 bytes" (document 02, ticket 4)
    row_of 5 (15000 < length book)
    -- "a field isn't 13 bytes beginning 21 00 0A hex, or is cut off", where "6 admits both fields" (document 02, ticket 4); or "a record isn't above the one
    -- before it"; "its byte offset"
    ∷ (λ number place. ((number ≡ 6) × IsFieldFault book place) ⊎ ((number ≡ 7) × IsOrderFault book place))
    ∷ []

-- "report 1 to 7", with 12 after 1: the rows of a search, then those of the book.
abbrev pub report_table : List ℕ → ℕ → ℕ → ℕ → List ℕ → List Row
report_table ring k n room book = search_table ring k n room ++ book_table book

-- The report on a closed line: the rows of a search on a closed line, then those of the book.
abbrev pub closed_report_table : List ℕ → ℕ → ℕ → ℕ → ℕ → List ℕ → List Row
closed_report_table ring k n room joins book = closed_search_table ring k n room joins ++ book_table book

-- "unpacker 5, 6, 7, 10": with room for `room` words.
abbrev pub unpack_table : List ℕ → ℕ → List Row
unpack_table book room =
    book_table book
    -- "packing or unpacking lacks room for its whole output"
    ++ row_of 10 ((ss : List Silence) × IsBook ss book × (room < length (words_of_silences ss)))
    ∷ []

-- "packer 8, then each record 9 before 7, then 10": with room for `room` bytes.
abbrev pub pack_table : List ℕ → ℕ → List Row
pack_table words room =
    -- "words to pack aren't a multiple of" 4, "or exceed" 4,000: "8 a multiple of 4, at most 4,000" (document 02, ticket 4)
    row_of 8 ((length words % 4 ≡ 0 → ⊥) ⊎ (4000 < length words))
    -- "a ring number to pack is above 65,535", "9 also for a ceiling above 65,535" (document 02, ticket 4); or "a record isn't above the one before it";
    -- "record number"
    ∷ (λ number place. ((number ≡ 9) × IsNumberFault words place) ⊎ ((number ≡ 7) × IsRecordFault words place))
    -- "packing or unpacking lacks room for its whole output"
    ∷ row_of 10 (room < length (layout (silences_of words)))
    ∷ []

-- "Refusals: 15 .. 16 .. 10 for room; in that order" (document 02, ticket 7): for the numbers of a boundary's vertices, with room for `room` bytes.
abbrev pub import_table : List ℤ → ℕ → List Row
import_table numbers room =
    -- "an odd count of numbers, or fewer than 3 or more than 4,096 vertices, place 0"
    row_of 15 ((length numbers % 2 ≡ 1) ⊎ ((length numbers / 2 < 3) ⊎ (4096 < length numbers / 2)))
    -- "two equal neighbours, place the first of the earliest pair, from 0 (the last vertex for the closing pair)"
    ∷ (λ number place. (number ≡ 16) × IsFirstEqualPair numbers place)
    -- "10 for room": fewer bytes are lent than there are vertices
    ∷ row_of 10 (room < length numbers / 2)
    ∷ []

-- Demand 1 on an answer's refusal and place: a call is accepted, or refused with a number of the table under exactly the condition given there. `rows` are the
-- call's rows.
pub record ByTable (rows : List Row) (refusal at : ℕ) : Type 0 where
  -- The refusal is 0 exactly when no row is given, and then the place is 0.
  pub accepted_iff : (refusal ≡ 0) ↔ NoRow rows
  pub accepted_place : refusal ≡ 0 → at ≡ 0
  -- Refusal and place are those of the first row that is given, and of no other.
  pub refused_iff : (number place : ℕ) → FirstRow rows number place ↔ ((0 < number) × (refusal ≡ number) × (at ≡ place))

-- Demand 1: a call is accepted or refused by the table; a refusal has zero in every count and writes nothing. `area` is the call's lent area at entry and `out`
-- the same area at exit.
pub record Demand1 (rows : List Row) (r : AnswerStruct) (area out : List ℕ) : Type 0 where
  pub by_table : ByTable rows r.refusal r.place
  -- "zero in every count"
  pub no_found : 0 < r.refusal → r.found ≡ 0
  pub no_hidden : 0 < r.refusal → r.hidden ≡ 0
  pub no_looks : 0 < r.refusal → r.looks ≡ 0
  -- "writes nothing to any lent area"
  pub untouched : 0 < r.refusal → out ≡ area

-- "It hides a finding at its address only up to that distance, and demand 2 reads so" (document 02, ticket 4). The book's bytes are a book of silences, and one
-- of these has this cell, ring number and start, and a ceiling of at least this distance.
pub record BookHides (book : List ℕ) (cell ring_number start distance : ℕ) : Type 0 where
  pub silences : List Silence
  pub is_book : IsBook silences book
  pub hides : Hides silences cell ring_number start distance

-- Survey and scan have no book: nothing is hidden.
abbrev pub NeverHidden : ℕ → ℕ → Type 0
NeverHidden start distance = ⊥

-- Demand 2 on an accepted survey, scan or report: it writes exactly the findings that the book does not hide. `Hidden` says which starts and distances it
-- hides.
pub record Demand2 (Hidden : ℕ → ℕ → Type 0) (ring line : List ℕ) (k : ℕ) (words : List ℕ) (r : AnswerStruct) (out : List ℕ) : Type 0 where
  pub shown : List Finding
  pub hidden : List Finding
  -- A start ("a window holding" a mark "isn't a start", document 02, ticket 2) is among the shown or the hidden exactly when some rotation differs from its
  -- window in at most k places.
  pub start_iff : (i : ℕ)
      → ((f : Finding) × (f.start ≡ i) × (Memᴰ f shown ⊎ Memᴰ f hidden))
      ↔ (IsStart ring line i × ((q : ℕ) × (q < length ring) × (distance ring line i q ≤ k)))
  -- A finding is among the shown exactly when the book does not hide it; by `IsFinding` it carries "the least distance, and the lowest r that reaches it", and
  -- ties, "how many rotations reach the least distance" (document 02, ticket 1).
  pub shown_iff : (f : Finding) → Memᴰ f shown ↔ (IsFinding ring line k f × (Hidden f.start f.distance → ⊥))
  -- A finding is among the hidden exactly when the book hides its start at its distance.
  pub hidden_iff : (f : Finding) → Memᴰ f hidden ↔ (IsFinding ring line k f × Hidden f.start f.distance)
  -- "by rising start": so none is listed twice.
  pub shown_rising : Rising 0 (length line) shown
  pub hidden_rising : Rising 0 (length line) hidden
  -- "found (hidden ones included), hidden"
  pub found_is : r.found ≡ length shown + length hidden
  pub hidden_is : r.hidden ≡ length hidden
  -- The words of the shown findings stand first. "Words after the last one written keep their values."
  pub words_are : out ≡ written (words_of shown) words

-- Demand 2 on unpacking: a book is accepted exactly when it lays down ascending silences in range in at most 15,000 bytes, and there is room for their words.
pub record UnpackDemand2 (book area : List ℕ) (r : AnswerStruct) (out : List ℕ) : Type 0 where
  pub accepted_iff : (r.refusal ≡ 0) ↔ ((ss : List Silence) × IsBook ss book × (length (words_of_silences ss) ≤ length area))
  -- "return the number of records and leave room beyond their output unwritten"
  pub found_is : (ss : List Silence) → IsBook ss book → r.refusal ≡ 0 → r.found ≡ length ss
  pub words_are : (ss : List Silence) → IsBook ss book → r.refusal ≡ 0 → out ≡ written (words_of_silences ss) area

-- Demand 2 on packing: words are accepted exactly when they are silences that can be packed and there is room for their layout; the layout, a book, is written.
pub record PackDemand2 (words area : List ℕ) (r : AnswerStruct) (out : List ℕ) : Type 0 where
  pub accepted_iff : (r.refusal ≡ 0) ↔ (IsPackable words × (length (layout (silences_of words)) ≤ length area))
  pub found_is : r.refusal ≡ 0 → r.found ≡ length (silences_of words)
  pub book_is : r.refusal ≡ 0 → IsBook (silences_of words) (layout (silences_of words))
  pub bytes_are : r.refusal ≡ 0 → out ≡ written (layout (silences_of words)) area

-- Demand 2 on an accepted import of vertices: "Only edge bytes come out, one per vertex". Edge i leads from vertex i to the one that follows, the last edge from
-- the last vertex to the first. By `IsCodeOf` it has the octant and the length class that ticket 7 gives for its steps north and east.
pub record ImportDemand2 (numbers : List ℤ) (area : List ℕ) (r : AnswerStruct) (out : List ℕ) : Type 0 where
  pub edges : List ℕ
  pub found_is : r.found ≡ length numbers / 2
  pub one_per_vertex : length edges ≡ length numbers / 2
  pub edge_is : (i : ℕ) → i < length numbers / 2
      → IsCodeOf ((vertex_at numbers ((i + 1) % (length numbers / 2))).north -ℤ (vertex_at numbers i).north)
      ((vertex_at numbers ((i + 1) % (length numbers / 2))).east -ℤ (vertex_at numbers i).east) (get_or edges i 0)
  -- Later bytes keep their values.
  pub bytes_are : out ≡ written edges area

-- Demand 3 on the looks of an accepted scan or report, or of a pass of the two-way scan, for a ring of m edges: they are the steps of rules 1 to 5, within the
-- document's bound.
pub record Demand3 (m : ℕ) (ring line : List ℕ) (k looks : ℕ) : Type 0 where
  -- "Looks are the sum over rules 1 and 5."
  pub looks_are : looks ≡ quick_looks ring line k
  -- "For n ≥ m they are never above 3·m·n − 2·m·m + m, which is at most 3·m·n."
  pub looks_le : m ≤ length line → looks ≤ 3 * m * length line - 2 * m * m + m
  pub looks_most : looks ≤ 3 * m * length line
  -- "A line shorter than the ring is accepted: no start, no look, zero findings."
  pub no_looks : length line < m → looks ≡ 0

-- The join area of a call on a closed line at exit, `joined`; at entry it is `join` (document 02, ticket 3).
pub record JoinDemand (ring line join : List ℕ) (r : AnswerStruct) (joined : List ℕ) : Type 0 where
  -- A refusal "writes nothing to any lent area" (document 01).
  pub untouched : 0 < r.refusal → joined ≡ join
  -- "all of it for n < m" keeps its values.
  pub short : length line < length ring → joined ≡ join
  -- "The first 2·m − 2 bytes of the join area then hold the line's last m−1 edges and its first m−1; later bytes .. keep their values."
  pub long : r.refusal ≡ 0 → length ring ≤ length line
      → joined ≡ drop (length line - (length ring - 1)) line ++ (take (length ring - 1) line ++ drop (2 * length ring - 2) join)

-- Demand 2 on an accepted survey, scan or report on a closed line: as `Demand2`, for a line whose "edges continue from the beginning after the last"
-- (document 02, ticket 3).
pub record ClosedDemand2 (Hidden : ℕ → ℕ → Type 0) (ring line : List ℕ) (k : ℕ) (words : List ℕ) (r : AnswerStruct) (out : List ℕ) : Type 0 where
  pub shown : List Finding
  pub hidden : List Finding
  -- A start ("for n ≥ m every place 0 to n−1 without a mark in its window", none for n < m) is among the shown or the hidden exactly when some rotation differs
  -- from its window in at most k places.
  pub start_iff : (i : ℕ)
      → ((f : Finding) × (f.start ≡ i) × (Memᴰ f shown ⊎ Memᴰ f hidden))
      ↔ (IsClosedStart ring line i × ((q : ℕ) × (q < length ring) × (closed_distance ring line i q ≤ k)))
  -- A finding is among the shown exactly when the book does not hide it; by `IsClosedFinding` it carries the least distance, the lowest rotation that reaches
  -- it, and ties.
  pub shown_iff : (f : Finding) → Memᴰ f shown ↔ (IsClosedFinding ring line k f × (Hidden f.start f.distance → ⊥))
  -- A finding is among the hidden exactly when the book hides its start at its distance.
  pub hidden_iff : (f : Finding) → Memᴰ f hidden ↔ (IsClosedFinding ring line k f × Hidden f.start f.distance)
  -- "by rising start": so none is listed twice.
  pub shown_rising : Rising 0 (length line) shown
  pub hidden_rising : Rising 0 (length line) hidden
  -- "found (hidden ones included), hidden"
  pub found_is : r.found ≡ length shown + length hidden
  pub hidden_is : r.hidden ≡ length hidden
  -- The words of the shown findings stand first. "Words after the last one written keep their values."
  pub words_are : out ≡ written (words_of shown) words

-- Demand 3 on an accepted scan or report on a closed line: its looks are the steps of rules 1 to 5 on "the line followed by its first m−1 edges", and "The
-- look bound reads with n + m − 1 in place of n" (document 02, ticket 3).
pub record ClosedDemand3 (ring line : List ℕ) (k : ℕ) (r : AnswerStruct) : Type 0 where
  pub looks_are : r.looks ≡ quick_looks ring (closed_line (length ring) line) k
  pub looks_le : length ring ≤ length line
      → r.looks ≤ 3 * length ring * (length line + length ring - 1) - 2 * length ring * length ring + length ring
  pub looks_most : r.looks ≤ 3 * length ring * (length line + length ring - 1)
  -- "for n < m there are none, and no look"
  pub no_looks : length line < length ring → r.looks ≡ 0

-- Demand 1 on the two-way scan: as `Demand1`, with the counts of both passes.
pub record TwoWayDemand1 (rows : List Row) (r : TwoWayAnswer) (area out : List ℕ) : Type 0 where
  pub by_table : ByTable rows r.refusal r.place
  -- "zero in every count"
  pub no_forward_found : 0 < r.refusal → r.forward_found ≡ 0
  pub no_forward_looks : 0 < r.refusal → r.forward_looks ≡ 0
  pub no_backward_found : 0 < r.refusal → r.backward_found ≡ 0
  pub no_backward_looks : 0 < r.refusal → r.backward_looks ≡ 0
  -- "writes nothing to any lent area"
  pub untouched : 0 < r.refusal → out ≡ area

-- Demand 2 on one pass of an accepted two-way scan, "each as by demand 2 for that ring" (document 02, ticket 6). `listed` are the findings that the pass lists,
-- `found` is its count.
pub record PassDemand2 (ring line : List ℕ) (k : ℕ) (listed : List Finding) (found : ℕ) : Type 0 where
  -- A start is listed exactly when some rotation of that ring differs from its window in at most k places.
  pub start_iff : (i : ℕ)
      → ((f : Finding) × (f.start ≡ i) × Memᴰ f listed) ↔ (IsStart ring line i × ((q : ℕ) × (q < length ring) × (distance ring line i q ≤ k)))
  -- Exactly the findings of that ring are listed; by `IsFinding` each carries the least distance, the lowest rotation that reaches it, and ties.
  pub listed_iff : (f : Finding) → Memᴰ f listed ↔ IsFinding ring line k f
  -- "by rising start": so none is listed twice.
  pub rising : Rising 0 (length line) listed
  pub found_is : found ≡ length listed

-- Demand 2 on an accepted two-way scan: it "lists forward findings, then backward ones" (document 02, ticket 6). The forward pass is for the ring, the backward
-- pass for the reversed ring: "Reversed, the edges come in opposite order and each octant turns by 4 modulo 8, length class kept" (`reversed_ring`). So the rotation
-- of a backward finding counts on the reversed ring.
pub record TwoWayDemand2 (ring line : List ℕ) (k : ℕ) (words : List ℕ) (r : TwoWayAnswer) (out : List ℕ) : Type 0 where
  pub forward : List Finding
  pub backward : List Finding
  pub forward_pass : PassDemand2 ring line k forward r.forward_found
  pub backward_pass : PassDemand2 (reversed_ring ring) line k backward r.backward_found
  -- The forward findings' words stand first, and the backward findings' words right behind them. "Words after the last one written keep their values."
  pub words_are : out ≡ written (words_of forward ++ words_of backward) words

-- Demand 2 on packing and unpacking in turn: the second call gives back what the first was given (`given`). It accepts what the first wrote, counts as many
-- records, and its area at exit (`out`) begins with `given`.
pub record GivesBack (given : List ℕ) (first second : AnswerStruct) (out : List ℕ) : Type 0 where
  pub accepted : second.refusal ≡ 0
  pub found_is : second.found ≡ first.found
  pub front_is : take (length given) out ≡ given

-- Demand 2 on unpacking and packing in turn, for a book of at most 1,000 records: "the round trip is then of values, and of bytes where tag 21 is absent"
-- (document 02, ticket 4). The second call accepts the words that the first wrote and counts as many records. Its area at exit (`out`) begins with a book of
-- the same silences, and with the same bytes if no field of `book` has tag 21.
pub record ReadsBack (book : List ℕ) (first second : AnswerStruct) (out : List ℕ) : Type 0 where
  pub accepted : second.refusal ≡ 0
  pub found_is : second.found ≡ first.found
  pub silences : List Silence
  pub was_book : IsBook silences book
  pub front : List ℕ
  pub front_length : length front ≡ 15 * second.found
  pub front_is : take (length front) out ≡ front
  pub is_book : IsBook silences front
  pub same_bytes : LaidDown NoTag21 silences book → front ≡ book

-- The demands on `outlines_survey`. "2·m·n − m·m looks for n ≥ m, else 0", and with marks in the line "its looks stay" (document 02, ticket 2).
pub record SurveyMeets (ring line : List ℕ) (k : ℕ) (words : List ℕ) (r : AnswerStruct) (out : List ℕ) : Type 0 where
  pub demand_1 : Demand1 (search_table ring k (length line) (length words)) r words out
  pub demand_2 : r.refusal ≡ 0 → Demand2 NeverHidden ring line k words r out
  pub looks_are : r.refusal ≡ 0 → length ring ≤ length line → r.looks ≡ 2 * length ring * length line - length ring * length ring
  pub no_looks : r.refusal ≡ 0 → length line < length ring → r.looks ≡ 0

-- The demands on `outlines_scan`.
pub record ScanMeets (ring line : List ℕ) (k : ℕ) (words : List ℕ) (r : AnswerStruct) (out : List ℕ) : Type 0 where
  pub demand_1 : Demand1 (search_table ring k (length line) (length words)) r words out
  pub demand_2 : r.refusal ≡ 0 → Demand2 NeverHidden ring line k words r out
  pub demand_3 : r.refusal ≡ 0 → Demand3 (length ring) ring line k r.looks

-- Demand 3: the quick scan lists exactly the survey's findings. For the same ring, line, allowance and lent words, survey and scan return the same refusal,
-- place and found, and leave the same words.
pub record SurveyScanSame (survey scan : AnswerStruct) (survey_out scan_out : List ℕ) : Type 0 where
  pub refusal_is : scan.refusal ≡ survey.refusal
  pub place_is : scan.place ≡ survey.place
  pub found_is : scan.found ≡ survey.found
  pub words_are : scan_out ≡ survey_out

-- The demands on `outlines_report`.
pub record ReportMeets (cell ring_number : ℕ) (ring line : List ℕ) (k : ℕ) (book words : List ℕ) (r : AnswerStruct) (out : List ℕ) : Type 0 where
  pub demand_1 : Demand1 (report_table ring k (length line) (length words) book) r words out
  pub demand_2 : r.refusal ≡ 0 → Demand2 (BookHides book cell ring_number) ring line k words r out
  pub demand_3 : r.refusal ≡ 0 → Demand3 (length ring) ring line k r.looks

-- The demands on `outlines_survey_closed`. Its looks are the survey's for n + m − 1 edges: 2·m·(n + m − 1) − m·m for n ≥ m, else 0.
pub record SurveyClosedMeets (ring line : List ℕ) (k : ℕ) (join words : List ℕ) (r : AnswerStruct) (joined out : List ℕ) : Type 0 where
  pub demand_1 : Demand1 (closed_search_table ring k (length line) (length words) (length join)) r words out
  pub join_area : JoinDemand ring line join r joined
  pub demand_2 : r.refusal ≡ 0 → ClosedDemand2 NeverHidden ring line k words r out
  pub looks_are : r.refusal ≡ 0 → length ring ≤ length line
      → r.looks ≡ 2 * length ring * (length line + length ring - 1) - length ring * length ring
  pub no_looks : r.refusal ≡ 0 → length line < length ring → r.looks ≡ 0

-- The demands on `outlines_scan_closed`.
pub record ScanClosedMeets (ring line : List ℕ) (k : ℕ) (join words : List ℕ) (r : AnswerStruct) (joined out : List ℕ) : Type 0 where
  pub demand_1 : Demand1 (closed_search_table ring k (length line) (length words) (length join)) r words out
  pub join_area : JoinDemand ring line join r joined
  pub demand_2 : r.refusal ≡ 0 → ClosedDemand2 NeverHidden ring line k words r out
  pub demand_3 : r.refusal ≡ 0 → ClosedDemand3 ring line k r

-- The demands on `outlines_report_closed`.
pub record ReportClosedMeets (cell ring_number : ℕ) (ring line : List ℕ) (k : ℕ) (book join words : List ℕ) (r : AnswerStruct) (joined out : List ℕ) : Type 0 where
  pub demand_1 : Demand1 (closed_report_table ring k (length line) (length words) (length join) book) r words out
  pub join_area : JoinDemand ring line join r joined
  pub demand_2 : r.refusal ≡ 0 → ClosedDemand2 (BookHides book cell ring_number) ring line k words r out
  pub demand_3 : r.refusal ≡ 0 → ClosedDemand3 ring line k r

-- The demands on `outlines_scan_two_way`. "Each pass has its own found, looks and bound" (document 02, ticket 6): the reversed ring has m edges too, as the ring.
pub record TwoWayMeets (ring line : List ℕ) (k : ℕ) (words : List ℕ) (r : TwoWayAnswer) (out : List ℕ) : Type 0 where
  pub demand_1 : TwoWayDemand1 (two_way_table ring k (length line) (length words)) r words out
  pub demand_2 : r.refusal ≡ 0 → TwoWayDemand2 ring line k words r out
  pub forward_demand_3 : r.refusal ≡ 0 → Demand3 (length ring) ring line k r.forward_looks
  pub backward_demand_3 : r.refusal ≡ 0 → Demand3 (length ring) (reversed_ring ring) line k r.backward_looks

-- A pass of the two-way scan gives what an accepted `outlines_scan` for the pass's ring gives: the same found and looks, and as its words those that the scan has
-- written, four for each finding.
pub record PassIsScan (found looks : ℕ) (pass_words : List ℕ) (scan : AnswerStruct) (scan_out : List ℕ) : Type 0 where
  pub found_is : found ≡ scan.found
  pub looks_are : looks ≡ scan.looks
  pub words_are : pass_words ≡ take (4 * scan.found) scan_out

-- The demands on `outlines_unpack`.
pub record UnpackMeets (book area : List ℕ) (r : AnswerStruct) (out : List ℕ) : Type 0 where
  pub demand_1 : Demand1 (unpack_table book (length area)) r area out
  pub demand_2 : UnpackDemand2 book area r out

-- The demands on `outlines_pack`.
pub record PackMeets (words area : List ℕ) (r : AnswerStruct) (out : List ℕ) : Type 0 where
  pub demand_1 : Demand1 (pack_table words (length area)) r area out
  pub demand_2 : PackDemand2 words area r out

-- The demands on `outlines_import_vertices`.
pub record ImportMeets (numbers : List ℤ) (area : List ℕ) (r : AnswerStruct) (out : List ℕ) : Type 0 where
  pub demand_1 : Demand1 (import_table numbers (length area)) r area out
  pub demand_2 : r.refusal ≡ 0 → ImportDemand2 numbers area r out
