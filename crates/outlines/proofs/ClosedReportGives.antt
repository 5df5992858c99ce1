-- What follows for the answers of `report_closed`, from the laws of reports with any rows (`closed_is_report`). In an accepted one found is shown plus
-- hidden, and the looks obey the bound with n + m − 1 in place of n. With an empty book it gives what `scan_closed` gives. A silence that covers no finding
-- of the closed line changes nothing, and one silence more hides at most one finding more. A book of tag 21 alone gives what the same addresses with ceiling 0
-- give under tag 22. The laws on two books give the join area too: once a book is accepted, the search's rows alone decide it (`joined_alike`).
use Prim.Native.Nat.{ℕ, ◌+◌, ◌-◌, ◌*◌, ◌≤◌, ◌<◌}
use mathlib.Core.Path.{◌≡◌, sym, ap, ◌∙◌}
use mathlib.Core.List.{List, [], ◌∷◌, ◌++◌}
use Rattle.std.specs.Prelude.{Option, None}
use Rattle.std.specs.Prelude.{Result, Ok}
use native.Mathlib.Omega.{arith}
use lib.ListN.{length}
use Rattle.meaning.specs.Findings.{Finding, IsFinding, findings}
use Rattle.meaning.specs.Closed.{closed_line, IsClosedFinding, joined_with}
use Rattle.meaning.proofs.ClosedFindings.{closed_finding_iff}
use Rattle.meaning.proofs.ClosedLooks.{closed_quick_looks_le, closed_quick_looks_most, closed_quick_looks_short}
use Rattle.answers.specs.declared.refusals.Refusal.{Refusal}
use Rattle.answers.specs.Paper.{accepted}
use Rattle.answers.specs.Rows.{area_by}
use Rattle.silences.specs.Silences.{Silence, address}
use Rattle.silences.specs.Layout.{layout, most_silences}
use Rattle.silences.specs.Books.{LaidDown, OnlyTag21, IsBook, with_ceilings}
use Rattle.silences.proofs.AcceptedIsBook.{book_accepted}
use Rattle.silences.proofs.ExactBook.{exact_read}
use Rattle.silences.specs.Reading.{read_book, silences_read, book_refusal}
use Rattle.silences.proofs.BookRows.{book_accepted_iff}
use Rattle.findings.specs.declared.searching.SearchCounts.{SearchCounts}
use Rattle.findings.specs.ClosedRows.{closed_rows}
use Rattle.findings.specs.ClosedSearching.{join_at_exit}
use Rattle.findings.proofs.ClosedAdmitRows.{closed_accepted_edge}
use Rattle.findings.proofs.ClosedSearchAnswers.{closed_is_search}
use Rattle.outlines.specs.declared.quick.ReportCounts.{ReportCounts as ReportCountsStruct}
use Rattle.outlines.specs.Report.{shown, hidden, report_rows}
use Rattle.outlines.specs.LineScan.{LineScanned}
use Rattle.outlines.specs.ClosedScan.{IsClosedScanned}
use Rattle.outlines.specs.ClosedReport.{IsClosedReported}
use Rattle.outlines.proofs.ShownAndHidden.{shown_hidden_length}
use Rattle.outlines.proofs.FirstOfReport.{accepted_book_row}
use Rattle.outlines.proofs.ReportGives.{report_none_given, report_gives, report_looks_are}
use Rattle.outlines.proofs.EmptyBookIsScan.{empty_book_read, report_of, empty_book_same}
use Rattle.outlines.proofs.ExactBooks.{exact_report_same}
use Rattle.outlines.proofs.OneSilenceMore.{silence_hides_one_le, idle_silence_same}
use Rattle.outlines.proofs.ClosedReportAnswers.{closed_is_report}

module _ {cell ring_number : ℕ} {ring line : List ℕ} {k : ℕ} {book join words : List ℕ} {c : ReportCountsStruct} {joined out : List ℕ}
    (meets : IsClosedReported cell ring_number ring line k book join words (Ok c) joined out) where
  -- the ring of an accepted report is not empty
  some_edge : 0 < length ring
  some_edge = closed_accepted_edge ring k (length line) (length words) (length join) (report_none_given (closed_is_report meets)).0

  -- In an accepted report found, hidden, looks and words are as `LineScanned` says, for the line followed by its first m − 1 edges.
  pub closed_report_gives : LineScanned cell ring_number ring (closed_line (length ring) line) k book words c.found c.hidden c.looks out
  closed_report_gives = report_gives (closed_is_report meets)

  -- "found (hidden ones included)": found is the number of shown findings plus hidden.
  pub closed_report_found_is : c.found ≡ length (shown (silences_read book) cell ring_number (findings ring (closed_line (length ring) line) k)) + c.hidden
  closed_report_found_is =
      omega (
        arith,
        closed_report_gives.found_is,
        closed_report_gives.hidden_is,
        shown_hidden_length (silences_read book) cell ring_number (findings ring (closed_line (length ring) line) k),
      )

  -- The looks of an accepted report: "The look bound reads with n + m − 1 in place of n". For n ≥ m they are never above 3·m·(n + m − 1) − 2·m·m + m.
  pub closed_report_looks_le : length ring ≤ length line
      → c.looks ≤ 3 * length ring * (length line + length ring - 1) - 2 * length ring * length ring + length ring
  closed_report_looks_le long = rw (report_looks_are (closed_is_report meets)) (closed_quick_looks_le ring line some_edge long k)

  -- The looks of an accepted report are at most 3·m·(n + m − 1).
  pub closed_report_looks_most : c.looks ≤ 3 * length ring * (length line + length ring - 1)
  closed_report_looks_most = rw (report_looks_are (closed_is_report meets)) (closed_quick_looks_most ring line some_edge k)

  -- An accepted report on a line shorter than the ring takes "no look".
  pub closed_report_no_looks : length line < length ring → c.looks ≡ 0
  closed_report_no_looks short = report_looks_are (closed_is_report meets) ∙ closed_quick_looks_short ring line short k

-- if the book is accepted, the join area at exit is that of the search
join_by_search : (rows : List (Option Refusal)) (book : List ℕ) (m : ℕ) (line join : List ℕ) → book_refusal book ≡ None
    → join_at_exit (report_rows rows book) m line join ≡ join_at_exit rows m line join
unfolding join_at_exit
join_by_search rows book m line join read = ap (λ (o : Option Refusal). area_by o (joined_with m line join) join) (accepted_book_row rows book read)

-- Every answer of `report_closed` with an empty book is the answer of `scan_closed` with hidden 0, and the words and join areas at exit are the same.
pub closed_empty_book_same : {cell ring_number : ℕ} {ring line : List ℕ} {k : ℕ} {join words : List ℕ} {q : Result SearchCounts Refusal} {r : Result ReportCountsStruct Refusal} {joined joined' out out' : List ℕ}
    → IsClosedScanned ring line k join words q joined out → IsClosedReported cell ring_number ring line k [] join words r joined' out'
    → (r ≡ report_of q) × (joined' ≡ joined) × (out' ≡ out)
closed_empty_book_same {cell} {ring_number} {ring} {line} {k} {join} {words} {r = r} {out' = out'} scanned meets =
    let same = empty_book_same cell ring_number (closed_is_search scanned) r out' (closed_is_report meets) in
    let rows : List (Option Refusal) = closed_rows ring k (length line) (length words) (length join) in
    (same.0, meets.joined_is ∙ join_by_search rows [] (length ring) line join empty_book_read ∙ sym scanned.joined_is, same.1)

-- Two reports on a closed line whose books are accepted leave the same join area.
joined_alike : {cell ring_number : ℕ} {ring line : List ℕ} {k : ℕ} {book book' join words : List ℕ} {ss ts : List Silence} {r r' : Result ReportCountsStruct Refusal} {joined joined' out out' : List ℕ}
    → read_book book ≡ accepted ss → read_book book' ≡ accepted ts → IsClosedReported cell ring_number ring line k book join words r joined out
    → IsClosedReported cell ring_number ring line k book' join words r' joined' out' → joined ≡ joined'
joined_alike {ring = ring} {line = line} {k = k} {book = book} {book' = book'} {join = join} {words = words} {ss = ss} {ts = ts} is is' p p' =
    let rows : List (Option Refusal) = closed_rows ring k (length line) (length words) (length join) in
    p.joined_is
    ∙ join_by_search rows book (length ring) line join ((book_accepted_iff book ss).0 is).0
    ∙ sym (join_by_search rows book' (length ring) line join ((book_accepted_iff book' ts).0 is').0)
    ∙ sym p'.joined_is

-- One silence s more in a book, between the silences xs and ys.
module _ (cell ring_number : ℕ) (s : Silence) (xs ys : List Silence) (ring line : List ℕ) (k : ℕ) where
  -- With one silence more, at most one finding more of the closed line is hidden.
  pub closed_hides_one_le : length (hidden (xs ++ s ∷ ys) cell ring_number (findings ring (closed_line (length ring) line) k))
      ≤ length (hidden (xs ++ ys) cell ring_number (findings ring (closed_line (length ring) line) k)) + 1
  closed_hides_one_le = silence_hides_one_le cell ring_number s xs ys ring (closed_line (length ring) line) k

  -- "A silence that names no finding hides nothing", nor does one whose ceiling is too low: without it the report on the closed line is the same, its words and
  -- its join area too.
  pub closed_idle_silence_same : {book book' join words : List ℕ} {r r' : Result ReportCountsStruct Refusal} {joined joined' out out' : List ℕ}
      → read_book book ≡ accepted (xs ++ s ∷ ys) → read_book book' ≡ accepted (xs ++ ys)
      → IsClosedReported cell ring_number ring line k book join words r joined out → IsClosedReported cell ring_number ring line k book' join words r' joined' out'
      → ((f : Finding) → IsClosedFinding ring line k f → s.address ≡ address cell ring_number f.start → f.distance ≤ s.ceiling → ⊥) → (r ≡ r') × (joined ≡ joined') × (out ≡ out')
  closed_idle_silence_same {book} {book'} {join} {words} {r} {r'} {out = out} {out' = out'} is is' p p' idle =
      let rows : List (Option Refusal) = closed_rows ring k (length line) (length words) (length join) in
      let idle_in_list : (f : Finding) → IsFinding ring (closed_line (length ring) line) k f → s.address ≡ address cell ring_number f.start
      → f.distance ≤ s.ceiling → ⊥ =
      λ f finds. idle f ((closed_finding_iff ring line (omega (arith, finds.is_rotation)) k f).0 finds) in
      let same = idle_silence_same cell ring_number s xs ys ring (closed_line (length ring) line) k rows
      (closed_accepted_edge ring k (length line) (length words) (length join)) book book' words is is' r r' out out' (closed_is_report p) (closed_is_report p')
      idle_in_list in
      (same.0, joined_alike is is' p p', same.1)

-- A report on a closed line by a book of tag 21 alone, of at most 1,000 records, is the report by the same addresses with ceiling 0 under tag 22.
pub closed_exact_same : (cell ring_number : ℕ) (ring line : List ℕ) (k : ℕ) {book join words : List ℕ} {ss : List Silence}
    → IsBook ss book → LaidDown OnlyTag21 ss book → length ss ≤ most_silences → {r r' : Result ReportCountsStruct Refusal} {joined joined' out out' : List ℕ}
    → IsClosedReported cell ring_number ring line k book join words r joined out
    → IsClosedReported cell ring_number ring line k (layout (with_ceilings 0 ss)) join words r' joined' out' → (r ≡ r') × (joined ≡ joined') × (out ≡ out')
closed_exact_same cell ring_number ring line k {book} {join} {words} {ss} b laid few {r} {r'} {out = out} {out' = out'} p p' =
    let rows : List (Option Refusal) = closed_rows ring k (length line) (length words) (length join) in
    let same = exact_report_same cell ring_number rows ring (closed_line (length ring) line)
    (closed_accepted_edge ring k (length line) (length words) (length join)) k book words ss b laid few r r' out out' (closed_is_report p) (closed_is_report p') in
    (same.0, joined_alike (book_accepted book ss b) (exact_read ss book b laid few) p p', same.1)
