-- What an exported call needs to pass its call's answer on. For each call: the place of any answer that meets its contract fits 32 bits. For all that return the struct of
-- five numbers: the struct that holds the call's answer, with the lent area as the call left it, meets the exported contract (`passed_on`). A search, and a call
-- that counts one thing, are passed on as a report that hides nothing (`nothing_hidden`).
use Prim.Native.Nat.{ℕ, suc, ◌<◌, ◌^◌}
use mathlib.Core.Path.{◌≡◌, refl, ap, ◌∙◌}
use mathlib.Core.List.{List}
use Rattle.std.specs.Prelude.{Result, Ok, Err, MatchResult, IsOkAnd}
use Rattle.std.specs.Prelude.{Option, None, Some}
use native.Mathlib.Omega.{arith}
use lib.IntN.{ℤ}
use lib.ListN.{length}
use Rattle.meaning.specs.Closed.{closed_line}
use Rattle.answers.specs.declared.refusals.Refusal.{Refusal}
use Rattle.answers.specs.Refusals.{place_of}
use Rattle.answers.specs.Paper.{Paper, answer_paper, answer_from}
use Rattle.answers.specs.Rows.{first_given, answer_by}
use Rattle.book.specs.Calls.{paper_of as book_paper_of, IsUnpacked}
use Rattle.packing.specs.Calls.{IsPacked}
use Rattle.findings.specs.declared.searching.SearchCounts.{SearchCounts}
use Rattle.findings.specs.Admitting.{admit_rows}
use Rattle.findings.specs.Searching.{paper_of as search_paper_of, IsSearched}
use Rattle.findings.specs.ClosedRows.{closed_rows}
use Rattle.findings.specs.ClosedSearching.{IsClosedSearched}
use Rattle.findings.proofs.AdmitRows.{row_places}
use Rattle.findings.proofs.ClosedAdmitRows.{closed_row_places}
use Rattle.findings.proofs.RowsOfSearching.{rows_of_search}
use Rattle.findings.proofs.RowsOfClosedSearching.{rows_of_closed_search}
use Rattle.outlines.specs.declared.quick.ReportCounts.{ReportCounts as ReportCountsStruct}
use Rattle.outlines.specs.Report.{ReportCounts, no_report_counts, counts_of, paper_of as report_paper_of, IsReported}
use Rattle.outlines.specs.ClosedReport.{IsClosedReported}
use Rattle.two_way.specs.declared.passes.TwoWayCounts.{TwoWayCounts as TwoWayCountsStruct}
use Rattle.two_way.specs.Admitting.{two_way_rows}
use Rattle.two_way.specs.TwoWay.{no_two_way_counts, two_way_counts, two_way_answer, paper_of as two_way_scan_paper_of, IsScannedTwoWay}
use Rattle.two_way.proofs.TwoWayAdmitRows.{two_way_row_places}
use Rattle.vertices.specs.Boundary.{vertex_count}
use Rattle.vertices.specs.Importing.{import_rows, import_answer, paper_of as import_paper_of, IsImported}
use Rattle.vertices.proofs.RowsOfImport.{import_row_places}
use Rattle.exports.specs.declared.answering.Answer.{Answer as AnswerStruct}
use Rattle.exports.specs.Exported.{paper_of, paper_in_struct, IsExported, IsClosedExported}
use Rattle.exports.proofs.BookPlaces.{packed_place_le, unpacked_place_le}
use Rattle.exports.proofs.ReportPlaces.{report_place_le}

-- equal papers have equal places
place_is : {C : Type 0} {p q : Paper C} → p ≡ q → p.place ≡ q.place
place_is e = ap (λ p. p.place) e

-- if every row that can be given has a place below a bound above 0, so has the paper of the answer
place_lt : {C : Type 0} (zeros counts : C) (o : Option Refusal) {bound : ℕ} → ((q : Refusal) → o ≡ Some q → place_of q < suc bound)
    → (answer_paper zeros (answer_by o counts)).place < suc bound
place_lt zeros counts None each = omega arith
place_lt zeros counts (Some q) each = each q refl

-- A place of `survey` or `scan` fits 32 bits: it is 0.
pub search_place : {ring line : List ℕ} {k looks : ℕ} {words out : List ℕ} {r : Result SearchCounts Refusal}
    → IsSearched (admit_rows ring k (length line) (length words)) ring line k looks words r out → (search_paper_of r).place < 2 ^ 32
search_place h = omega (arith, (rows_of_search h).place_is)

-- A place of `report` fits 32 bits.
pub report_place : {cell ring_number : ℕ} {ring line : List ℕ} {k : ℕ} {book words out : List ℕ} {r : Result ReportCountsStruct Refusal}
    → IsReported cell ring_number ring line k book words r out → (report_paper_of r).place < 2 ^ 32
report_place {cell} {ring_number} {ring} {line} {k} {book} {words} h =
    let n = length line in
    let room = length words in
    omega (arith, place_is h.paper, report_place_le (admit_rows ring k n room) (row_places ring k n room) ring line k cell ring_number book)

-- A place of `survey_closed` or `scan_closed` fits 32 bits: it is 0.
pub closed_search_place : {ring line : List ℕ} {k looks : ℕ} {join words joined out : List ℕ} {r : Result SearchCounts Refusal}
    → IsClosedSearched ring line k looks join words r joined out → (search_paper_of r).place < 2 ^ 32
closed_search_place h = omega (arith, (rows_of_closed_search h).place_is)

-- A place of `report_closed` fits 32 bits.
pub closed_report_place : {cell ring_number : ℕ} {ring line : List ℕ} {k : ℕ} {book join words joined out : List ℕ} {r : Result ReportCountsStruct Refusal}
    → IsClosedReported cell ring_number ring line k book join words r joined out → (report_paper_of r).place < 2 ^ 32
closed_report_place {cell} {ring_number} {ring} {line} {k} {book} {join} {words} h =
    let n = length line in
    let room = length words in
    let joins = length join in
    omega (
      arith,
      place_is h.paper,
      report_place_le (closed_rows ring k n room joins) (closed_row_places ring k n room joins) ring (closed_line (length ring) line) k cell ring_number book,
    )

-- A place of `scan_two_way` fits 32 bits: it is 0, or a place of a ring of at most 256 edges.
pub two_way_place : {ring line : List ℕ} {k : ℕ} {words out : List ℕ} {r : Result TwoWayCountsStruct Refusal} → IsScannedTwoWay ring line k words r out → (two_way_scan_paper_of r).place < 2 ^ 32
unfolding two_way_answer
two_way_place {ring} {line} {k} {words} h =
    let n = length line in
    let room = length words in
    omega (
      arith,
      place_is h.paper,
      place_lt no_two_way_counts (two_way_counts ring line k) (first_given (two_way_rows ring k n room)) (λ q e. (two_way_row_places ring k n room q e).0),
    )

-- A place of `import_vertices` fits 32 bits: it is 0, or a vertex of a boundary of at most 4,096.
pub import_place : {numbers : List ℤ} {area out : List ℕ} {r : Result ℕ Refusal} → IsImported numbers area r out → (import_paper_of r).place < 2 ^ 32
unfolding import_answer
import_place {numbers} {area} h =
    let room = length area in
    omega (arith, place_is h.paper, place_lt 0 (vertex_count numbers) (first_given (import_rows numbers room)) (λ q e. (import_row_places numbers room q e).0))

-- A place of `pack` fits 32 bits.
pub pack_place : {words area out : List ℕ} {r : Result ℕ Refusal} → IsPacked words area r out → (book_paper_of r).place < 2 ^ 32
pack_place {words} {area} h = omega (arith, place_is h.paper, packed_place_le words (length area))

-- A place of `unpack` fits 32 bits.
pub unpack_place : {book area out : List ℕ} {r : Result ℕ Refusal} → IsUnpacked book area r out → (book_paper_of r).place < 2 ^ 32
unpack_place {book} {area} h = omega (arith, place_is h.paper, unpacked_place_le book (length area))

-- If the call's own contract gives its paper and its area at exit, the struct that holds that paper meets the exported contract with the same paper and area.
pub passed_on : {C : Type 0} (held : C → ReportCounts) {p q : Paper C} {area out : List ℕ} {a : AnswerStruct} → p ≡ q → out ≡ area → paper_of a ≡ paper_in_struct held p
    → IsExported (paper_in_struct held q) area a out
passed_on held paper written e = record { paper = e ∙ ap (paper_in_struct held) paper; written = written }

-- The same for a call on a closed line, which has a join area too.
pub closed_passed_on : {C : Type 0} (held : C → ReportCounts) {p q : Paper C} {words join joined out : List ℕ} {a : AnswerStruct} → p ≡ q → out ≡ words → joined ≡ join
    → paper_of a ≡ paper_in_struct held p → IsClosedExported (paper_in_struct held q) words join a joined out
closed_passed_on held paper written joined_is e = record { paper = e ∙ ap (paper_in_struct held) paper; written = written; joined_is = joined_is }

-- If a call's counts become a report's counts as the struct holds them, zeros become zeros, and a refusal stays, then the report's paper is the call's, as the
-- struct holds it. (`Q` is what the conversion says of the call's value and of what it becomes.)
pub nothing_hidden : {X C : Type 0} (zeros : C) (counts : X → C) (held : C → ReportCounts) {Q : X → ReportCountsStruct → Type 0} (s : Result X Refusal)
    (r : Result ReportCountsStruct Refusal) → MatchResult s (λ x. IsOkAnd r (Q x)) (λ e. r ≡ Err e)
    → ((x : X) (y : ReportCountsStruct) → Q x y → counts_of y ≡ held (counts x)) → no_report_counts ≡ held zeros
    → report_paper_of r ≡ paper_in_struct held (answer_paper zeros (answer_from counts s))
nothing_hidden zeros counts held (Ok x) (Ok y) is told none = rw (told x y is)
nothing_hidden zeros counts held (Ok x) (Err e) is told none = absurd is
nothing_hidden zeros counts held (Err e) r is told none = rw (is, none) refl
