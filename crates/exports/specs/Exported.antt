-- The contracts of the calls for C and Rust programs. Each returns one struct: six numbers for the two-way scan, five for the others. What survey, scan, report,
-- pack, unpack, the two-way scan and the import of vertices answer is defined in crates/findings, outlines, silences, book, two_way, vertices and meaning; this file
-- only says how the struct holds that answer.
--
--   paper_of                             the number, place and counts that the struct of five numbers stands for
--   search_in_struct                     "found and looks"; a search counts nothing hidden
--   one_count_in_struct                  one number, as found: "the number of records", or of edges
--   paper_in_struct                      a paper with its counts as the struct holds them
--   IsExported                           the contract that the six calls with one lent area and that struct share: its paper, and the area at exit
--   IsSearchExported                     the same for a search, for its rows and its looks
--   IsReportExportedBy                   the same for a report, for its rows of a search
--   IsClosedExported                     the contract that the three calls on a closed line share: the join area at exit too
--   IsSearchClosedExported               the same for a search on a closed line, for its looks
--   IsSurveyExported, IsScanExported,    the contract of each call
--   IsReportExported, IsPackExported,
--   IsUnpackExported, IsImportExported
--   IsSurveyClosedExported,              the contract of each call on a closed line
--   IsScanClosedExported,
--   IsReportClosedExported
--   two_way_paper_of                     the number, place and counts of both passes that the struct of the two-way scan stands for
--   IsTwoWayExported                     the contract of the two-way scan
use Rattle.std.specs.Prelude.{ℕ, ◌≡◌, List, ℤ, length}
use Rattle.std.specs.Prelude.{Option}
use Rattle.meaning.specs.Looks.{quick_looks, survey_looks}
use Rattle.meaning.specs.Closed.{closed_line}
use Rattle.answers.specs.declared.refusals.Refusal.{Refusal}
use Rattle.answers.specs.Paper.{Paper, answer_paper}
use Rattle.silences.specs.Layout.{layout}
use Rattle.silences.specs.Packing.{words_of_silences, packed, unpacked, area_at_exit}
use Rattle.book.specs.Calls.{records_paper}
use Rattle.findings.specs.Admitting.{admit_rows}
use Rattle.findings.specs.Searching.{Counts, search_paper, searched_words}
use Rattle.findings.specs.ClosedRows.{closed_rows}
use Rattle.findings.specs.ClosedSearching.{join_at_exit}
use Rattle.outlines.specs.Report.{ReportCounts, no_report_counts, report_rows, report_answer, reported_words}
use Rattle.two_way.specs.TwoWay.{TwoWayCounts, no_two_way_counts, two_way_answer, two_way_words}
use Rattle.vertices.specs.Importing.{import_answer, imported_area}
use Rattle.exports.specs.declared.answering.Answer.{Answer as AnswerStruct}
use Rattle.exports.specs.declared.two_way_scan.TwoWayAnswer.{TwoWayAnswer}

-- The paper of a struct. "A refusal carries its number and place, zero in every count"; an accepted answer has number 0, which no refusal has.
abbrev pub paper_of : AnswerStruct → Paper ReportCounts
paper_of a = record { number = a.refusal; place = a.place; counts = record { found = a.found; hidden = a.hidden; looks = a.looks } }

-- "Survey and scan return found and looks": hidden is 0.
abbrev pub search_in_struct : Counts → ReportCounts
search_in_struct c = record { found = c.found; hidden = 0; looks = c.looks }

-- A call that counts one thing has that number in found, and the rest is 0: "Packer and unpacker return the number of records", the import
-- of vertices the number of edges.
abbrev pub one_count_in_struct : ℕ → ReportCounts
one_count_in_struct counted = record { found = counted; hidden = 0; looks = 0 }

-- A paper with its counts as the struct holds them; number and place stay.
abbrev pub paper_in_struct : {C : Type 0} → (C → ReportCounts) → Paper C → Paper ReportCounts
paper_in_struct held p = record { number = p.number; place = p.place; counts = held p.counts }

-- The contract of an exported call: the returned struct has this paper, and the lent area holds `area_given` at exit.
pub record IsExported (paper_given : Paper ReportCounts) (area_given : List ℕ) (r : AnswerStruct) (out : List ℕ) : Type 0 where
  pub paper : paper_of r ≡ paper_given
  pub written : out ≡ area_given

-- The contract of an exported search with these rows and looks. `words` are the lent words at entry, `out` the same at exit.
abbrev pub IsSearchExported : List (Option Refusal) → List ℕ → List ℕ → ℕ → ℕ → List ℕ → AnswerStruct → List ℕ → Type 0
IsSearchExported rows ring line k looks words r out =
    IsExported (paper_in_struct search_in_struct (search_paper rows ring line k looks)) (searched_words rows ring line k words) r out

-- The contract of an exported report with these rows of a search.
abbrev pub IsReportExportedBy : List (Option Refusal) → ℕ → ℕ → List ℕ → List ℕ → ℕ → List ℕ → List ℕ → AnswerStruct → List ℕ → Type 0
IsReportExportedBy rows cell ring_number ring line k book words r out =
    IsExported (answer_paper no_report_counts (report_answer rows ring line k cell ring_number book)) (reported_words rows ring line k cell ring_number book words) r out

-- The contract of `outlines_survey`.
abbrev pub IsSurveyExported : List ℕ → List ℕ → ℕ → List ℕ → AnswerStruct → List ℕ → Type 0
IsSurveyExported ring line k words r out = IsSearchExported (admit_rows ring k (length line) (length words)) ring line k (survey_looks ring line) words r out

-- The contract of `outlines_scan`: that of the survey, with the looks of the quick scan.
abbrev pub IsScanExported : List ℕ → List ℕ → ℕ → List ℕ → AnswerStruct → List ℕ → Type 0
IsScanExported ring line k words r out = IsSearchExported (admit_rows ring k (length line) (length words)) ring line k (quick_looks ring line k) words r out

-- The contract of `outlines_report`.
abbrev pub IsReportExported : ℕ → ℕ → List ℕ → List ℕ → ℕ → List ℕ → List ℕ → AnswerStruct → List ℕ → Type 0
IsReportExported cell ring_number ring line k book words r out = IsReportExportedBy (admit_rows ring k (length line) (length words)) cell ring_number ring line k book words r out

-- The contract of `outlines_pack`. `area` is the area lent for the book, `out` the same at exit.
abbrev pub IsPackExported : List ℕ → List ℕ → AnswerStruct → List ℕ → Type 0
IsPackExported words area r out =
    IsExported (paper_in_struct one_count_in_struct (records_paper (packed words (length area)))) (area_at_exit layout (packed words (length area)) area) r out

-- The contract of `outlines_unpack`. `area` is the area lent for the words, `out` the same at exit.
abbrev pub IsUnpackExported : List ℕ → List ℕ → AnswerStruct → List ℕ → Type 0
IsUnpackExported book area r out =
    IsExported (paper_in_struct one_count_in_struct (records_paper (unpacked book (length area)))) (area_at_exit words_of_silences (unpacked book (length area)) area) r out

-- The contract of `outlines_import_vertices` (document 02, ticket 7). `area` is the area lent for the edges, `out` the same at exit.
abbrev pub IsImportExported : List ℤ → List ℕ → AnswerStruct → List ℕ → Type 0
IsImportExported numbers area r out = IsExported (paper_in_struct one_count_in_struct (answer_paper 0 (import_answer numbers (length area)))) (imported_area numbers area) r out

-- The contract of an exported call on a closed line (document 02, ticket 3): the returned struct has this paper, the words hold `words_given` at exit, and
-- the join area holds `join_given`.
pub record IsClosedExported (paper_given : Paper ReportCounts) (words_given join_given : List ℕ) (r : AnswerStruct) (joined out : List ℕ) : Type 0 where
  pub paper : paper_of r ≡ paper_given
  pub written : out ≡ words_given
  pub joined_is : joined ≡ join_given

-- The contract of an exported search on a closed line with these looks. `join` and `words` are the join area and the words at entry, `joined` and `out` the
-- same at exit.
abbrev pub IsSearchClosedExported : List ℕ → List ℕ → ℕ → ℕ → List ℕ → List ℕ → AnswerStruct → List ℕ → List ℕ → Type 0
IsSearchClosedExported ring line k looks join words r joined out =
    IsClosedExported
    (paper_in_struct search_in_struct (search_paper (closed_rows ring k (length line) (length words) (length join)) ring (closed_line (length ring) line) k looks))
    (searched_words (closed_rows ring k (length line) (length words) (length join)) ring (closed_line (length ring) line) k words)
    (join_at_exit (closed_rows ring k (length line) (length words) (length join)) (length ring) line join) r joined out

-- The contract of `outlines_survey_closed`.
abbrev pub IsSurveyClosedExported : List ℕ → List ℕ → ℕ → List ℕ → List ℕ → AnswerStruct → List ℕ → List ℕ → Type 0
IsSurveyClosedExported ring line k join words r joined out =
    IsSearchClosedExported ring line k (survey_looks ring (closed_line (length ring) line)) join words r joined out

-- The contract of `outlines_scan_closed`: that of the survey, with the looks of the quick scan.
abbrev pub IsScanClosedExported : List ℕ → List ℕ → ℕ → List ℕ → List ℕ → AnswerStruct → List ℕ → List ℕ → Type 0
IsScanClosedExported ring line k join words r joined out =
    IsSearchClosedExported ring line k (quick_looks ring (closed_line (length ring) line) k) join words r joined out

-- The contract of `outlines_report_closed`.
abbrev pub IsReportClosedExported : ℕ → ℕ → List ℕ → List ℕ → ℕ → List ℕ → List ℕ → List ℕ → AnswerStruct → List ℕ → List ℕ → Type 0
IsReportClosedExported cell ring_number ring line k book join words r joined out =
    IsClosedExported
    (answer_paper no_report_counts
    (report_answer (closed_rows ring k (length line) (length words) (length join)) ring (closed_line (length ring) line) k cell ring_number book))
    (reported_words (closed_rows ring k (length line) (length words) (length join)) ring (closed_line (length ring) line) k cell ring_number book words)
    (join_at_exit (report_rows (closed_rows ring k (length line) (length words) (length join)) book) (length ring) line join) r joined out

-- The paper of the struct of the two-way scan (document 02, ticket 6): "Each pass has its own found, looks and bound."
abbrev pub two_way_paper_of : TwoWayAnswer → Paper TwoWayCounts
two_way_paper_of a = record {
  number = a.refusal;
  place = a.place;
  counts = record {
    forward = record { found = a.forward_found; looks = a.forward_looks };
    backward = record { found = a.backward_found; looks = a.backward_looks };
  };
}

-- The contract of `outlines_scan_two_way`: the returned struct has the paper of the two-way scan, and the words hold at exit what that scan leaves.
pub record IsTwoWayExported (ring line : List ℕ) (k : ℕ) (words : List ℕ) (r : TwoWayAnswer) (out : List ℕ) : Type 0 where
  pub paper : two_way_paper_of r ≡ answer_paper no_two_way_counts (two_way_answer ring line k (length words))
  pub written : out ≡ two_way_words ring line k words
