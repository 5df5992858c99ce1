-- Any two answers of an exported call that meet its contract are equal, and so are the lent areas at exit: the struct is the numbers of its paper.
use Prim.Native.Nat.{ℕ}
use mathlib.Core.Path.{◌≡◌, sym, ap, ◌∙◌}
use mathlib.Core.List.{List}
use lib.IntN.{ℤ}
use Rattle.answers.specs.Paper.{Paper}
use Rattle.outlines.specs.Report.{ReportCounts}
use Rattle.two_way.specs.TwoWay.{TwoWayCounts}
use Rattle.exports.specs.declared.answering.Answer.{Answer as AnswerStruct}
use Rattle.exports.specs.declared.two_way_scan.TwoWayAnswer.{TwoWayAnswer}
use Rattle.exports.specs.Exported.{IsExported, IsSurveyExported, IsScanExported, IsReportExported, IsPackExported, IsUnpackExported, IsImportExported, IsClosedExported, IsSurveyClosedExported, IsScanClosedExported, IsReportClosedExported, IsTwoWayExported}

-- the struct that holds a paper
abbrev struct_with : Paper ReportCounts → AnswerStruct
struct_with p = record { refusal = p.number; place = p.place; found = p.counts.found; hidden = p.counts.hidden; looks = p.counts.looks }

-- two structs with the same paper are equal, and so are two areas with the same content
exported_unique : {p : Paper ReportCounts} {area out out' : List ℕ} {a b : AnswerStruct} → IsExported p area a out → IsExported p area b out' → (a ≡ b) × (out ≡ out')
exported_unique h h' = (ap struct_with (h.paper ∙ sym h'.paper), h.written ∙ sym h'.written)

-- Any two answers of `outlines_survey` are equal, and any two areas at exit.
pub survey_unique : (ring line : List ℕ) (k : ℕ) (words : List ℕ) (a b : AnswerStruct) (out out' : List ℕ) → IsSurveyExported ring line k words a out
    → IsSurveyExported ring line k words b out' → (a ≡ b) × (out ≡ out')
survey_unique ring line k words a b out out' h h' = exported_unique h h'

-- Any two answers of `outlines_scan` are equal, and any two areas at exit.
pub scan_unique : (ring line : List ℕ) (k : ℕ) (words : List ℕ) (a b : AnswerStruct) (out out' : List ℕ) → IsScanExported ring line k words a out
    → IsScanExported ring line k words b out' → (a ≡ b) × (out ≡ out')
scan_unique ring line k words a b out out' h h' = exported_unique h h'

-- Any two answers of `outlines_report` are equal, and any two areas at exit.
pub report_unique : (cell ring_number : ℕ) (ring line : List ℕ) (k : ℕ) (book words : List ℕ) (a b : AnswerStruct) (out out' : List ℕ)
    → IsReportExported cell ring_number ring line k book words a out → IsReportExported cell ring_number ring line k book words b out'
    → (a ≡ b) × (out ≡ out')
report_unique cell ring_number ring line k book words a b out out' h h' = exported_unique h h'

-- Any two answers of `outlines_pack` are equal, and any two areas at exit.
pub pack_unique : (words area : List ℕ) (a b : AnswerStruct) (out out' : List ℕ) → IsPackExported words area a out → IsPackExported words area b out'
    → (a ≡ b) × (out ≡ out')
pack_unique words area a b out out' h h' = exported_unique h h'

-- Any two answers of `outlines_unpack` are equal, and any two areas at exit.
pub unpack_unique : (book area : List ℕ) (a b : AnswerStruct) (out out' : List ℕ) → IsUnpackExported book area a out → IsUnpackExported book area b out'
    → (a ≡ b) × (out ≡ out')
unpack_unique book area a b out out' h h' = exported_unique h h'

-- Any two answers of `outlines_import_vertices` are equal, and any two areas at exit.
pub import_unique : (numbers : List ℤ) (area : List ℕ) (a b : AnswerStruct) (out out' : List ℕ) → IsImportExported numbers area a out → IsImportExported numbers area b out'
    → (a ≡ b) × (out ≡ out')
import_unique numbers area a b out out' h h' = exported_unique h h'

-- two structs with the same paper are equal, and so are two join areas and two areas of words with the same content
closed_exported_unique : {p : Paper ReportCounts} {area join joined joined' out out' : List ℕ} {a b : AnswerStruct} → IsClosedExported p area join a joined out
    → IsClosedExported p area join b joined' out' → (a ≡ b) × (joined ≡ joined') × (out ≡ out')
closed_exported_unique h h' = (ap struct_with (h.paper ∙ sym h'.paper), h.joined_is ∙ sym h'.joined_is, h.written ∙ sym h'.written)

-- Any two answers of `outlines_survey_closed` are equal, and any two join areas and words at exit.
pub survey_closed_unique : (ring line : List ℕ) (k : ℕ) (join words : List ℕ) (a b : AnswerStruct) (joined joined' out out' : List ℕ)
    → IsSurveyClosedExported ring line k join words a joined out → IsSurveyClosedExported ring line k join words b joined' out'
    → (a ≡ b) × (joined ≡ joined') × (out ≡ out')
survey_closed_unique ring line k join words a b joined joined' out out' h h' = closed_exported_unique h h'

-- Any two answers of `outlines_scan_closed` are equal, and any two join areas and words at exit.
pub scan_closed_unique : (ring line : List ℕ) (k : ℕ) (join words : List ℕ) (a b : AnswerStruct) (joined joined' out out' : List ℕ)
    → IsScanClosedExported ring line k join words a joined out → IsScanClosedExported ring line k join words b joined' out'
    → (a ≡ b) × (joined ≡ joined') × (out ≡ out')
scan_closed_unique ring line k join words a b joined joined' out out' h h' = closed_exported_unique h h'

-- Any two answers of `outlines_report_closed` are equal, and any two join areas and words at exit.
pub report_closed_unique : (cell ring_number : ℕ) (ring line : List ℕ) (k : ℕ) (book join words : List ℕ) (a b : AnswerStruct) (joined joined' out out' : List ℕ)
    → IsReportClosedExported cell ring_number ring line k book join words a joined out
    → IsReportClosedExported cell ring_number ring line k book join words b joined' out' → (a ≡ b) × (joined ≡ joined') × (out ≡ out')
report_closed_unique cell ring_number ring line k book join words a b joined joined' out out' h h' = closed_exported_unique h h'

-- the struct of the two-way scan that holds a paper
abbrev two_way_struct_with : Paper TwoWayCounts → TwoWayAnswer
two_way_struct_with p = record {
  refusal = p.number;
  place = p.place;
  forward_found = p.counts.forward.found;
  forward_looks = p.counts.forward.looks;
  backward_found = p.counts.backward.found;
  backward_looks = p.counts.backward.looks;
}

-- Any two answers of `outlines_scan_two_way` are equal, and any two areas at exit.
pub two_way_unique : (ring line : List ℕ) (k : ℕ) (words : List ℕ) (a b : TwoWayAnswer) (out out' : List ℕ) → IsTwoWayExported ring line k words a out
    → IsTwoWayExported ring line k words b out' → (a ≡ b) × (out ≡ out')
two_way_unique ring line k words a b out out' h h' = (ap two_way_struct_with (h.paper ∙ sym h'.paper), h.written ∙ sym h'.written)
