-- Document 02, ticket 6: "A two-way scan lists forward findings, then backward ones, each as by demand 2 for that ring. Each pass has its own found, looks and
-- bound." The forward pass is the quick scan of the ring, the backward pass that of the reversed ring, over the same line. So the rotation of a backward finding
-- counts on the reversed ring.
--
--   TwoWayCounts, no_two_way_counts   found and looks of each pass; all of them zero
--   pass_counts, two_way_counts       found and looks of one pass, and of both
--   two_way_findings                  the forward findings, then the backward ones
--   two_way_answer                    the answer that the scan must give: its counts, or a refusal
--   two_way_words                     the lent words at exit
--   both_counts_of                    found and looks of each pass, of the returned struct
--   answer_of, paper_of               the returned `Result` as an answer, and as document 01's number, place and counts
--   IsScannedTwoWay                   the contract of `scan_two_way`
use Rattle.std.specs.Prelude.{ℕ, ◌≡◌, List, ◌++◌, length}
use Rattle.std.specs.Prelude.{Result}
use Rattle.lists.specs.Areas.{written}
use Rattle.meaning.specs.Findings.{Finding, findings, words_of}
use Rattle.meaning.specs.Looks.{quick_looks}
use Rattle.answers.specs.declared.refusals.Refusal.{Refusal}
use Rattle.answers.specs.Paper.{Answer, Paper, answer_paper, answer_from}
use Rattle.answers.specs.Rows.{first_given, answer_by, area_by}
use Rattle.reversal.specs.Reversing.{reversed_ring}
use Rattle.findings.specs.Searching.{Counts, no_counts, counts_of}
use Rattle.two_way.specs.declared.passes.TwoWayCounts.{TwoWayCounts as TwoWayCountsStruct}
use Rattle.two_way.specs.Admitting.{two_way_rows}

-- "Each pass has its own found, looks".
pub record TwoWayCounts : Type 0 where
  pub forward : Counts
  pub backward : Counts

-- "A refusal carries .. zero in every count" (document 01).
abbrev pub no_two_way_counts : TwoWayCounts
no_two_way_counts = record { forward = no_counts; backward = no_counts }

-- Found and looks of one pass: the quick scan's for that ring.
abbrev pub pass_counts : List ℕ → List ℕ → ℕ → Counts
pass_counts ring line k = record { found = length (findings ring line k); looks = quick_looks ring line k }

-- Found and looks of both passes.
abbrev pub two_way_counts : List ℕ → List ℕ → ℕ → TwoWayCounts
two_way_counts ring line k = record { forward = pass_counts ring line k; backward = pass_counts (reversed_ring ring) line k }

-- "forward findings, then backward ones", without a gap.
abbrev pub two_way_findings : List ℕ → List ℕ → ℕ → List Finding
two_way_findings ring line k = findings ring line k ++ findings (reversed_ring ring) line k

-- The answer of the scan with `room` words lent: the refusal of the first row that is given, else the counts of both passes.
unfoldable pub two_way_answer : List ℕ → List ℕ → ℕ → ℕ → Answer TwoWayCounts
two_way_answer ring line k room = answer_by (first_given (two_way_rows ring k (length line) room)) (two_way_counts ring line k)

-- The lent words after the scan: the words of the findings of both passes, then the rest as it was. If the call is refused, all as it was.
unfoldable pub two_way_words : List ℕ → List ℕ → ℕ → List ℕ → List ℕ
two_way_words ring line k words =
    area_by (first_given (two_way_rows ring k (length line) (length words))) (written (words_of (two_way_findings ring line k)) words) words

-- Found and looks of each pass, of a struct.
abbrev pub both_counts_of : TwoWayCountsStruct → TwoWayCounts
both_counts_of c = record { forward = counts_of c.forward; backward = counts_of c.backward }

-- The returned `Result` as an answer.
abbrev pub answer_of : Result TwoWayCountsStruct Refusal → Answer TwoWayCounts
answer_of r = answer_from both_counts_of r

-- Document 01's number, place and counts for the returned `Result`.
abbrev pub paper_of : Result TwoWayCountsStruct Refusal → Paper TwoWayCounts
paper_of r = answer_paper no_two_way_counts (answer_of r)

-- The contract of `scan_two_way`. It fixes number, place and counts of the answer r and the words at exit `out`, on every input, accepted or refused.
pub record IsScannedTwoWay (ring line : List ℕ) (k : ℕ) (words : List ℕ) (r : Result TwoWayCountsStruct Refusal) (out : List ℕ) : Type 0 where
  pub paper : paper_of r ≡ answer_paper no_two_way_counts (two_way_answer ring line k (length words))
  pub written : out ≡ two_way_words ring line k words
