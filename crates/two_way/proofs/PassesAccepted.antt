-- Neither of the two scans refuses. An admitted call is within the limits of a scan for the ring. The reversed ring is as long and holds no mark either. The forward
-- findings are at most one for each window, so behind their words there is room for as many backward ones.
use Prim.Native.Nat.{ℕ, ◌+◌, ◌-◌, ◌*◌, ◌≤◌}
use mathlib.Core.Path.{◌≡◌, refl, ap, ap₂, ◌∙◌}
use mathlib.Core.Logic.{⊎_elim}
use mathlib.Core.List.{List}
use Rattle.std.specs.Prelude.{Option, None}
use Rattle.std.specs.Prelude.{Result, Ok, Err}
use native.Mathlib.Omega.{arith}
use lib.ListN.{length}
use Rattle.lists.proofs.Areas.{written_length}
use Rattle.lists.proofs.Cases.{le_or_lt}
use Rattle.meaning.specs.Findings.{findings, words_each, words_of}
use Rattle.meaning.proofs.FindingsBelow.{findings_length_le, findings_short}
use Rattle.meaning.proofs.Words.{words_length}
use Rattle.answers.specs.declared.refusals.Refusal.{Refusal}
use Rattle.answers.specs.Rows.{first_given}
use Rattle.answers.proofs.OneAnswer.{number_in}
use Rattle.reversal.specs.Reversing.{reversed_ring}
use Rattle.reversal.proofs.RingTwice.{reversed_length, reversed_unmarked}
use Rattle.findings.specs.declared.searching.SearchCounts.{SearchCounts}
use Rattle.findings.specs.Admitting.{room_required, admit_rows}
use Rattle.findings.specs.Searching.{paper_of, IsSearched}
use Rattle.findings.proofs.AdmitRows.{no_row_iff}
use Rattle.findings.proofs.SearchGives.{search_accepted_iff, accepted_gives, accepted_words}
use Rattle.outlines.specs.Scan.{IsScanned}
use Rattle.two_way.specs.Admitting.{TwoWayAdmitted}
use Rattle.two_way.specs.TwoWay.{pass_counts}
use Rattle.two_way.specs.Passes.{CanScanBackward}

-- A search does not refuse if none of its rows is given.
pub never_refused : {rows : List (Option Refusal)} {ring line : List ℕ} {k expected : ℕ} {words : List ℕ} {refusal : Refusal} {out : List ℕ} → first_given rows ≡ None
    → IsSearched rows ring line k expected words (Err refusal) out → ⊥
never_refused {refusal = refusal} none_given meets = omega (arith, (search_accepted_iff meets).1 none_given, (number_in refusal).0)

module _ (ring line : List ℕ) (k room : ℕ) (admitted : TwoWayAdmitted ring k (length line) room) where
  abbrev m : ℕ
  m = length ring

  abbrev n : ℕ
  n = length line

  -- None of the rows of the forward scan is given.
  pub forward_accepted : first_given (admit_rows ring k n room) ≡ None
  forward_accepted = (no_row_iff ring k n room).1 (record {
    some_edge = admitted.some_edge;
    most_ring = admitted.most_ring;
    no_mark = admitted.no_mark;
    allowed = admitted.allowed;
    most_line = admitted.most_line;
    room_for = λ long. omega (arith, admitted.room_for long);
  })

  -- There are at most n forward findings.
  pub forward_found_le : length (findings ring line k) ≤ n
  forward_found_le =
      ⊎_elim (λ long. omega (arith, findings_length_le ring line k admitted.some_edge long, admitted.some_edge)) (λ short. omega (arith, ap length (findings_short ring line k short)))
      (le_or_lt m n)

  -- For n ≥ m the words lent are room for the forward findings and, behind them, for the words that row 4 of one scan requires.
  behind_room : m ≤ n → words_each * length (findings ring line k) + room_required m n ≤ room
  behind_room long = omega (arith, findings_length_le ring line k admitted.some_edge long, admitted.room_for long)

  -- The words of the forward findings fit in the words lent.
  pub forward_words_le : words_each * length (findings ring line k) ≤ room
  forward_words_le =
      ⊎_elim (λ long. omega (arith, behind_room long)) (λ short. omega (arith, ap length (findings_short ring line k short))) (le_or_lt m n)

  -- None of the rows of the backward scan is given, which is lent the words behind those of the forward findings.
  pub backward_accepted : first_given (admit_rows (reversed_ring ring) k n (room - words_each * length (findings ring line k))) ≡ None
  backward_accepted =
      let same = reversed_length ring in
      (no_row_iff (reversed_ring ring) k n _).1 (record {
        some_edge = omega (arith, same, admitted.some_edge);
        most_ring = omega (arith, same, admitted.most_ring);
        no_mark = reversed_unmarked ring admitted.no_mark;
        allowed = omega (arith, same, admitted.allowed);
        most_line = admitted.most_line;
        room_for = λ long. rw same (omega (arith, behind_room (omega (arith, same))));
      })

-- The forward scan of an admitted call does not refuse.
pub forward_not_refused : {ring line : List ℕ} {k : ℕ} {words : List ℕ} {refusal : Refusal} {out : List ℕ} → TwoWayAdmitted ring k (length line) (length words)
    → IsScanned ring line k words (Err refusal) out → ⊥
forward_not_refused {ring} {line} {k} {words} admitted meets = never_refused (forward_accepted ring line k (length words) admitted) meets

-- An accepted scan for a ring has found and looks of the pass for that ring.
pub pass_is_scan : {ring line : List ℕ} {k : ℕ} {words : List ℕ} {s : Result SearchCounts Refusal} {out : List ℕ} → IsScanned ring line k words s out → (paper_of s).number ≡ 0
    → (paper_of s).counts ≡ pass_counts ring line k
pass_is_scan meets zero_is =
    let gives = accepted_gives meets zero_is in
    ap₂ (λ (f l : ℕ). record { found = f; looks = l }) gives.found_is gives.looks_are

-- After the forward scan of an admitted call, the backward scan can be made.
pub can_scan_backward : {ring line : List ℕ} {k : ℕ} {words : List ℕ} {forward : SearchCounts} {mid : List ℕ} → TwoWayAdmitted ring k (length line) (length words)
    → IsScanned ring line k words (Ok forward) mid → CanScanBackward ring line k mid forward
can_scan_backward {ring} {line} {k} {words} {mid = mid} admitted meets =
    let fits : length (words_of (findings ring line k)) ≤ length words = omega (arith, words_length (findings ring line k), forward_words_le ring line k (length words) admitted) in
    let same : length mid ≡ length words =
    ap length (accepted_words meets (forward_accepted ring line k (length words) admitted)) ∙ written_length (words_of (findings ring line k)) words fits in
    record { admitted = rw same admitted; found_is = (accepted_gives meets refl).found_is }
