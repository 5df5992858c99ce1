-- What follows for every answer that meets the contract of `scan_two_way`. An accepted one has for each pass the found and looks that `scan` gives for that ring, and
-- its words are the forward findings' words, the backward findings' words, then the rest as it was. Each pass has the look bound of a scan: the reversed ring is
-- as long as the ring.
use Prim.Native.Nat.{ℕ, ◌+◌, ◌-◌, ◌*◌, ◌≤◌, ◌<◌}
use mathlib.Core.Path.{◌≡◌, refl, sym, ap, subst, ◌∙◌}
use mathlib.Core.Logic.{⊎_elim}
use mathlib.Core.List.{List, ◌++◌}
use Rattle.std.specs.Prelude.{Option, None}
use Rattle.std.specs.Prelude.{Result}
use native.Mathlib.Omega.{arith}
use lib.ListN.{length}
use Rattle.lists.specs.Areas.{written}
use Rattle.lists.proofs.Cases.{le_or_lt}
use Rattle.meaning.specs.Findings.{findings, words_of}
use Rattle.meaning.specs.Looks.{quick_looks}
use Rattle.meaning.proofs.LookBound.{quick_looks_le, quick_looks_most, quick_looks_short}
use Rattle.meaning.proofs.Words.{words_append}
use Rattle.answers.specs.declared.refusals.Refusal.{Refusal}
use Rattle.answers.specs.Rows.{first_given}
use Rattle.answers.proofs.AnswerByRows.{accepted_number_iff, accepted_counts, accepted_area, refused_counts}
use Rattle.reversal.specs.Reversing.{reversed_ring}
use Rattle.reversal.proofs.RingTwice.{reversed_length}
use Rattle.findings.specs.declared.searching.SearchCounts.{SearchCounts}
use Rattle.findings.specs.Searching.{paper_of as scan_paper_of}
use Rattle.outlines.specs.Scan.{IsScanned}
use Rattle.two_way.specs.declared.passes.TwoWayCounts.{TwoWayCounts as TwoWayCountsStruct}
use Rattle.two_way.specs.Admitting.{two_way_rows}
use Rattle.two_way.specs.TwoWay.{TwoWayCounts, no_two_way_counts, two_way_counts, two_way_findings, two_way_answer, two_way_words, paper_of, IsScannedTwoWay}
use Rattle.two_way.proofs.TwoWayAdmitRows.{two_way_no_row_iff}
use Rattle.two_way.proofs.PassesAccepted.{pass_is_scan}

module _ (ring line : List ℕ) (k : ℕ) (words : List ℕ) (r : Result TwoWayCountsStruct Refusal) (out : List ℕ) (meets : IsScannedTwoWay ring line k words r out) where
  -- the call's rows
  abbrev rows : List (Option Refusal)
  rows = two_way_rows ring k (length line) (length words)

  -- an answer with number 0 is given where no row is
  none_given : (paper_of r).number ≡ 0 → first_given rows ≡ None
  unfolding two_way_answer
  none_given zero_is = (accepted_number_iff no_two_way_counts (two_way_counts ring line k) (first_given rows) meets.paper).0 zero_is

  -- An accepted call has found and looks of both passes.
  pub two_way_counts_are : (paper_of r).number ≡ 0 → (paper_of r).counts ≡ two_way_counts ring line k
  unfolding two_way_answer
  two_way_counts_are zero_is = accepted_counts no_two_way_counts (two_way_counts ring line k) (first_given rows) meets.paper (none_given zero_is)

  -- The forward pass has the found and looks of every accepted scan for the ring, whatever words that scan is lent.
  pub forward_is_scan : {words' : List ℕ} {s : Result SearchCounts Refusal} {out' : List ℕ} → (paper_of r).number ≡ 0 → IsScanned ring line k words' s out'
      → (scan_paper_of s).number ≡ 0 → (paper_of r).counts.forward ≡ (scan_paper_of s).counts
  forward_is_scan zero_is scan accepted = ap (λ (c : TwoWayCounts). c.forward) (two_way_counts_are zero_is) ∙ sym (pass_is_scan scan accepted)

  -- The backward pass has the found and looks of every accepted scan for the reversed ring.
  pub backward_is_scan : {words' : List ℕ} {s : Result SearchCounts Refusal} {out' : List ℕ} → (paper_of r).number ≡ 0 → IsScanned (reversed_ring ring) line k words' s out'
      → (scan_paper_of s).number ≡ 0 → (paper_of r).counts.backward ≡ (scan_paper_of s).counts
  backward_is_scan zero_is scan accepted = ap (λ (c : TwoWayCounts). c.backward) (two_way_counts_are zero_is) ∙ sym (pass_is_scan scan accepted)

  -- After an accepted call: the forward findings' words, the backward findings' words, then the words as they were.
  pub two_way_words_are : (paper_of r).number ≡ 0 → out ≡ written (words_of (findings ring line k) ++ words_of (findings (reversed_ring ring) line k)) words
  unfolding two_way_answer two_way_words
  two_way_words_are zero_is =
      accepted_area no_two_way_counts (two_way_counts ring line k) (first_given rows) meets.paper (written (words_of (two_way_findings ring line k)) words) words
      meets.written (none_given zero_is)
      ∙ ap (λ (numbers : List ℕ). written numbers words) (words_append (findings ring line k) (findings (reversed_ring ring) line k))

  -- If P holds for 0, and for the looks of each pass if no row is given, then P holds for the looks of each pass, accepted or refused.
  looks_by : (P : ℕ → Type 0) → P 0 → (first_given rows ≡ None → P (quick_looks ring line k) × P (quick_looks (reversed_ring ring) line k))
      → P (paper_of r).counts.forward.looks × P (paper_of r).counts.backward.looks
  unfolding two_way_answer
  looks_by P zero_has each =
      ⊎_elim
      (λ zero_le. let zero_is : (paper_of r).number ≡ 0 = omega arith in rw (two_way_counts_are zero_is) (each (none_given zero_is)))
      (λ refused. rw (refused_counts no_two_way_counts (two_way_counts ring line k) (first_given rows) meets.paper refused) (zero_has, zero_has))
      (le_or_lt (paper_of r).number 0)

  -- The looks of each pass of an accepted call: "For n ≥ m they are never above 3·m·n − 2·m·m + m".
  pub two_way_looks_le : (paper_of r).number ≡ 0 → length ring ≤ length line
      → ((paper_of r).counts.forward.looks ≤ 3 * length ring * length line - 2 * length ring * length ring + length ring)
      × ((paper_of r).counts.backward.looks ≤ 3 * length ring * length line - 2 * length ring * length ring + length ring)
  two_way_looks_le zero_is long =
      let back : ℕ = quick_looks (reversed_ring ring) line k in
      rw (two_way_counts_are zero_is) (
        quick_looks_le ring line k long,
        subst (λ (m : ℕ). m ≤ length line → back ≤ 3 * m * length line - 2 * m * m + m) (reversed_length ring) (quick_looks_le (reversed_ring ring) line k) long,
      )

  -- The looks of each pass are at most 3·m·n on every input, accepted or refused.
  pub two_way_looks_most : ((paper_of r).counts.forward.looks ≤ 3 * length ring * length line) × ((paper_of r).counts.backward.looks ≤ 3 * length ring * length line)
  two_way_looks_most =
      looks_by (λ (looks : ℕ). looks ≤ 3 * length ring * length line) (omega arith)
      (λ given.
      let edge = ((two_way_no_row_iff ring k (length line) (length words)).0 given).some_edge in
      let back : ℕ = quick_looks (reversed_ring ring) line k in
      (quick_looks_most ring line k edge, subst (λ (m : ℕ). 0 < m → back ≤ 3 * m * length line) (reversed_length ring) (quick_looks_most (reversed_ring ring) line k) edge))

  -- On a line shorter than the ring neither pass takes a look, accepted or refused.
  pub two_way_no_looks : length line < length ring → ((paper_of r).counts.forward.looks ≡ 0) × ((paper_of r).counts.backward.looks ≡ 0)
  two_way_no_looks short =
      let same = reversed_length ring in
      looks_by (λ (looks : ℕ). looks ≡ 0) refl (λ _. (quick_looks_short ring line k short, quick_looks_short (reversed_ring ring) line k (omega (arith, same))))
