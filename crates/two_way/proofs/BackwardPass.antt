-- The second pass. The scan is lent the first m places of the array that `reverse` has filled, which are the reversed ring, and the words behind those of the
-- forward findings. It does not refuse (PassesAccepted), so it counts and writes all backward findings; put back into the whole, its part of the words stands
-- right behind the forward findings' words.
use Prim.Native.Nat.{ℕ, ◌-◌, ◌*◌, ◌≤◌}
use mathlib.Core.Path.{◌≡◌, refl, sym, ap, subst, ◌∙◌}
use mathlib.Core.List.{List, [], ◌++◌, append-nil}
use Rattle.std.specs.Prelude.{None}
use Rattle.std.specs.Prelude.{Result, Ok, Err}
use native.Mathlib.Omega.{arith}
use lib.ListN.{length, take, drop, length-drop}
use lib.Seq.{take_all, drop-length}
use Rattle.lists.specs.Areas.{written_at}
use Rattle.meaning.specs.Findings.{findings, words_each}
use Rattle.answers.specs.declared.refusals.Refusal.{Refusal}
use Rattle.answers.specs.Paper.{accepted}
use Rattle.answers.specs.Rows.{first_given}
use Rattle.reversal.specs.Reversing.{reversed_ring, IsReversed}
use Rattle.reversal.proofs.ReversedFirst.{reversed_room, reversed_first}
use Rattle.findings.specs.declared.searching.SearchCounts.{SearchCounts}
use Rattle.findings.specs.Admitting.{admit_rows}
use Rattle.findings.specs.Searching.{Counts}
use Rattle.findings.proofs.SearchGives.{accepted_words}
use Rattle.outlines.specs.Scan.{IsScanned}
use Rattle.findings.specs.Searching.{counts_of}
use Rattle.two_way.specs.Passes.{CanScanBackward, IsScannedBackward}
use Rattle.two_way.proofs.PassesAccepted.{never_refused, forward_found_le, forward_words_le, backward_accepted, pass_is_scan}

module _ (ring line : List ℕ) (k : ℕ) (words : List ℕ) (forward : SearchCounts) (can : CanScanBackward ring line k words forward) where
  -- how many words the forward findings have
  abbrev behind : ℕ
  behind = words_each * forward.found

  -- There are at most 65,536 forward findings.
  pub found_le : forward.found ≤ 65536
  found_le = omega (arith, can.found_is, forward_found_le ring line k (length words) can.admitted, can.admitted.most_line)

  -- Their words fit in the words lent.
  pub behind_le : behind ≤ length words
  behind_le = omega (arith, can.found_is, forward_words_le ring line k (length words) can.admitted)

  module _ (back : List ℕ) (reversed : IsReversed ring back) where
    -- The array has as many places as the ring.
    pub ring_le : length ring ≤ length back
    ring_le = omega (arith, reversed_room ring back reversed, can.admitted.most_ring)

    -- the words lent to the scan are all those behind
    lent_is : take (length words - behind) (drop behind words) ≡ drop behind words
    lent_is = take_all (length words - behind) (drop behind words) (omega (arith, length-drop behind words))

    -- so it is a scan for the reversed ring with these words
    as_scan : {s : Result SearchCounts Refusal} {part : List ℕ} → IsScanned (take (length ring) back) line k (take (length words - behind) (drop behind words)) s part
        → IsScanned (reversed_ring ring) line k (drop behind words) s part
    as_scan {s} {part} scanned =
        subst (λ (lent : List ℕ). IsScanned (reversed_ring ring) line k lent s part) lent_is
        (subst (λ (r : List ℕ). IsScanned r line k (take (length words - behind) (drop behind words)) s part) (reversed_first ring back can.admitted.most_ring reversed) scanned)

    -- of which no row is given
    none_given : first_given (admit_rows (reversed_ring ring) k (length line) (length (drop behind words))) ≡ None
    none_given =
        let size : length (drop behind words) ≡ length words - words_each * length (findings ring line k) = omega (arith, length-drop behind words, can.found_is) in
        ap (λ (room : ℕ). first_given (admit_rows (reversed_ring ring) k (length line) room)) size ∙ backward_accepted ring line k (length words) can.admitted

    -- The scan does not refuse.
    pub backward_not_refused : {refusal : Refusal} {part : List ℕ}
        → IsScanned (take (length ring) back) line k (take (length words - behind) (drop behind words)) (Err refusal) part → ⊥
    backward_not_refused scanned = never_refused none_given (as_scan scanned)

    -- With its counts, and its words put back behind the forward ones, the contract of `scan_backward` is met.
    pub scanned_backward : {backward : SearchCounts} {part : List ℕ}
        → IsScanned (take (length ring) back) line k (take (length words - behind) (drop behind words)) (Ok backward) part
        → IsScannedBackward ring line k words forward (Ok (record { forward = forward; backward = backward }))
        (take behind words ++ (part ++ drop (length words - behind) (drop behind words)))
    unfolding written_at
    scanned_backward {part = part} scanned =
        let scan = as_scan scanned in
        let nothing_left : drop (length words - behind) (drop behind words) ≡ [] =
        ap (λ (n : ℕ). drop n (drop behind words)) (sym (length-drop behind words)) ∙ drop-length (drop behind words) in
        record {
          answer_is = ap (λ (c : Counts). accepted (record { forward = counts_of forward; backward = c })) (pass_is_scan scan refl);
          written = ap (λ (l : List ℕ). take behind words ++ l) (ap (λ (l : List ℕ). part ++ l) nothing_left ∙ append-nil part ∙ accepted_words scan none_given);
        }
