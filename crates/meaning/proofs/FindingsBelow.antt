-- The findings at places below i. Each place adds at most one, and a place without a finding adds none. So if no place from s on is a start, the findings
-- below s are all findings. For n ≥ m there are at most n − m + 1, one for each window. In a line shorter than the ring there are none.
use Prim.Native.Nat.{ℕ, zero, suc, ◌+◌, ◌-◌, ◌≤◌, ◌<◌}
use mathlib.Core.Path.{◌≡◌, sym, ap, ap₂, ◌∙◌}
use mathlib.Core.Bool.{◌&&◌}
use mathlib.Core.List.{List, [], ◌++◌, append-nil}
use native.Mathlib.Nat.{add-zero, add-suc}
use native.Mathlib.Omega.{arith}
use lib.Dec.{leb}
use lib.ListN.{length, length-append}
use Rattle.meaning.specs.Meanings.{IsPastLine, is_start, least_distance}
use Rattle.meaning.specs.Findings.{Finding, found_at, findings_below, findings}
use Rattle.lists.proofs.Cases.{by_test}
use Rattle.meaning.proofs.Starts.{past_no_start}
use Rattle.meaning.proofs.Places.{found_no_start}

-- A place has at most one finding.
found_length_le : (ring line : List ℕ) (k i : ℕ) → length (found_at ring line k i) ≤ 1
unfolding found_at
found_length_le ring line k i =
    by_test (λ (l : List Finding). length l ≤ 1) (is_start ring line i && leb (least_distance ring line i) k) (λ _. omega arith) (λ _. omega arith)

-- There are at most i findings below place i.
pub below_length_le : (ring line : List ℕ) (k i : ℕ) → length (findings_below ring line k i) ≤ i
unfolding findings_below
below_length_le ring line k zero = omega arith
below_length_le ring line k (suc i) =
    omega (
      arith,
      length-append (findings_below ring line k i) (found_at ring line k i),
      below_length_le ring line k i,
      found_length_le ring line k i,
    )

module _ (ring line : List ℕ) (k : ℕ) where
  -- If the d places from i on have no finding, the findings below i + d are the findings below i.
  pub below_same : (i d : ℕ) → ((j : ℕ) → i ≤ j → j < i + d → found_at ring line k j ≡ []) → findings_below ring line k (i + d) ≡ findings_below ring line k i
  unfolding findings_below
  below_same i zero h = rw add-zero
  below_same i (suc d) h =
      ap (findings_below ring line k) (add-suc i d)
      ∙ ap₂ (λ (a b : List Finding). a ++ b) (below_same i d (λ j lo hi. h j lo (omega arith))) (h (i + d) (omega arith) (omega arith))
      ∙ append-nil _

  -- If s ≤ n and a window at s would reach past the line's end, all findings are below s.
  pub findings_below_lem : (s : ℕ) → s ≤ length line → IsPastLine ring line s → findings ring line k ≡ findings_below ring line k s
  findings_below_lem s in_line past =
      let all : s + (length line - s) ≡ length line = omega arith in
      sym (ap (findings_below ring line k) all)
      ∙ below_same s (length line - s) (λ j lo hi. found_no_start ring line k j (past_no_start ring line j (omega arith)))

  -- For n ≥ m and a ring that is not empty, there are at most n − m + 1 findings. (So `words_each`·(n − m + 1) words are room for all, by `words_length`.)
  pub findings_length_le : 0 < length ring → length ring ≤ length line → length (findings ring line k) ≤ length line - length ring + 1
  findings_length_le pos h =
      let s : ℕ = length line - length ring + 1 in
      rw (findings_below_lem s (omega arith) (omega arith)) (below_length_le ring line k s)

  -- A line shorter than the ring has "zero findings".
  pub findings_short : length line < length ring → findings ring line k ≡ []
  unfolding findings_below
  findings_short h = findings_below_lem 0 (omega arith) (omega arith)
