-- Rules 1 to 4 report exactly the findings. (Rule 5 decides no finding; that a tally moved by it holds the distances is proved in crates/moves, from
-- `distance_step` of TallyStep.) Induction over the windows from place i on: the findings below i, followed by what these windows report, are all findings. A
-- candidate reports its own place; a window that was stopped jumps over places without a finding (`nothing_lost`); past the last window no place is a
-- start (`findings_below_lem`).
use Prim.Native.Nat.{ℕ, suc, ◌+◌, ◌-◌, ◌<◌, min}
use mathlib.Core.Path.{◌≡◌, sym, ◌∙◌}
use mathlib.Core.Logic.{⊎_elim}
use mathlib.Core.List.{List, [], ◌∷◌, ◌++◌, append-nil, append_assoc}
use native.Mathlib.Omega.{arith}
use lib.ListN.{length}
use Rattle.meaning.specs.Meanings.{FitsInLine, IsPastLine}
use Rattle.meaning.specs.Findings.{findings_below, findings}
use Rattle.meaning.specs.Rules.{Reading, read_window, next_start, candidates_of, reported, quick_findings}
use Rattle.meaning.proofs.FindingsBelow.{below_same, findings_below_lem}
use Rattle.meaning.proofs.WindowRead.{window_read, candidate_yes, candidate_no}
use Rattle.meaning.proofs.NothingLost.{nothing_lost}
use Rattle.meaning.proofs.WindowSteps.{windows_start, windows_induct}

module _ (ring line : List ℕ) (k : ℕ) where
  -- The findings below i, followed by what the windows report, are all findings.
  abbrev Rest : ℕ → List Reading → Type 0
  Rest i ws = findings_below ring line k (min i (length line)) ++ reported ring line k (candidates_of ring k ws) ≡ findings ring line k

  module _ (pos : 0 < length ring) where
    -- Past the last window no place is a start.
    rest_end : (i : ℕ) → IsPastLine ring line i → Rest i []
    unfolding candidates_of reported
    rest_end i h = append-nil _ ∙ sym (findings_below_lem ring line k (min i (length line)) (omega arith) (omega arith))

    -- A candidate reports its own place; a window that was stopped jumps over places without a finding.
    rest_step : (i : ℕ) (ws : List Reading) → FitsInLine ring line i → Rest (next_start ring (read_window ring line k i)) ws
        → Rest i (read_window ring line k i ∷ ws)
    unfolding candidates_of reported findings_below
    rest_step i ws in_line h =
        let w : Reading = read_window ring line k i in
        let was = window_read ring line k i in
        let here : min i (length line) ≡ i = omega arith in
        ⊎_elim
        (λ all.
        let there : min (next_start ring w) (length line) ≡ suc i = omega (arith, was.start_is, all.0) in
        rw (candidate_yes ring k w all.0 all.1, was.start_is, here, ← append_assoc) (rw there at h))
        (λ stop.
        let d : ℕ = min (next_start ring w) (length line) - i in
        let there : min (next_start ring w) (length line) ≡ i + d = omega (arith, was.start_is) in
        let jumped : findings_below ring line k (i + d) ≡ findings_below ring line k i =
        below_same ring line k i d (λ j lo hi. nothing_lost ring line pos k i j lo (omega arith) stop)
        in
        rw (candidate_no ring k w stop, here) (rw (there, jumped) at h))
        was.ended

    -- For a ring that is not empty, the rules of the quick scan report exactly the findings.
    pub quick_finds_all : quick_findings ring line k ≡ findings ring line k
    unfolding findings_below
    quick_finds_all =
        let none : min 0 (length line) ≡ 0 = omega arith in
        rw windows_start (rw none at (windows_induct ring line k Rest rest_end (λ i. rest_step i _) 0))
