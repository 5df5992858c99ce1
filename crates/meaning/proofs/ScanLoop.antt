-- The loop over the windows of a line: its invariant before the window at i, and its turns. What is found so far, followed by what the windows from i on
-- report, is the list of findings; the looks so far, plus what these windows still cost, are all looks.
use Prim.Native.Nat.{ℕ, ◌+◌, ◌-◌, ◌≤◌, ◌<◌}
use mathlib.Core.Path.{◌≡◌, sym, ap, ◌∙◌}
use mathlib.Core.Bool.{true, false, true≢false}
use mathlib.Core.Logic.{⊎_elim}
use mathlib.Core.List.{List, [], ◌++◌, append-nil, append_assoc}
use Rattle.std.specs.Prelude.{Option, None, Some}
use native.Mathlib.Omega.{arith}
use lib.ListN.{length, length-append}
use Rattle.meaning.specs.Meanings.{FitsInLine, IsPastLine}
use Rattle.meaning.specs.Findings.{Finding, found_at, findings}
use Rattle.meaning.specs.Rules.{Reading, is_stopped, read_window, candidates_of, reported}
use Rattle.meaning.specs.Looks.{read_looks, tally_looks, verify_looks, quick_looks}
use Rattle.meaning.proofs.WindowRead.{window_read, candidate_yes, candidate_no}
use Rattle.meaning.proofs.WindowSteps.{windows_at, windows_start, windows_step, windows_end}
use Rattle.meaning.proofs.QuickFindsAll.{quick_finds_all}

module _ (ring line : List ℕ) (k : ℕ) where
  abbrev m : ℕ
  m = length ring

  -- The invariant before the window at i: `last` is the last verified start, `found` and `looks` are the findings and the looks so far.
  pub record ScanLoop (i : ℕ) (last : Option ℕ) (found : List Finding) (looks : ℕ) : Type 0 where
    pub found_are : found ++ reported ring line k (candidates_of ring k (windows_at ring line k i)) ≡ findings ring line k
    pub looks_are : looks + (read_looks (windows_at ring line k i) + verify_looks m last (candidates_of ring k (windows_at ring line k i)))
        ≡ quick_looks ring line k

  -- The invariant holds before the first window, with nothing found and no looks.
  pub scan_start : 0 < m → ScanLoop 0 None [] 0
  scan_start pos = record { found_are = rw windows_start at (quick_finds_all ring line k pos); looks_are = rw windows_start (omega arith) }

  module _ (i : ℕ) (last : Option ℕ) (found : List Finding) (looks : ℕ) (h : ScanLoop i last found looks) where
    -- The looks so far are never above all looks of the quick scan.
    pub scan_so_far_le : looks ≤ quick_looks ring line k
    scan_so_far_le = omega (arith, h.looks_are)

    -- The findings so far are never more than all findings.
    pub scan_found_le : length found ≤ length (findings ring line k)
    scan_found_le =
        omega (arith, ap (λ (l : List Finding). length l) h.found_are, length-append found (reported ring line k (candidates_of ring k (windows_at ring line k i))))

    -- Past the last window, `found` is the list of findings, and `looks` are the looks of the quick scan.
    pub scan_end : IsPastLine ring line i → (found ≡ findings ring line k) × (looks ≡ quick_looks ring line k)
    unfolding candidates_of reported read_looks verify_looks
    scan_end over = (
      sym (append-nil found) ∙ rw (windows_end ring line k i over) at h.found_are,
      omega (arith, rw (windows_end ring line k i over) at h.looks_are),
    )

    module _ (in_line : FitsInLine ring line i) where
      abbrev w : Reading
      w = read_window ring line k i

      -- Where the window after the one at i starts: m − j + 1 further on, with j edges read.
      abbrev pub next_place : ℕ
      next_place = i + (m - w.read + 1)

      -- A candidate is verified: its finding, if it is one, is added at the end, and its start is now the last verified one.
      pub scan_verified : is_stopped k w ≡ false → ScanLoop next_place (Some i) (found ++ found_at ring line k i) (looks + w.read + tally_looks m last i)
      unfolding candidates_of reported read_looks verify_looks
      scan_verified goes_on =
          let was = window_read ring line k i in
          let all : w.read ≡ m = ⊎_elim (λ e. e.0) (λ stop. absurd (true≢false (sym stop ∙ goes_on))) was.ended in
          let yes = candidate_yes ring k w all goes_on in
          record {
            found_are = rw append_assoc (rw (windows_step ring line k i in_line, yes, was.start_is) at h.found_are);
            looks_are = omega (arith, rw (windows_step ring line k i in_line, yes, was.start_is) at h.looks_are);
          }

      -- A window that was stopped adds no finding; only its edges read are added to the looks.
      pub scan_stopped : is_stopped k w ≡ true → ScanLoop next_place last found (looks + w.read)
      unfolding candidates_of reported read_looks
      scan_stopped stop =
          let was = window_read ring line k i in
          let no = candidate_no ring k w stop in
          record {
            found_are = rw (windows_step ring line k i in_line, no, was.start_is) at h.found_are;
            looks_are = omega (arith, rw (windows_step ring line k i in_line, no, was.start_is) at h.looks_are);
          }
