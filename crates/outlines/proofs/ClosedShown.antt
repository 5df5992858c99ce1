-- Which findings of a closed line are shown and which are hidden, in the words of the closed meaning: the line's places are taken mod n (`IsClosedFinding`).
-- The findings of the list `closed_line` are those of the closed line (ClosedFindings of crates/meaning), and ShownExactly has the two lists for any line.
use Prim.Native.Nat.{ℕ, ◌<◌}
use mathlib.Core.Logic.Iff
use mathlib.Core.Logic.{◌↔◌}
use mathlib.Core.List.{List, Memᴰ}
use native.Mathlib.Omega.{arith}
use lib.ListN.{length}
use Rattle.meaning.specs.Findings.{Finding, findings, Rising}
use Rattle.meaning.specs.Closed.{closed_line, IsClosedFinding}
use Rattle.meaning.proofs.ClosedFindings.{closed_finding_iff, closed_findings_rising}
use Rattle.silences.specs.Silences.{Silence, Hides}
use Rattle.outlines.specs.Report.{is_hidden, is_shown, shown, hidden}
use Rattle.outlines.proofs.TakenByTest.{taken_rising}
use Rattle.outlines.proofs.ShownExactly.{shown_iff, hidden_iff}

module _ (silences : List Silence) (cell ring_number : ℕ) (ring line : List ℕ) (k : ℕ) (pos : 0 < length ring) where
  -- the findings of the closed line
  abbrev found : List Finding
  found = findings ring (closed_line (length ring) line) k

  -- For a ring that is not empty, f is among the shown exactly when it is a finding of the closed line and the silences do not hide it.
  pub closed_shown_iff : (f : Finding) → Memᴰ f (shown silences cell ring_number found) ↔ (IsClosedFinding ring line k f × (Hides silences cell ring_number f.start f.distance → ⊥))
  closed_shown_iff f =
      Iff.trans (shown_iff silences cell ring_number ring (closed_line (length ring) line) k pos f) (Iff.and (closed_finding_iff ring line pos k f) Iff.rfl)

  -- For a ring that is not empty, f is among the hidden exactly when it is a finding of the closed line and some silence has its cell, ring
  -- number and start, and its distance is at most the ceiling.
  pub closed_hidden_iff : (f : Finding) → Memᴰ f (hidden silences cell ring_number found) ↔ (IsClosedFinding ring line k f × Hides silences cell ring_number f.start f.distance)
  closed_hidden_iff f =
      Iff.trans (hidden_iff silences cell ring_number ring (closed_line (length ring) line) k pos f) (Iff.and (closed_finding_iff ring line pos k f) Iff.rfl)

  -- The starts of the shown findings rise strictly and are below n.
  pub closed_shown_rising : Rising 0 (length line) (shown silences cell ring_number found)
  closed_shown_rising = taken_rising (is_shown silences cell ring_number) 0 0 (length line) found (omega arith) (closed_findings_rising ring line pos k)

  -- The starts of the hidden findings rise strictly and are below n.
  pub closed_hidden_rising : Rising 0 (length line) (hidden silences cell ring_number found)
  closed_hidden_rising = taken_rising (is_hidden silences cell ring_number) 0 0 (length line) found (omega arith) (closed_findings_rising ring line pos k)
