-- Closing a line loses no finding. A window that fits in the open line has the same edges in the closed one, so its finding stays, with the same four
-- numbers. Only findings whose windows cross the line's end are added.
use Prim.Native.Nat.{ℕ, ◌+◌, ◌<◌}
use mathlib.Core.Logic.{◌↔◌}
use mathlib.Core.List.{List, Memᴰ}
use native.Mathlib.Omega.{arith}
use lib.ListN.{length}
use Rattle.meaning.specs.Meanings.{FitsInLine}
use Rattle.meaning.specs.Findings.{Finding, IsFinding, findings}
use Rattle.meaning.specs.Closed.{closed_line}
use Rattle.meaning.proofs.FoundExactly.{findings_iff}
use Rattle.meaning.proofs.SameWindow.{SameWindow, same_sym, same_finding}
use Rattle.meaning.proofs.ClosedLine.{closed_begins}
use Rattle.meaning.proofs.ClosedFindings.{closed_fits_iff}

module _ (ring line : List ℕ) where
  abbrev m : ℕ
  m = length ring

  abbrev closed : List ℕ
  closed = closed_line m line

  -- A window that fits in the open line has the same edges in the closed one.
  pub open_window : (i : ℕ) → FitsInLine ring line i → SameWindow m line i closed i
  open_window i fits = same_sym (record { edge_is = λ q l. closed_begins m line (i + q) (omega (arith, fits.in_line)) })

  module _ (pos : 0 < m) (k : ℕ) where
    -- The findings of the open line are exactly those of the closed one whose window fits in the open line.
    pub open_finding_iff : (f : Finding) → IsFinding ring line k f ↔ (FitsInLine ring line f.start × IsFinding ring closed k f)
    open_finding_iff f = (
      λ is.
          let fits : FitsInLine ring line f.start = is.is_start.fits_in_line in
          let fits_closed : FitsInLine ring closed f.start = (closed_fits_iff ring line pos f.start).1 (omega arith, omega arith) in
          (fits, same_finding ring line closed k f (open_window f.start fits) fits_closed is),
      λ h. same_finding ring closed line k f (same_sym (open_window f.start h.0)) h.0 h.1,
    )

    -- Every finding of the open line is a finding of the closed one, with the same four numbers.
    pub open_finding : (f : Finding) → IsFinding ring line k f → IsFinding ring closed k f
    open_finding f is = ((open_finding_iff f).0 is).1

    -- Every member of the open line's findings is a member of the closed line's.
    pub open_findings : (f : Finding) → Memᴰ f (findings ring line k) → Memᴰ f (findings ring closed k)
    open_findings f h = (findings_iff ring closed k pos f).1 (open_finding f ((findings_iff ring line k pos f).0 h))
