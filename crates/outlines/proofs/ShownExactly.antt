-- A finding of ring and line is hidden exactly when some silence has its cell, ring number and start, and a ceiling of at least its distance (`Hides`); it is
-- shown exactly when none does. Both lists are made by the test `is_hidden` (`taken_iff`), which decides that (`hides_iff` of crates/silences).
use Prim.Native.Nat.{ℕ, ◌<◌}
use mathlib.Core.Path.{◌≡◌, refl, sym, ◌∙◌}
use mathlib.Core.Bool.{Bool, true, false, not, false≢true}
use mathlib.Core.Logic.Iff
use mathlib.Core.Logic.{◌↔◌}
use mathlib.Core.List.{List, Memᴰ}
use lib.ListN.{length}
use Rattle.meaning.specs.Findings.{Finding, IsFinding, findings}
use Rattle.meaning.proofs.FoundExactly.{findings_iff}
use Rattle.silences.specs.Silences.{Silence, Hides}
use Rattle.silences.proofs.HidesIff.{hides_iff}
use Rattle.outlines.specs.Report.{is_hidden, is_shown, shown, hidden}
use Rattle.outlines.proofs.TakenByTest.{taken_iff}

module _ (silences : List Silence) (cell ring_number : ℕ) where
  -- The test `is_shown` is true exactly when the silences do not hide the finding.
  not_hidden_iff : (f : Finding) → (is_shown silences cell ring_number f ≡ true) ↔ (Hides silences cell ring_number f.start f.distance → ⊥)
  not_hidden_iff f = go (is_hidden silences cell ring_number f) refl
    where
      go : (t : Bool) → is_hidden silences cell ring_number f ≡ t → (not t ≡ true) ↔ (Hides silences cell ring_number f.start f.distance → ⊥)
      go true e = (λ q. absurd (false≢true q), λ never. absurd (never ((hides_iff cell ring_number f.start f.distance silences).0 e)))
      go false e = (λ _ n. false≢true (sym e ∙ (hides_iff cell ring_number f.start f.distance silences).1 n), λ _. refl)

  module _ (ring line : List ℕ) (k : ℕ) (pos : 0 < length ring) (f : Finding) where
    -- For a ring that is not empty, f is among the shown exactly when it is a finding and the silences do not hide it.
    pub shown_iff : Memᴰ f (shown silences cell ring_number (findings ring line k))
        ↔ (IsFinding ring line k f × (Hides silences cell ring_number f.start f.distance → ⊥))
    shown_iff = Iff.trans (taken_iff (is_shown silences cell ring_number) (findings ring line k) f) (Iff.and (findings_iff ring line k pos f) (not_hidden_iff f))

    -- For a ring that is not empty, f is among the hidden exactly when it is a finding and some silence has its cell, ring number and start,
    -- and its distance is at most the ceiling.
    pub hidden_iff : Memᴰ f (hidden silences cell ring_number (findings ring line k))
        ↔ (IsFinding ring line k f × Hides silences cell ring_number f.start f.distance)
    hidden_iff = Iff.trans (taken_iff (is_hidden silences cell ring_number) (findings ring line k) f) (Iff.and (findings_iff ring line k pos f) (hides_iff cell ring_number f.start f.distance silences))
