-- Shown and hidden together are the findings: each finding is in exactly one of the two lists, because one test, `is_hidden`, decides. So their lengths add up.
use Prim.Native.Nat.{ℕ, ◌+◌}
use mathlib.Core.Path.{◌≡◌, refl, sym, ap, ◌∙◌}
use mathlib.Core.Bool.{Bool, true, false, not, true≢false}
use mathlib.Core.Logic.{◌↔◌, ◌⊎◌, inl, inr, ⊎_elim}
use mathlib.Core.List.{List, Memᴰ}
use lib.ListN.{length}
use Rattle.meaning.specs.Findings.{Finding}
use Rattle.silences.specs.Silences.{Silence}
use Rattle.outlines.specs.Report.{is_hidden, is_shown, shown, hidden}
use Rattle.outlines.proofs.TakenByTest.{taken_iff, taken_or_not_length}

module _ (silences : List Silence) (cell ring_number : ℕ) where
  -- Of any list of findings, the numbers of shown and of hidden ones add up to its length.
  pub shown_hidden_length : (fs : List Finding) → length (shown silences cell ring_number fs) + length (hidden silences cell ring_number fs) ≡ length fs
  shown_hidden_length fs = taken_or_not_length (is_hidden silences cell ring_number) fs

  module _ (fs : List Finding) (f : Finding) where
    -- A finding is in the list exactly when it is among the shown or among the hidden ones.
    pub shown_or_hidden_iff : Memᴰ f fs ↔ (Memᴰ f (shown silences cell ring_number fs) ⊎ Memᴰ f (hidden silences cell ring_number fs))
    shown_or_hidden_iff = (
      go (is_hidden silences cell ring_number f) refl,
      ⊎_elim (λ s. ((taken_iff (is_shown silences cell ring_number) fs f).0 s).0) (λ h. ((taken_iff (is_hidden silences cell ring_number) fs f).0 h).0),
    )
      where
        go : (t : Bool) → is_hidden silences cell ring_number f ≡ t → Memᴰ f fs
            → Memᴰ f (shown silences cell ring_number fs) ⊎ Memᴰ f (hidden silences cell ring_number fs)
        go true e m = inr ((taken_iff (is_hidden silences cell ring_number) fs f).1 (m, e))
        go false e m = inl ((taken_iff (is_shown silences cell ring_number) fs f).1 (m, ap not e))

    -- No finding is both shown and hidden.
    pub shown_not_hidden : Memᴰ f (shown silences cell ring_number fs) → Memᴰ f (hidden silences cell ring_number fs) → ⊥
    shown_not_hidden s h =
        true≢false (sym ((taken_iff (is_shown silences cell ring_number) fs f).0 s).1 ∙ ap not ((taken_iff (is_hidden silences cell ring_number) fs f).0 h).1)
