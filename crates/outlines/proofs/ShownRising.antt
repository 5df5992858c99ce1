-- The starts of the shown findings rise strictly, and so do those of the hidden ones. So no finding is counted twice, and hidden counts findings, not records.
-- The words after those of the last shown finding keep their values.
use Prim.Native.Nat.{ℕ, ◌+◌, ◌-◌, ◌*◌}
use mathlib.Core.Path.{◌≡◌, sym, ap, subst, ◌∙◌}
use mathlib.Core.List.{List}
use native.Mathlib.Omega.{arith}
use lib.ListN.{length, get_or}
use Rattle.meaning.specs.Findings.{findings, words_each, words_of}
use Rattle.lists.specs.Areas.{written}
use Rattle.meaning.specs.Findings.{Rising}
use Rattle.meaning.proofs.Rising.{findings_rising}
use Rattle.meaning.proofs.Words.{words_length}
use Rattle.lists.proofs.Areas.{written_rest}
use Rattle.silences.specs.Silences.{Silence}
use Rattle.silences.specs.Reading.{silences_read}
use Rattle.outlines.specs.Report.{is_hidden, is_shown, shown, hidden}
use Rattle.outlines.specs.LineScan.{LineScanned}
use Rattle.outlines.proofs.TakenByTest.{taken_rising}
use Rattle.outlines.proofs.ShownAndHidden.{shown_hidden_length}

module _ (silences : List Silence) (cell ring_number : ℕ) where
  module _ (ring line : List ℕ) (k : ℕ) where
    -- The starts of the shown findings rise strictly and are below n.
    pub shown_rising : Rising 0 (length line) (shown silences cell ring_number (findings ring line k))
    shown_rising = taken_rising (is_shown silences cell ring_number) 0 0 (length line) (findings ring line k) (omega arith) (findings_rising ring line k)

    -- The starts of the hidden findings rise strictly and are below n.
    pub hidden_rising : Rising 0 (length line) (hidden silences cell ring_number (findings ring line k))
    hidden_rising = taken_rising (is_hidden silences cell ring_number) 0 0 (length line) (findings ring line k) (omega arith) (findings_rising ring line k)

module _ (cell ring_number : ℕ) (ring line : List ℕ) (k : ℕ) (book words : List ℕ) (found hid looks : ℕ) (out : List ℕ)
    (given : LineScanned cell ring_number ring line k book words found hid looks out) where
  -- "found (hidden ones included)": found - hidden is the number of shown findings
  found_shown_is : found - hid ≡ length (shown (silences_read book) cell ring_number (findings ring line k))
  found_shown_is = omega (arith, given.found_is, given.hidden_is, shown_hidden_length (silences_read book) cell ring_number (findings ring line k))

  -- "Words after the last one written keep their values." These are the words from `words_each`·(found - hidden) on.
  pub report_words_rest : (j : ℕ) → get_or out (words_each * (found - hid) + j) 0 ≡ get_or words (words_each * (found - hid) + j) 0
  report_words_rest j =
      let put : List ℕ = words_of (shown (silences_read book) cell ring_number (findings ring line k)) in
      let at : length put ≡ words_each * (found - hid) =
      words_length (shown (silences_read book) cell ring_number (findings ring line k)) ∙ ap (λ (n : ℕ). words_each * n) (sym found_shown_is) in
      ap (λ (l : List ℕ). get_or l (words_each * (found - hid) + j) 0) given.words_are
      ∙ subst (λ (n : ℕ). get_or (written put words) (n + j) 0 ≡ get_or words (n + j) 0) at (written_rest put words j)
