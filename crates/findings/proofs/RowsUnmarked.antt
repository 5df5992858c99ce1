-- For a ring and a line without marks survey and scan answer as they did before ticket 2. Row 12 is never given then, and a row that is not given can be left out of
-- the list; the findings are those of document 01 alone (`findings_before_lem` of crates/meaning).
use Prim.Native.Nat.{ℕ}
use mathlib.Core.Path.{◌≡◌, refl, ap₂}
use mathlib.Core.Bool.{false}
use mathlib.Core.List.{List, ◌∷◌}
use Rattle.std.specs.Prelude.{Option, None, Some}
use lib.ListN.{length}
use Rattle.lists.specs.Areas.{written}
use Rattle.meaning.specs.Meanings.{holds_mark}
use Rattle.meaning.specs.Findings.{Finding, words_of}
use Rattle.meaning.specs.BeforeMarks.{findings_before}
use Rattle.meaning.proofs.WithoutMarks.{findings_before_lem}
use Rattle.answers.specs.declared.refusals.Refusal.{Refusal}
use Rattle.answers.specs.declared.refusals.Refusal.TheVariants.{RingMark}
use Rattle.answers.specs.Rows.{first_given, answer_by, area_by}
use Rattle.findings.specs.Admitting.{ring_rows, limit_rows, admit_rows}
use Rattle.findings.specs.Searching.{Counts, searched, searched_words}
use Rattle.findings.specs.BeforeMarks.{rows_before}
use Rattle.findings.proofs.LimitRows.{unmarked}
use Rattle.findings.proofs.AdmitRows.{row_12_iff}

-- A second row that is not given can be left out.
pub second_left_out : (first : Option Refusal) (rows : List (Option Refusal)) → first_given (first ∷ None ∷ rows) ≡ first_given (first ∷ rows)
unfolding first_given
second_left_out None rows = refl
second_left_out (Some refusal) rows = refl

module _ (ring : List ℕ) (k n room : ℕ) (no_mark : holds_mark ring ≡ false) where
  -- A ring without marks is never refused by 12.
  pub row_12_never : first_given (admit_rows ring k n room) ≡ Some RingMark → ⊥
  row_12_never e = unmarked refl no_mark ((row_12_iff ring k n room).0 e).1

  -- For a ring without marks the first row that is given is the first of the four that were there before.
  pub rows_unmarked : first_given (admit_rows ring k n room) ≡ first_given (rows_before (length ring) k n room)
  unfolding ring_rows limit_rows admit_rows rows_before
  rows_unmarked = rw no_mark (second_left_out _ _)

module _ (ring line : List ℕ) (k : ℕ) (no_mark : holds_mark ring ≡ false) (unmarked_line : holds_mark line ≡ false) where
  -- For a ring and a line without marks a search answers as before.
  pub search_unmarked : (room looks : ℕ)
      → searched (admit_rows ring k (length line) room) ring line k looks
      ≡ answer_by (first_given (rows_before (length ring) k (length line) room)) (record { found = length (findings_before ring line k); looks = looks })
  unfolding searched
  search_unmarked room looks =
      ap₂ (λ (refusal : Option Refusal) (fs : List Finding). answer_by {A = Counts} refusal (record { found = length fs; looks = looks }))
      (rows_unmarked ring k (length line) room no_mark) (findings_before_lem ring line k unmarked_line)

  -- For a ring and a line without marks the lent words after a search are as before.
  pub words_unmarked : (words : List ℕ)
      → searched_words (admit_rows ring k (length line) (length words)) ring line k words
      ≡ area_by (first_given (rows_before (length ring) k (length line) (length words))) (written (words_of (findings_before ring line k)) words) words
  unfolding searched_words
  words_unmarked words =
      ap₂ (λ (refusal : Option Refusal) (fs : List Finding). area_by refusal (written (words_of fs) words) words)
      (rows_unmarked ring k (length line) (length words) no_mark) (findings_before_lem ring line k unmarked_line)
