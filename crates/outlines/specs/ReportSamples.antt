-- Samples of the report, computed by antt. Document 01, "Sample rings": "P2 with the one silence (7, 2, 10): as cell 7, ring 2 it shows starts 9 and 11, hidden
-- 1; as cell 8 all three." Also the example of the report program, with the silence (7, 2, 1), a silence for cell 0, which hides in cell 0 alone, and ceilings
-- (document 02, ticket 4).
use Rattle.std.specs.Prelude.{ℕ, ◌≡◌, refl, List, [], ◌∷◌, length}
use Rattle.lists.specs.Records.{numbers_of_each}
use Rattle.meaning.specs.Counting.{count, lowest, some_below}
use Rattle.meaning.specs.Meanings.{window, holds_mark, differs, distance, lowest_rotation, rotations_reaching}
use Rattle.meaning.specs.Findings.{found_at, findings_below, findings, words_of}
use Rattle.lists.specs.Areas.{written}
use Rattle.meaning.specs.Stretch.{begins, fits}
use Rattle.meaning.specs.Rules.{read_edge, read_left, read_window, windows_from, candidates_of, reported}
use Rattle.meaning.specs.Looks.{read_looks, tally_looks, verify_looks}
use Rattle.meaning.specs.Samples.{finding}
use Rattle.lists.specs.Texts.{ascii}
use Rattle.silences.specs.Silences.{address, Silence, silence, is_same, covers, hides}
use Rattle.outlines.specs.Report.{taken_by, shown, hidden, report_counts}

-- P2's ring.
unfoldable ring2 : List ℕ
ring2 = ascii "GGGTCTA"

-- P2's line.
unfoldable line2 : List ℕ
line2 = ascii "GATACGATACCTAGGGTGATAGAATAG"

-- "the one silence (7, 2, 10)"
unfoldable silence10 : List Silence
silence10 = silence (address 7 2 10) 0 ∷ []

-- "as cell 7, ring 2 it shows starts 9 and 11, hidden 1; as cell 8 all three". As cell 0, and as ring 3 of cell 7, nothing is hidden either.
sample_hidden : (shown silence10 7 2 (findings ring2 line2 1) ≡ finding 9 3 1 1 ∷ finding 11 5 1 1 ∷ [])
    × (length (hidden silence10 7 2 (findings ring2 line2 1)) ≡ 1)
    × (shown silence10 8 2 (findings ring2 line2 1) ≡ finding 9 3 1 1 ∷ finding 10 4 0 1 ∷ finding 11 5 1 1 ∷ [])
    × (length (hidden silence10 8 2 (findings ring2 line2 1)) ≡ 0)
    × (length (hidden silence10 0 2 (findings ring2 line2 1)) ≡ 0)
    × (length (hidden silence10 7 3 (findings ring2 line2 1)) ≡ 0)
unfolding ring2 line2 silence10 taken_by is_same covers hides ascii window holds_mark count lowest some_below differs distance lowest_rotation rotations_reaching found_at findings_below
sample_hidden = (refl, refl, refl, refl, refl, refl)

-- A silence for cell 0 hides in cell 0 alone. "Letting cell 0 in a silence stand for all cells" is one of the readings that look right and are wrong.
sample_cell_0 : (length (hidden (silence (address 0 2 10) 0 ∷ []) 7 2 (findings ring2 line2 1)) ≡ 0) × (length (hidden (silence (address 0 2 10) 0 ∷ []) 0 2 (findings ring2 line2 1)) ≡ 1)
unfolding ring2 line2 taken_by is_same covers hides ascii window holds_mark count lowest some_below differs distance lowest_rotation rotations_reaching found_at findings_below
sample_cell_0 = (refl, refl)

-- "It hides a finding at its address only up to that distance" (document 02, ticket 4): start 9 has distance 1. With ceiling 0 it is shown, with ceilings 1 and
-- 2 it is hidden.
sample_ceilings : (length (hidden (silence (address 7 2 9) 0 ∷ []) 7 2 (findings ring2 line2 1)) ≡ 0)
    × (length (hidden (silence (address 7 2 9) 1 ∷ []) 7 2 (findings ring2 line2 1)) ≡ 1)
    × (length (hidden (silence (address 7 2 9) 2 ∷ []) 7 2 (findings ring2 line2 1)) ≡ 1)
unfolding ring2 line2 taken_by is_same covers hides ascii window holds_mark count lowest some_below differs distance lowest_rotation rotations_reaching found_at findings_below
sample_ceilings = (refl, refl, refl)

-- "A reviewer accepts" one differing edge; "an edit later makes it" two. The ring `abcd` in the line `abcx` is hidden by ceiling 1; in the line `abyx` the same
-- silence hides nothing, and the finding is shown again.
sample_made_worse : (shown (silence (address 7 2 0) 1 ∷ []) 7 2 (findings (ascii "abcd") (ascii "abcx") 3) ≡ [])
    × (shown (silence (address 7 2 0) 1 ∷ []) 7 2 (findings (ascii "abcd") (ascii "abyx") 3) ≡ finding 0 0 2 1 ∷ [])
unfolding taken_by is_same covers hides ascii window holds_mark count lowest some_below differs distance lowest_rotation rotations_reaching found_at findings_below
sample_made_worse = (refl, refl)

-- "found 2 hidden 1 looks 12", and one shown finding, whose line is `0 0 0 2` with its ties: of the eight words lent, four are written and four kept. As cell 8
-- nothing is hidden.
sample_example : (report_counts (ascii "aa") (ascii "aaa") 0 7 2 (silence (address 7 2 1) 0 ∷ []) ≡ record { found = 2; hidden = 1; looks = 12 })
    × (report_counts (ascii "aa") (ascii "aaa") 0 8 2 (silence (address 7 2 1) 0 ∷ []) ≡ record { found = 2; hidden = 0; looks = 12 })
    × (written (words_of (shown (silence (address 7 2 1) 0 ∷ []) 7 2 (findings (ascii "aa") (ascii "aaa") 0))) (1 ∷ 2 ∷ 3 ∷ 4 ∷ 5 ∷ 6 ∷ 7 ∷ 8 ∷ [])
    ≡ 0 ∷ 0 ∷ 0 ∷ 2 ∷ 5 ∷ 6 ∷ 7 ∷ 8 ∷ [])
unfolding taken_by numbers_of_each written is_same covers hides ascii window holds_mark count lowest some_below differs distance lowest_rotation rotations_reaching found_at findings_below begins fits read_edge read_left read_window windows_from candidates_of reported read_looks tally_looks verify_looks
sample_example = (refl, refl, refl)
