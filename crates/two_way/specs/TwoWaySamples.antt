-- Samples of the two-way scan, worked out by hand and computed by the checker.
use Rattle.std.specs.Prelude.{◌≡◌, refl, [], ◌∷◌}
use Rattle.std.specs.Prelude.{None, Some}
use Rattle.lists.specs.ByPlace.{list_of}
use Rattle.meaning.specs.Counting.{count, lowest, some_below, first_from}
use Rattle.meaning.specs.Meanings.{window, holds_mark, differs, distance, lowest_rotation, rotations_reaching}
use Rattle.meaning.specs.Findings.{found_at, findings_below}
use Rattle.meaning.specs.Stretch.{begins, fits}
use Rattle.meaning.specs.Rules.{read_edge, read_left, read_window, windows_from, candidates_of}
use Rattle.meaning.specs.Looks.{read_looks, tally_looks, verify_looks}
use Rattle.meaning.specs.Samples.{finding}
use Rattle.answers.specs.declared.refusals.Refusal.TheVariants.{Allowance, Line, FindingsRoom, RingMark, RingCode}
use Rattle.answers.specs.Rows.{first_given}
use Rattle.reversal.specs.Reversing.{reversed_code, reversed_ring}
use Rattle.findings.specs.Admitting.{ring_rows}
use Rattle.two_way.specs.Admitting.{first_no_edge, two_way_rows}
use Rattle.two_way.specs.TwoWay.{two_way_counts, two_way_findings}

-- The first row that is given, for ring, k, n and room: 12 before 14; the place of the first code above 247; 2 before 14; 14 before 3; 3; 7 words where 8 are
-- required; 8; and for n < m none are required.
pub row_samples_right : (first_given (two_way_rows (255 ∷ []) 0 0 0) ≡ Some RingMark)
    × (first_given (two_way_rows (248 ∷ 0 ∷ 254 ∷ []) 0 0 0) ≡ Some (RingCode 0))
    × (first_given (two_way_rows (0 ∷ 248 ∷ []) 2 3 16) ≡ Some Allowance)
    × (first_given (two_way_rows (0 ∷ 248 ∷ []) 0 65537 0) ≡ Some (RingCode 1))
    × (first_given (two_way_rows (0 ∷ 247 ∷ []) 0 65537 0) ≡ Some Line)
    × (first_given (two_way_rows (247 ∷ []) 0 1 7) ≡ Some FindingsRoom)
    × (first_given (two_way_rows (247 ∷ []) 0 1 8) ≡ None)
    × (first_given (two_way_rows (247 ∷ []) 0 0 0) ≡ None)
unfolding two_way_rows ring_rows first_no_edge first_from holds_mark some_below first_given
row_samples_right = (refl, refl, refl, refl, refl, refl, refl, refl)

-- Ring 0 in the line 0, 4 with k = 0: forward start 0, backward start 1, 3 looks each. A square of class 3, drawn north, east, south, west, and the same drawn the
-- other way from another corner, with a mark between them: the first is found forward, the second backward, under rotation 2 of the reversed ring.
pub pass_samples_right : (two_way_findings (0 ∷ []) (0 ∷ 4 ∷ []) 0 ≡ finding 0 0 0 1 ∷ finding 1 0 0 1 ∷ [])
    × (two_way_counts (0 ∷ []) (0 ∷ 4 ∷ []) 0 ≡ record { forward = record { found = 1; looks = 3 }; backward = record { found = 1; looks = 3 } })
    × (two_way_findings (24 ∷ 26 ∷ 28 ∷ 30 ∷ []) (24 ∷ 26 ∷ 28 ∷ 30 ∷ 255 ∷ 30 ∷ 28 ∷ 26 ∷ 24 ∷ []) 0 ≡ finding 0 0 0 1 ∷ finding 5 2 0 1 ∷ [])
unfolding reversed_ring reversed_code list_of window holds_mark count lowest some_below differs distance lowest_rotation rotations_reaching found_at findings_below begins fits read_edge read_left read_window windows_from candidates_of read_looks tally_looks verify_looks
pass_samples_right = (refl, refl, refl)
