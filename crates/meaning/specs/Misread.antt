-- Document 01, "Readings that look right", those about the search. Each wrong reading is written with a definition of its own or with the rules'
-- definitions, and is refuted by a sample, which antt computes. (The reading of cell 0 as all cells is about silences, and is refuted in ReportSamples
-- of crates/outlines.)
use Rattle.std.specs.Prelude.{ℕ, zero, suc, ◌+◌, ◌-◌, ◌*◌, ◌/◌, min, ◌≡◌, refl, Bool, true, false, cond, ◌&&◌, ◌||◌, List, [], ◌∷◌, ◌++◌, map, leb, eqb, length, get_or, take}
use Rattle.meaning.specs.Counting.{count, lowest, some_below}
use Rattle.meaning.specs.Meanings.{fits_in_line, window, holds_mark, differs, distance, lowest_rotation, least_distance, rotations_reaching}
use Rattle.meaning.specs.Findings.{Finding, found_at, findings_below, findings}
use Rattle.meaning.specs.Stretch.{begins, fits}
use Rattle.meaning.specs.Rules.{Reading, read_edge, read_left, read_window, windows_from, windows, candidates_of, candidates, reported}
use Rattle.meaning.specs.Looks.{read_looks}
use Rattle.meaning.specs.Samples.{finding}
use Rattle.lists.specs.Texts.{ascii}

-- ---- "Cutting the doubled ring into 2k+4 near-equal fragments, as source document 000 does."

-- 000's doubled ring: the ring followed by its first m − 1 edges.
abbrev doubled : List ℕ → List ℕ
doubled ring = ring ++ take (length ring - 1) ring

-- A fragment of the doubled ring: where it begins, and how many edges it has.
record Fragment : Type 0 where
  place : ℕ
  size : ℕ

-- The `edges` edges from `place` on, cut into near-equal fragments, "longer fragments first". The first number is how many fragments.
unfoldable cut : ℕ → ℕ → ℕ → List Fragment
cut zero place edges = []
cut (suc fragments) place edges =
    let size : ℕ = (edges + fragments) / suc fragments in
    record { place = place; size = size } ∷ cut fragments (place + size) (edges - size)

-- The 2k+4 fragments of a ring.
abbrev fragments_of : List ℕ → ℕ → List Fragment
fragments_of ring k = cut (2 * k + 4) 0 (length (doubled ring))

-- How many of the fragments lie whole in rotation r, that is in the m edges of the doubled ring from r on. A fragment is counted at its own place, as
-- the lemma's proof counts it. (Its edges may also occur there at another place.)
unfoldable whole_in : ℕ → ℕ → List Fragment → ℕ
whole_in m r [] = 0
whole_in m r (f ∷ fs) = cond (leb r f.place && leb (f.place + f.size) (r + m)) 1 0 + whole_in m r fs

-- Whether a fragment hits the line at p: the doubled ring's edges from the fragment's place on are the line's edges from p on. The last number is the
-- fragment's size.
unfoldable hits : List ℕ → List ℕ → ℕ → ℕ → ℕ → Bool
hits ring line place p zero = true
hits ring line place p (suc size) =
    eqb (get_or (doubled ring) place 0) (get_or line p 0) && (leb (suc p) (length line) && hits ring line (suc place) (suc p) size)

-- Whether a hit at line place p has at least m edges once it is extended to both sides as far as line and doubled ring reach, whatever differs there.
abbrev extends : List ℕ → List ℕ → Fragment → ℕ → Bool
extends ring line f p =
    leb (length ring) (min f.place p + min (length (doubled ring) - f.place) (length line - p))

-- Whether some hit of some fragment can be extended to m edges. If none can, 000 reports nothing.
unfoldable some_extends : List ℕ → List ℕ → List Fragment → Bool
some_extends ring line [] = false
some_extends ring line (f ∷ fs) =
    some_below (λ p. hits ring line f.place p f.size && extends ring line f p) (length line) || some_extends ring line fs

-- "Its Lemma 3 fails when longer fragments lie side by side: at m = 8, k = 3, longer fragments first, a window can hold only three whole
-- fragments" (the lemma says k + 1, four), "and extending each hit within the doubled ring loses P3."
fragments_lose_P3 :
    (whole_in 8 1 (fragments_of (ascii "ABCDEFGH") 3) ≡ 3)
    × (some_extends (ascii "ABCDEFGH") (ascii "BCzEzGzA") (fragments_of (ascii "ABCDEFGH") 3) ≡ false)
    × (findings (ascii "ABCDEFGH") (ascii "BCzEzGzA") 3 ≡ finding 0 1 3 1 ∷ [])
unfolding ascii cut whole_in hits some_extends some_below window holds_mark count lowest differs distance lowest_rotation rotations_reaching found_at findings_below
fragments_lose_P3 = (refl, refl, refl)

-- ---- "Taking Example 3 of 000 as a full answer."

-- The starts that Example 3 gives.
abbrev example3 : List ℕ
example3 = 10 ∷ 11 ∷ []

-- "It follows one fragment and gives starts 10 and 11; start 9 is found too."
example_3_lacks_9 :
    map (λ (f : Finding). f.start) (findings (ascii "GGGTCTA") (ascii "GATACGATACCTAGGGTGATAGAATAG") 1) ≡ 9 ∷ example3
unfolding ascii window holds_mark count lowest some_below differs distance lowest_rotation rotations_reaching found_at findings_below
example_3_lacks_9 = refl

-- ---- "Stopping at k breaks, or moving onto the break edge instead of past it."

-- Stopping at k breaks is reading each window with an allowance of k − 1. Then P2 (k = 1) has one finding instead of three.
stopping_at_k_loses_P2 :
    reported (ascii "GGGTCTA") (ascii "GATACGATACCTAGGGTGATAGAATAG") 1
    (candidates_of (ascii "GGGTCTA") 1 (windows (ascii "GGGTCTA") (ascii "GATACGATACCTAGGGTGATAGAATAG") 0))
    ≡ finding 10 4 0 1 ∷ []
unfolding ascii window holds_mark count lowest some_below differs distance lowest_rotation rotations_reaching found_at begins fits read_edge read_left read_window windows_from candidates_of reported
stopping_at_k_loses_P2 = refl

-- The windows if each next one starts at the break edge, m − j further on. The number before i is how many windows may still come.
unfoldable onto_the_break : List ℕ → List ℕ → ℕ → ℕ → ℕ → List Reading
onto_the_break ring line k zero i = []
onto_the_break ring line k (suc more) i =
    let w : Reading = read_window ring line k i in
    let onward : List Reading = w ∷ onto_the_break ring line k more (i + (length ring - w.read)) in
    cond (fits_in_line ring line i) onward []

-- On P7 this reading costs 8 looks instead of 6. (It never gets past a window with all m edges read: the next window would be the same one.)
onto_the_break_costs_P7 :
    (read_looks (onto_the_break (ascii "abcd") (ascii "zzzzzzzzzz") 1 11 0) ≡ 8)
    × (read_looks (windows (ascii "abcd") (ascii "zzzzzzzzzz") 1) ≡ 6)
unfolding ascii some_below begins fits read_edge read_left read_window windows_from onto_the_break read_looks
onto_the_break_costs_P7 = (refl, refl)

-- ---- "Reporting every candidate."

-- "P11 is a candidate at distance 3"; its allowance is 1, so it is not a finding.
candidate_P11_is_no_finding :
    (candidates (ascii "abcdef") (ascii "bcdfab") 1 ≡ 0 ∷ [])
    × (findings (ascii "abcdef") (ascii "bcdfab") 1 ≡ [])
    × (least_distance (ascii "abcdef") (ascii "bcdfab") 0 ≡ 3)
unfolding ascii window holds_mark count lowest some_below differs distance lowest_rotation rotations_reaching found_at findings_below begins fits read_edge read_left read_window windows_from candidates_of
candidate_P11_is_no_finding = (refl, refl, refl)

-- ---- "Using a linear stretch test, which cuts a good match at the ring's seam."

-- The linear test: the stretch occurs in the ring from some place on, without crossing the seam.
unfoldable linear_fits : List ℕ → List ℕ → Bool
linear_fits ring stretch =
    some_below (λ r. leb (r + length stretch) (length ring) && begins ring r stretch) (length ring)

-- P9's window `cab` is rotation 2 of the ring `abc`: it fits the ring, and the linear test rejects it.
linear_test_cuts_P9 : (fits (ascii "abc") (ascii "cab") ≡ true) × (linear_fits (ascii "abc") (ascii "cab") ≡ false)
unfolding ascii begins some_below fits linear_fits
linear_test_cuts_P9 = (refl, refl)
