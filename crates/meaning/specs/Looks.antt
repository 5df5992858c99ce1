-- Document 01: the looks of the quick scan ("Looks are the sum over rules 1 and 5") and of the plain survey. Rule 5, "Verifying works on a tally: the
-- tally of one count per rotation is kept and moved along the line", is stated here by its cost; what the counts hold is `Tallied` of crates/tally.
use Rattle.std.specs.Prelude.{ℕ, zero, suc, ◌+◌, ◌-◌, ◌*◌, cond, List, [], ◌∷◌, ltb, eqb, length}
use Rattle.std.specs.Prelude.{Option, None, Some}
use Rattle.meaning.specs.Meanings.{fits_in_line}
use Rattle.meaning.specs.Rules.{Reading, windows, candidates}

-- Rule 1. "Each edge read is one look."
unfoldable pub read_looks : List Reading → ℕ
read_looks [] = 0
read_looks (w ∷ ws) = w.read + read_looks ws

-- Rule 5. "it is counted afresh: m·m looks."
abbrev pub afresh_looks : ℕ → ℕ
afresh_looks m = m * m

-- Rule 5. A step is "2·m looks (the leaving and the entering edge, each against m ring edges)".
abbrev pub step_looks : ℕ → ℕ
step_looks m = 2 * m

-- Rule 5. "With no earlier tally, or if the new start is s beyond the last verified one and 2·s > m, it is counted afresh: m·m looks. Otherwise
-- it moves s steps, each 2·m looks". The looks of verifying start i, given the last verified start if there is one.
unfoldable pub tally_looks : ℕ → Option ℕ → ℕ → ℕ
tally_looks m None i = afresh_looks m
tally_looks m (Some last) i = cond (ltb m (2 * (i - last))) (afresh_looks m) ((i - last) * step_looks m)

-- Rules 4 and 5. The looks of verifying a list of candidates, after the last verified start if there is one. Each candidate is verified in turn, and is
-- then the last verified one.
unfoldable pub verify_looks : ℕ → Option ℕ → List ℕ → ℕ
verify_looks m last [] = 0
verify_looks m last (i ∷ starts) = tally_looks m last i + verify_looks m (Some i) starts

-- "Looks are the sum over rules 1 and 5."
abbrev pub quick_looks : List ℕ → List ℕ → ℕ → ℕ
quick_looks ring line k = read_looks (windows ring line k) + verify_looks (length ring) None (candidates ring line k)

-- "The plain survey verifies every start, the first afresh and each next by one step, at m = 1 too", and "its looks stay" (document 02, ticket 2), so a window
-- that holds a mark costs as much as any other: the looks for the places below i where a window fits in the line, afresh at place 0 and one step at every other.
unfoldable pub survey_looks_below : List ℕ → List ℕ → ℕ → ℕ
survey_looks_below ring line zero = 0
survey_looks_below ring line (suc i) =
    let verifying : ℕ = cond (eqb i 0) (afresh_looks (length ring)) (step_looks (length ring)) in
    survey_looks_below ring line i + cond (fits_in_line ring line i) verifying 0

-- The plain survey's looks: those for all of the line's places.
abbrev pub survey_looks : List ℕ → List ℕ → ℕ
survey_looks ring line = survey_looks_below ring line (length line)
