-- The conditions under which verifying a start follows rule 5: the ring's own double is lent, and the counts are the tally of the last verified start. The rule's
-- looks are `tally_looks` of crates/meaning. `tally_by_rules` in proofs/TallyByRules.antt proves that `tally_by` of Sweeps then gives the start's tally at these looks,
-- if the join area is right (`Joined` of crates/windows).
--
--   last_start       the last verified start, if there is one
--   TalliedBefore    the counts are its tally, and it is before a given start
--   CanVerify        a start can be verified by rule 5
use Rattle.std.specs.Prelude.{ℕ, ◌<◌, List, length}
use Rattle.std.specs.Prelude.{Option, None, Some}
use Rattle.meaning.specs.Meanings.{FitsInLine}
use Rattle.tally.specs.Counts.{IsDoubled}
use Rattle.tally.specs.Tallied.{Tallied, CanTally}
use Rattle.findings.specs.Limits.{most_places}
use Rattle.answers.specs.declared.places.LinePlace.{LinePlace}

-- The last verified start as a number, if there is one.
abbrev pub last_start : Option LinePlace → Option ℕ
last_start None = None
last_start (Some start) = Some start.0

-- If there is a last verified start, it is before i and the counts are its tally. If there is none, the counts may hold anything.
abbrev pub TalliedBefore : List ℕ → List ℕ → ℕ → List ℕ → Option ℕ → Type 0
TalliedBefore ring line i counts None = Unit {0}
TalliedBefore ring line i counts (Some last) = (last < i) × Tallied ring line last counts

-- Start i can be verified by rule 5: ring and line are within the limits, the ring's double is lent, the window at i fits in the line, and the counts are the tally
-- of the last verified start, if there is one.
pub record CanVerify (ring doubled line : List ℕ) (i : ℕ) (counts : List ℕ) (last : Option ℕ) : Type 0 where
  pub can_tally : CanTally ring counts
  pub twice : IsDoubled ring doubled
  pub in_line : FitsInLine ring line i
  pub most_line : length line < most_places
  pub before : TalliedBefore ring line i counts last
