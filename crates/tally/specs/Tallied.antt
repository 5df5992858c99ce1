-- When counts are the tally of a start, that is of a place where a window fits in the line, whether it holds a mark or not. The count of rotation r is kept
-- under the number r. What is rotation r at start i is rotation r + 1 at start i + 1 (the last rotation becomes rotation 0), so a step along the line renumbers
-- the counts (crates/moves).
--
--   Tallied     the counts are "the tally of one count per rotation" at a start
--   CanTally    256 counts, and a ring of 1 to 256 edges
--   Verified    the counts are a start's tally, with their least and the looks
use Rattle.std.specs.Prelude.{ℕ, ◌≤◌, ◌<◌, ◌≡◌, List, length, get_or}
use Rattle.meaning.specs.Meanings.{distance}
use Rattle.tally.specs.Counts.{most_counts, IsLeast}

-- "the tally of one count per rotation": there are 256 counts, and the count of each rotation r is the distance of start i under r.
pub record Tallied (ring line : List ℕ) (i : ℕ) (counts : List ℕ) : Type 0 where
  pub size : length counts ≡ most_counts
  pub each : (r : ℕ) → r < length ring → get_or counts r 0 ≡ distance ring line i r

-- A tally of this ring has room: there are 256 counts, and the ring has 1 to 256 edges.
pub record CanTally (ring counts : List ℕ) : Type 0 where
  pub size : length counts ≡ most_counts
  pub some_edge : 0 < length ring
  pub most : length ring ≤ most_counts

-- Start i is verified: `counts` are its tally, `least` is the least of them, and the looks taken, `looked`, are `looks`.
pub record Verified (ring line : List ℕ) (i looks : ℕ) (counts : List ℕ) (least looked : ℕ) : Type 0 where
  pub tallied : Tallied ring line i counts
  pub least_is : IsLeast (length ring) counts least
  pub looks_are : looked ≡ looks
