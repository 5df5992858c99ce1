-- What a search needs of its ring, its allowance, the length of its whole line and the words lent to it. Every accepted call meets it. The line is the one that
-- windows are taken from, so it may be longer than 65,536: in closed mode it is the closed line (document 02, ticket 3).
--
--   most_places    2^32; a whole line that is searched has fewer places
--   CanSearch      the limits of a search
use Rattle.std.specs.Prelude.{ℕ, ◌^◌, ◌≤◌, ◌<◌, List, length}
use Rattle.meaning.specs.Meanings.{HoldsMark}
use Rattle.findings.specs.Admitting.{most_ring, room_required}

-- 2^32. A whole line that is searched has fewer places, so each start is one 32-bit word.
abbrev pub most_places : ℕ
most_places = 2 ^ 32

-- The limits of a search on a whole line of n places with `room` words lent for findings.
pub record CanSearch (ring : List ℕ) (k n room : ℕ) : Type 0 where
  pub some_edge : 0 < length ring
  pub most_ring : length ring ≤ most_ring
  pub no_mark : HoldsMark ring → ⊥
  pub allowed : k < length ring
  pub most_places : n < most_places
  pub room_for : length ring ≤ n → room_required (length ring) n ≤ room
