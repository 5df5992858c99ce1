-- The two parts that an accepted call lends to its search, and the list that is searched by them. An open call lends an empty join area: no window crosses the
-- line's end, and the whole line is the line (`whole_open`). A closed call lends the filled part of the area, and the whole line is the closed line
-- (`closed_parts`). Survey, scan and report use the record `Lent` alone, so that they have one proof for both modes.
use Prim.Native.Nat.{ℕ}
use mathlib.Core.Path.{◌≡◌, sym, subst}
use mathlib.Core.List.{List, []}
use lib.ListN.{length, take}
use Rattle.meaning.specs.Closed.{closed_line, joined_with}
use Rattle.findings.specs.Admitting.{Admitted}
use Rattle.findings.specs.ClosedRows.{ClosedAdmitted}
use Rattle.findings.specs.Limits.{CanSearch}
use Rattle.findings.proofs.WithinLimits.{open_within, closed_within}
use Rattle.windows.specs.Windows.{Parts, parts, whole_line, Joined}
use Rattle.windows.specs.Joins.{IsJoinFilled}
use Rattle.windows.proofs.WindowEdges.{whole_open, open_joined}
use Rattle.windows.proofs.JoinFilled.{ClosedParts, closed_parts}

-- Ring, allowance, whole line and room are within the limits of a search, the join area is right, and the whole line is the list `searched`.
pub record Lent (ring : List ℕ) (p : Parts) (k room : ℕ) (searched : List ℕ) : Type 0 where
  pub can_search : CanSearch ring k (length (whole_line (length ring) p)) room
  pub joined : Joined (length ring) p
  pub whole_is : whole_line (length ring) p ≡ searched

-- If none of rows 1, 12, 2, 3, 4 is given, the line with an empty join area is searched as the line.
pub open_lent : {ring line : List ℕ} {k room : ℕ} → Admitted ring k (length line) room → Lent ring (parts line []) k room line
open_lent {ring} {line} {k} {room} admitted = record {
  can_search = subst (λ (l : List ℕ). CanSearch ring k (length l) room) (sym (whole_open (length ring) line)) (open_within admitted);
  joined = open_joined (length ring) line admitted.some_edge;
  whole_is = whole_open (length ring) line;
}

module _ {ring line : List ℕ} {k room : ℕ} {join : List ℕ} (admitted : ClosedAdmitted ring k (length line) room (length join)) {used : ℕ} {joined : List ℕ}
    (filled : IsJoinFilled line (length ring) join used joined) where
  -- what filling gives
  filled_parts : ClosedParts (length ring) line (take used joined) × (joined ≡ joined_with (length ring) line join)
  filled_parts = closed_parts admitted.some_edge admitted.join_for filled

  -- If none of rows 1, 12, 2, 3, 4, 10 is given and the join area is filled, the line with the used part of the area is searched as the closed line.
  pub closed_lent : Lent ring (parts line (take used joined)) k room (closed_line (length ring) line)
  closed_lent = record {
    can_search = subst (λ (l : List ℕ). CanSearch ring k (length l) room) (sym filled_parts.0.whole_is) (closed_within ring line admitted);
    joined = filled_parts.0.joined;
    whole_is = filled_parts.0.whole_is;
  }

  -- The join area then holds what it must.
  pub closed_joined : joined ≡ joined_with (length ring) line join
  closed_joined = filled_parts.1
