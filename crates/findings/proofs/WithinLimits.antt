-- An accepted call is within the limits of a search. The line of an open call has at most 65,536 edges, and the closed line of a closed one at most 65,791; it has
-- as many windows as the line has places, so 4·n words are room for its findings.
use Prim.Native.Nat.{ℕ}
use mathlib.Core.Path.{ap}
use mathlib.Core.Logic.{⊎_elim}
use mathlib.Core.List.{List}
use native.Mathlib.Omega.{arith}
use lib.ListN.{length}
use Rattle.lists.proofs.Cases.{le_or_lt}
use Rattle.meaning.specs.Closed.{closed_line}
use Rattle.meaning.proofs.ClosedLine.{closed_short, closed_length, closed_length_le}
use Rattle.findings.specs.Admitting.{Admitted}
use Rattle.findings.specs.ClosedRows.{ClosedAdmitted}
use Rattle.findings.specs.Limits.{CanSearch}

-- A call that none of rows 1, 12, 2, 3, 4 refuses is within the limits of a search on its line.
pub open_within : {ring : List ℕ} {k n room : ℕ} → Admitted ring k n room → CanSearch ring k n room
open_within admitted = record {
  some_edge = admitted.some_edge;
  most_ring = admitted.most_ring;
  no_mark = admitted.no_mark;
  allowed = admitted.allowed;
  most_places = omega (arith, admitted.most_line);
  room_for = admitted.room_for;
}

-- A call that none of rows 1, 12, 2, 3, 4, 10 refuses is within the limits of a search on its closed line.
pub closed_within : (ring line : List ℕ) {k room joins : ℕ} → ClosedAdmitted ring k (length line) room joins
    → CanSearch ring k (length (closed_line (length ring) line)) room
closed_within ring line admitted = record {
  some_edge = admitted.some_edge;
  most_ring = admitted.most_ring;
  no_mark = admitted.no_mark;
  allowed = admitted.allowed;
  most_places = omega (arith, closed_length_le (length ring) line admitted.some_edge, admitted.most_line, admitted.most_ring);
  room_for = λ fits.
      ⊎_elim
      (λ long. omega (arith, closed_length (length ring) line admitted.some_edge long, admitted.room_for long))
      (λ short. absurd (omega (arith, ap length (closed_short (length ring) line short))))
      (le_or_lt (length ring) (length line));
}
