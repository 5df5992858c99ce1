-- Whether counts can be moved. The test `can_move` is a conjunction of comparisons, and the record `CanMove` states the same (`can_move_iff`). So counts that pass
-- meet the precondition of `move_along` (`can_be_moved`).
use Prim.Native.Nat.{ℕ, ◌+◌}
use mathlib.Core.Path.{◌≡◌, sym}
use mathlib.Core.Bool.{true}
use mathlib.Core.Logic.{◌↔◌}
use lib.ListN.{length}
use Rattle.findings.specs.Limits.{most_places}
use Rattle.windows.specs.Windows.{Parts, whole_line, IsWholeLength}
use Rattle.tally.specs.Counts.{most_counts}
use Rattle.lists.proofs.SizesTested.{lt_iff, le_iff, and_iff}
use Rattle.moves.specs.Moves.{can_move, CanMove}

-- The test `can_move` passes exactly when the counts can be moved.
pub can_move_iff : (m room n from steps : ℕ) → (can_move m room n from steps ≡ true) ↔ CanMove m room n from steps
unfolding can_move
can_move_iff m room n from steps =
    let all = and_iff (and_iff (lt_iff 0 m) (and_iff (le_iff m most_counts) (le_iff m room))) (and_iff (le_iff n most_places) (le_iff (from + steps + m) n)) in (
      λ e. let is = all.0 e in record { has_counts = record { some_edge = is.0.0; most = is.0.1.0; room = is.0.1.1 }; most_line = is.1.0; in_line = is.1.1 },
      λ can. all.1 ((can.has_counts.some_edge, (can.has_counts.most, can.has_counts.room)), (can.most_line, can.in_line)),
    )

-- If the test `can_move` passes for the length that `whole_length` returned, the counts can be moved along the whole line.
pub can_be_moved : {m room n from steps : ℕ} {p : Parts} → IsWholeLength m p n → can_move m room n from steps ≡ true
    → CanMove m room (length (whole_line m p)) from steps
can_be_moved {m} {room} {n} {from} {steps} long passed = rw (sym long.is) ((can_move_iff m room n from steps).0 passed)
