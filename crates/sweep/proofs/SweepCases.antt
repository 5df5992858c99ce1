-- Whether a sweep can go on. The test `can_sweep` is a conjunction of comparisons, and the record `CanSweep` states the same (`can_sweep_iff`). So a sweep that passes
-- meets the precondition of `to_candidate` (`can_go_on`).
use Prim.Native.Nat.{ℕ, ◌+◌}
use mathlib.Core.Path.{◌≡◌, sym}
use mathlib.Core.Bool.{true}
use mathlib.Core.Logic.{◌↔◌}
use lib.ListN.{length}
use Rattle.windows.specs.Windows.{Parts, whole_line, IsWholeLength}
use Rattle.tally.specs.Counts.{most_counts}
use Rattle.lists.proofs.SizesTested.{lt_iff, le_iff, and_iff}
use Rattle.findings.specs.Limits.{most_places}
use Rattle.sweep.specs.Sweeps.{most_looks, can_sweep, CanSweep}

-- The test `can_sweep` passes exactly when the sweep can go on.
pub can_sweep_iff : (m n start looks : ℕ) → (can_sweep m n start looks ≡ true) ↔ CanSweep m n start looks
unfolding can_sweep
can_sweep_iff m n start looks =
    let all = and_iff (and_iff (lt_iff 0 m) (le_iff m most_counts)) (and_iff (lt_iff n most_places) (and_iff (le_iff start (n + 1)) (le_iff looks most_looks))) in (
      λ e. let is = all.0 e in
          record { can_read = record { some_edge = is.0.0; most = is.0.1; most_line = is.1.0; start_le = is.1.1.0 }; looks_le = is.1.1.1 },
      λ can. all.1 ((can.can_read.some_edge, can.can_read.most), (can.can_read.most_line, (can.can_read.start_le, can.looks_le))),
    )

-- If the test `can_sweep` passes for the length that `whole_length` returned, the sweep can go on along the whole line.
pub can_go_on : {m n start looks : ℕ} {p : Parts} → IsWholeLength m p n → can_sweep m n start looks ≡ true → CanSweep m (length (whole_line m p)) start looks
can_go_on {m} {n} {start} {looks} long passed = rw (sym long.is) ((can_sweep_iff m n start looks).0 passed)
