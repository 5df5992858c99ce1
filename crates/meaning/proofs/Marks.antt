-- The test `holds_mark` decides whether a list of edges holds a mark. It asks its places one by one (`some_below`), so it passes exactly when some place has a mark.
use Prim.Native.Nat.{ℕ, ◌<◌}
use mathlib.Core.Path.{◌≡◌}
use mathlib.Core.Bool.{true, false}
use mathlib.Core.Logic.{◌↔◌}
use mathlib.Core.List.{List}
use lib.ListN.{length, get_or}
use borrow.Author.Tests.{eqb-true, eq-eqb}
use Rattle.meaning.specs.Meanings.{mark, is_mark, HoldsMark, holds_mark}
use Rattle.meaning.proofs.Some.{some_yes, some_by, some_no}

module _ (edges : List ℕ) where
  -- The test `holds_mark` passes exactly when the edges hold a mark.
  pub holds_iff : (holds_mark edges ≡ true) ↔ HoldsMark edges
  unfolding holds_mark
  holds_iff = (
    λ e.
        let one = some_yes (λ q. is_mark (get_or edges q 0)) (length edges) e in
        record { place = one.0; in_edges = one.1; is_mark = eqb-true (get_or edges one.0 0) mark one.2 },
    λ h. some_by (λ q. is_mark (get_or edges q 0)) (length edges) h.place h.in_edges (eq-eqb (get_or edges h.place 0) mark h.is_mark),
  )

  -- If the edges hold no mark, none of them is one.
  pub no_mark_at : holds_mark edges ≡ false → (q : ℕ) → q < length edges → is_mark (get_or edges q 0) ≡ false
  unfolding holds_mark
  no_mark_at none = some_no (λ q. is_mark (get_or edges q 0)) (length edges) none
