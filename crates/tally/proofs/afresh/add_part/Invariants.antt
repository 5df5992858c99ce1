-- `tally::afresh::add_part` meets its contract: a turn stores rotation r's count with the part's added (`StoreLoop` of crates/lists). Sixteen
-- bits hold the sum by the precondition.
use Prim.Native.Nat.{◌+◌}
use lib.ListN.{get_or}
use Rattle.lists.specs.ByPlace.{StoredFirst}
use Rattle.tally.proofs.afresh.add_part.Given as goal

abbrev pub invariant-loop-r : goal.invariant-loop-r
invariant-loop-r l = StoredFirst l.r (λ s. get_or l.initial.counts s 0 + get_or l.part s 0) l.initial.counts l.counts
