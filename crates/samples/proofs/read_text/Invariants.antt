-- `samples::read_text` stays within the lent area and ends: the room left falls with each read. No contract can say which bytes are read.
use Prim.Native.Nat.{◌-◌, ◌≤◌}
use mathlib.Core.Path.{◌≡◌}
use lib.ListN.{length}
use Rattle.samples.proofs.read_text.Given as goal

abbrev pub invariant-loop-got : goal.invariant-loop-got
invariant-loop-got g l = (l.got ≤ length l.text) × (length l.text ≡ length l.initial.text)

abbrev pub decreases-loop-got : goal.decreases-loop-got
decreases-loop-got g l = length l.text - l.got
