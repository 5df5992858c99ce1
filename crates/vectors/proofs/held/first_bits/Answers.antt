-- `vectors::held::first_bits` meets its contract. Turn w sets the lowest m − 64·w bits of word w.
use mathlib.Core.Path.{◌∙◌}
use native.Mathlib.Omega.{arith}
use Rattle.lists.proofs.StoreLoop.{stored_start, stored_turn, stored_end, stored_all}
use Rattle.vectors.specs.Bits.{first_bits}
use Rattle.vectors.proofs.FirstBitsAreSet.{first_word_left}
use Rattle.vectors.proofs.held.first_bits.Goals as goal

pub loop-w-init : goal.loop-w-init
loop-w-init c = stored_start

pub loop-w-preserved : goal.loop-w-preserved
loop-w-preserved c = stored_turn c.loop-w.invariant (omega arith) (c.low_bits.ensures ∙ first_word_left _ _ _ (omega arith))

pub returns : goal.returns
unfolding first_bits
returns c = stored_all (stored_end c.loop-w.invariant (omega arith)) (omega arith)
