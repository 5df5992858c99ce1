-- `sweep::reading::read_words` meets its contract: the loop keeps `StillToRead`. A turn grows the held vector, or sets every bit again at a break, or stops at
-- break k + 1 or at a mark.
use mathlib.Core.Path.{◌≡◌}
use lib.ListN.{length}
use Rattle.vectors.specs.Bits.{first_bits}
use Rattle.vectors.specs.ByValue.{vector_words}
use Rattle.sweep.proofs.ReadTurns.{StillToRead}
use Rattle.sweep.proofs.reading.read_words.Given as goal

abbrev pub invariant-loop-left : goal.invariant-loop-left
invariant-loop-left l =
    (l.full ≡ first_bits (length l.window) vector_words) × (l.left-iterator.iter.count ≡ 0)
    × StillToRead l.vectors l.window l.k l.words l.held l.left-iterator.iter.iter.rest.now l.breaks l.looks
