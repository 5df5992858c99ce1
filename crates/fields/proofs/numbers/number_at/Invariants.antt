-- `fields::numbers::number_at` meets its contract: after each byte the number is the one in the bytes so far (`Numbered`).
use Rattle.fields.proofs.NumberLoop.{Numbered}
use Rattle.fields.proofs.numbers.number_at.Given as goal

abbrev pub invariant-loop-byte : goal.invariant-loop-byte
invariant-loop-byte l = Numbered l.bytes l.at l.count l.number l.byte-index
