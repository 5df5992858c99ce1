-- `packing::judging::judge` meets its contract. The loop's invariant is `JudgedTo`: the records before the words left are passed.
use Rattle.std.specs.Iterator.Adapters.{enumerate_source, enumerate_count}
use Rattle.std.specs.Slice.Iter.{chunks_exact_rest, chunks_exact_size}
use Rattle.silences.specs.Addresses.{last_of}
use Rattle.packing.proofs.JudgeLoop.{JudgedTo}
use Rattle.packing.proofs.judging.judge.Given as goal

abbrev pub invariant-loop-i : goal.invariant-loop-i
invariant-loop-i l =
    JudgedTo l.words (last_of l.last) (enumerate_count l.i-iterator) (chunks_exact_size (enumerate_source l.i-iterator)) (chunks_exact_rest (enumerate_source l.i-iterator))
