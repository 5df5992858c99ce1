-- `vectors::held::first_bits` meets its contract. Before turn w the words below w are `first_word m` (`StoreLoop` of crates/lists).
use Rattle.lists.specs.ByPlace.{StoredFirst}
use Rattle.vectors.specs.Bits.{first_word}
use Rattle.vectors.proofs.held.first_bits.Given as goal

abbrev pub invariant-loop-w : goal.invariant-loop-w
invariant-loop-w l = StoredFirst l.w (first_word l.m) l.initial.new l.new
