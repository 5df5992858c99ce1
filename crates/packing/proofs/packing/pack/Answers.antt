-- `packing::packing::pack` meets its contract: each return is one case of PackCases.
use mathlib.Core.Logic.{inl, inr, ⊎_elim}
use native.Mathlib.Omega.{arith}
use Rattle.answers.proofs.Returned.{returned}
use Rattle.packing.proofs.PackCases.{pack_word_count, pack_refused, pack_no_room, pack_can, pack_written}
use Rattle.packing.proofs.packing.pack.Goals as goal

-- not a multiple of 4, or more than 4,000 words: row 8
pub returns-then-words-ne0 : goal.returns-then-words-ne0
returns-then-words-ne0 c = pack_word_count _ _ (⊎_elim inl (λ many. inr (omega (arith, many.1))) c.then-words-ne0.either)

-- row 9 or 7
pub returns-in_err-judge : goal.returns-in_err-judge
returns-in_err-judge c =
    rw (returned c.from_residual.ensures.1) (pack_refused _ _ (record { multiple = c.if-words-ne0.false; words_le = omega arith }) c.in_err-judge.ensures)

-- row 10
pub returns-then-out-records : goal.returns-then-out-records
returns-then-out-records c = pack_no_room _ _ (record { multiple = c.if-words-ne0.false; words_le = omega arith }) c.in_ok-judge.ensures c.if-out-records.true

pub put_fields-requires : goal.put_fields-requires
put_fields-requires c = pack_can _ _ (record { multiple = c.if-words-ne0.false; words_le = omega arith }) c.in_ok-judge.ensures c.if-out-records.false

-- all bytes written
pub returns : goal.returns
returns c =
    pack_written _ _ (record { multiple = c.if-words-ne0.false; words_le = omega arith }) c.in_ok-judge.ensures c.if-out-records.false c.put_fields.ensures
