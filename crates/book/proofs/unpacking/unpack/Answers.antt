-- `book::unpacking::unpack` meets its contract, by the cases of UnpackCases: `read` refuses, there is no room, or `put_records` writes all words.
use native.Mathlib.Omega.{arith}
use Rattle.book.proofs.AcceptedBook.{read_answer_is, records_le}
use Rattle.book.proofs.UnpackCases.{unpack_refused, unpack_no_room, unpack_room, unpack_written}
use Rattle.answers.proofs.Returned.{returned}
use Rattle.book.proofs.unpacking.unpack.Goals as goal

-- what reading refuses
pub returns-in_err-records : goal.returns-in_err-records
returns-in_err-records c = rw (returned c.from_residual.ensures.1) (unpack_refused _ _ _ (read_answer_is _ _ c.in_err-records.ensures))

pub overflow_mul-records : goal.overflow_mul-records
overflow_mul-records c = omega (arith, records_le _ _ (read_answer_is _ _ c.in_ok-records.ensures))

-- row 10
pub returns-then-words-records : goal.returns-then-words-records
returns-then-words-records c = unpack_no_room _ _ _ (read_answer_is _ _ c.in_ok-records.ensures) (omega arith)

pub put_records-requires : goal.put_records-requires
put_records-requires c = unpack_room _ _ _ (read_answer_is _ _ c.in_ok-records.ensures) (omega arith)

-- all records
pub returns : goal.returns
returns c = unpack_written _ _ _ (read_answer_is _ _ c.in_ok-records.ensures) (omega arith) c.put_records.ensures
