-- `book::reading::read` meets its contract: refusal 5, or what `read_fields` returns.
use mathlib.Core.Path.{sym, ap, ◌∙◌}
use native.Mathlib.Omega.{arith}
use Rattle.answers.specs.Paper.{answer_paper}
use Rattle.book.specs.Calls.{record_count, records_paper}
use Rattle.silences.proofs.ReadFrom.{read_book_long, read_book_fields}
use Rattle.book.proofs.reading.read.Goals as goal

-- row 5
pub returns-then-book-gt-MOST_BOOK_LENGTH : goal.returns-then-book-gt-MOST_BOOK_LENGTH
returns-then-book-gt-MOST_BOOK_LENGTH c = record { paper = sym (ap records_paper (read_book_long _ (omega arith))) }

-- what the fields give
pub returns : goal.returns
returns c = record { paper = ap (answer_paper 0) (c.read_fields.ensures ∙ sym (ap record_count (read_book_fields _ (omega arith)))) }
