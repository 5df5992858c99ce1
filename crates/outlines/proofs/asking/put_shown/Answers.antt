-- `outlines::asking::put_shown` meets its contract: the finding is put if the number of shown findings has grown, else nothing is written.
use native.Mathlib.Omega.{arith}
use mathlib.Core.Path.{refl}
use borrow.Author.Rules.{rules}
use Rattle.outlines.proofs.asking.put_shown.Goals as goal

-- Shown.
pub returns-then-before-shown : goal.returns-then-before-shown
returns-then-before-shown c = record { shown_put = search rules; hidden_same = λ l. absurd (omega arith) }

-- Hidden.
pub returns-else-before-shown : goal.returns-else-before-shown
returns-else-before-shown c = record { shown_put = λ l. absurd (omega arith); hidden_same = λ _. refl }
