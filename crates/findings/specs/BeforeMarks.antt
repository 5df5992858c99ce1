-- The rows of a search as they read before document 02, ticket 2. No contract uses them: RowsUnmarked of proofs/ shows that for a ring without marks they decide as
-- the rows of today do.
use Rattle.std.specs.Prelude.{ℕ, List, [], ◌∷◌}
use Rattle.std.specs.Prelude.{Option}
use Rattle.answers.specs.declared.refusals.Refusal.{Refusal}
use Rattle.answers.specs.declared.refusals.Refusal.TheVariants.{Ring, Allowance, Line, FindingsRoom}
use Rattle.answers.specs.Rows.{row}
use Rattle.findings.specs.Admitting.{is_row1, is_row2, is_row3, is_row4}

-- "Order: survey and scan 1 to 4" (document 01): the rows for m, k, n and the number of words lent, row 4 with the four words each of document 02, ticket 1.
unfoldable pub rows_before : ℕ → ℕ → ℕ → ℕ → List (Option Refusal)
rows_before m k n room =
    row (is_row1 m) Ring ∷ row (is_row2 m k) Allowance ∷ row (is_row3 n) Line ∷ row (is_row4 m n room) FindingsRoom ∷ []
