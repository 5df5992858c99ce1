-- The contract of `pack`, for every input, accepted or refused. As for the calls of crates/book, `paper` is the returned value as document 01's number, place
-- and number of records; `written` is the lent area at exit. "Packer and unpacker return the number of records".
use Rattle.std.specs.Prelude.{ℕ, ◌≡◌, List, length}
use Rattle.silences.specs.Layout.{layout}
use Rattle.silences.specs.Packing.{packed, area_at_exit}
use Rattle.std.specs.Prelude.{Result}
use Rattle.answers.specs.declared.refusals.Refusal.{Refusal}
use Rattle.book.specs.Calls.{paper_of, records_paper}

-- The contract of `pack`, which returns `r` and leaves the lent bytes `area` as `out`.
pub record IsPacked (words area : List ℕ) (r : Result ℕ Refusal) (out : List ℕ) : Type 0 where
  pub paper : paper_of r ≡ records_paper (packed words (length area))
  pub written : out ≡ area_at_exit layout (packed words (length area)) area
