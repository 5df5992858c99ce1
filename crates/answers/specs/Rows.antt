-- Document 01, "What each call returns": the order of refusals. Each call defines one list of rows, in the order of "Order: ..", and the first row
-- that is given decides. What it decides is defined here, for all calls.
--
--   row           a row of the table: its refusal if its test holds
--   first_given   the refusal of the first row that is given, if one is
--   NoneGiven     no row of a list is given
--   IsFirst       `first_given` as facts: this row is given, and no row before it (joined by `first_iff` of proofs/)
--   answer_by     the answer: accepted, or refused by that row
--   area_by       a lent area at exit: written, or untouched
--
-- Rows 6 and 7 within a book are one element of the list, the first fault if there is one; so are rows 9 and 7 among the records to pack.
use Rattle.std.specs.Prelude.{ℕ, ◌≡◌, Bool, cond, List, [], ◌∷◌, ◌++◌}
use Rattle.std.specs.Prelude.{Option, None, Some}
use Rattle.answers.specs.declared.refusals.Refusal.{Refusal}
use Rattle.answers.specs.Paper.{Answer, accepted, refused}

-- "Given exactly when": a row gives its refusal if its test is true.
abbrev pub row : Bool → Refusal → Option Refusal
row test refusal = cond test (Some refusal) None

-- "Order: ..": the refusal of the first row that is given, or none if no row is.
unfoldable pub first_given : List (Option Refusal) → Option Refusal
first_given [] = None
first_given (None ∷ rows) = first_given rows
first_given (Some refusal ∷ rows) = Some refusal

-- No row of the list is given.
abbrev pub NoneGiven : List (Option Refusal) → Type 0
NoneGiven [] = Unit {0}
NoneGiven (first ∷ rows) = (first ≡ None) × NoneGiven rows

-- A row of the list gives this refusal, and no row before it is given.
pub record IsFirst (rows : List (Option Refusal)) (refusal : Refusal) : Type 0 where
  pub earlier : List (Option Refusal)
  pub later : List (Option Refusal)
  pub rows_are : rows ≡ earlier ++ Some refusal ∷ later
  pub none_before : NoneGiven earlier

-- The call's answer: if no row is given, it is accepted with the result `a`; else it is refused by the first row given.
abbrev pub answer_by : {A : Type 0} → Option Refusal → A → Answer A
answer_by None a = accepted a
answer_by (Some refusal) a = refused refusal

-- A lent area at exit: `new` if the call is accepted. A refusal "writes nothing to any lent area", so the area is then `old`, as before.
abbrev pub area_by : Option Refusal → List ℕ → List ℕ → List ℕ
area_by None new old = new
area_by (Some refusal) new old = old
