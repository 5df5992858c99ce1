-- Document 02, ticket 2: the tests for a boundary mark.
--
--   SaysIsMark       the contract of `is_mark`
--   SaysHoldsMark    the contract of `holds_mark`, a private function
use Rattle.std.specs.Prelude.{ℕ, ◌≡◌, Bool, List}
use Rattle.meaning.specs.Meanings.{is_mark, holds_mark}

-- The contract of `is_mark`: r says whether the edge is a mark.
pub record SaysIsMark (edge : ℕ) (r : Bool) : Type 0 where
  pub is : r ≡ is_mark edge

-- The contract of `holds_mark`: r says whether one of the edges is a mark.
pub record SaysHoldsMark (edges : List ℕ) (r : Bool) : Type 0 where
  pub is : r ≡ holds_mark edges
