-- Document 01, "What each call returns": what a lent area holds after numbers are written into it. "Words after the last one written keep their
-- values"; a packed book leaves "room beyond [its] output unwritten". Neither definition tests for room: its users show that the numbers fit.
use Rattle.std.specs.Prelude.{ℕ, List, ◌++◌, length, take, drop}

-- The area after numbers are written at its beginning: the numbers, then the rest of the area as it was.
unfoldable pub written : List ℕ → List ℕ → List ℕ
written numbers area = numbers ++ drop (length numbers) area

-- The area after numbers are written into it from place `at` on: what stands before them and after them is as it was.
unfoldable pub written_at : ℕ → List ℕ → List ℕ → List ℕ
written_at at numbers area = take at area ++ written numbers (drop at area)
