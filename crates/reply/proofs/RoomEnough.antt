-- With at least as many words as row 4 requires, the report's first row is the same as with exactly that many (`refusal_same`): row 4 is given with neither, and no
-- other row depends on the room.
use Prim.Native.Nat.{ℕ, ◌≤◌, ◌<◌}
use mathlib.Core.Path.{◌≡◌, refl}
use mathlib.Core.Bool.{Bool, true, false}
use mathlib.Core.List.{List}
use native.Mathlib.Omega.{arith}
use lib.Dec.{leb, eqb}
use lib.ListN.{length}
use borrow.Author.Tests.{le-ltb, leb-true, eqb-false}
use Rattle.answers.specs.Rows.{first_given}
use Rattle.findings.specs.Admitting.{room_required, is_row4, ring_rows, limit_rows, admit_rows}
use Rattle.outlines.specs.Report.{report_rows, report_refusal}

module _ (ring : List ℕ) (k n room : ℕ) (book : List ℕ) (enough : 0 < length ring → length ring ≤ n → room_required (length ring) n ≤ room) where
  abbrev m : ℕ
  m = length ring

  -- row 4 is not given, with either room
  row_4_same : 0 < m → is_row4 m n room ≡ is_row4 m n (room_required m n)
  row_4_same some_edge = go (leb m n) refl
    where
      go : (t : Bool) → leb m n ≡ t → is_row4 m n room ≡ is_row4 m n (room_required m n)
      go false e = simp e
      go true e = simp (e, le-ltb room (room_required m n) (enough some_edge (leb-true m n e)), le-ltb (room_required m n) (room_required m n) (omega arith))

  -- With at least as many words as row 4 requires, the first of the report's rows that is given is the same as with exactly that many.
  pub refusal_same : report_refusal (admit_rows ring k n room) book ≡ report_refusal (admit_rows ring k n (room_required m n)) book
  unfolding report_rows ring_rows limit_rows admit_rows first_given
  refusal_same = go (eqb m 0) refl
    where
      go : (t : Bool) → eqb m 0 ≡ t → report_refusal (admit_rows ring k n room) book ≡ report_refusal (admit_rows ring k n (room_required m n)) book
      go true e = simp e
      go false e =
          let none_empty : 0 < m = omega (arith, eqb-false m 0 e) in
          rw (row_4_same none_empty)
