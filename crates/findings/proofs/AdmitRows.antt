-- When each of the rows of survey and scan, 1, 12, 2, 3, 4, is the first that is given. LimitRows has rows 1, 12 and 2, whatever the call's own rows are, and
-- states when row 3 is given; here the own rows are 3 and 4. `is_row_4` states when row 4 is given and when it is not.
use Prim.Native.Nat.{ℕ, ◌≤◌, ◌<◌}
use mathlib.Core.Path.{◌≡◌, refl}
use mathlib.Core.Logic.Iff
use mathlib.Core.Logic.{◌↔◌, ◌⊎◌, inl, inr}
use mathlib.Core.List.{List, [], ◌∷◌}
use Rattle.std.specs.Prelude.{None, Some}
use native.Mathlib.Omega.{arith}
use lib.ListN.{length}
use Rattle.meaning.specs.Meanings.{HoldsMark}
use Rattle.answers.specs.declared.refusals.Refusal.{Refusal}
use Rattle.answers.specs.declared.refusals.Refusal.TheVariants.{Ring, Allowance, Line, FindingsRoom, RingMark}
use Rattle.answers.specs.Refusals.{number_of, place_of}
use Rattle.answers.specs.Rows.{row, first_given}
use Rattle.answers.proofs.RowsExactly.{IsRow, EachRow, end, row_has, at_row, past_row, no_row, no_last_row}
use Rattle.findings.specs.Admitting.{most_ring, most_line, room_required, is_row3, is_row4, ring_rows, limit_rows, admit_rows, IsRingLength, Admitted}
use Rattle.findings.proofs.LimitRows.{IsOwnRow, is_room_row, is_row_3, ring_1_iff, ring_12_iff, ring_2_iff, own_row_iff, no_own_row_iff, ring_row_iff, by_ring}

module _ (ring : List ℕ) (k n room : ℕ) where
  abbrev m : ℕ
  m = length ring

  -- Row 4 is given exactly when "n ≥ m and fewer than" 4·(n − m + 1) "words are lent for findings", and not given exactly when n ≥ m implies enough words.
  pub is_row_4 : IsRow (row (is_row4 m n room) FindingsRoom) FindingsRoom ((m ≤ n) × (room < room_required m n)) (m ≤ n → room_required m n ≤ room)
  is_row_4 = is_room_row m n room (room_required m n) FindingsRoom

  -- rows 3 and 4 have none of the numbers 1, 12 and 2
  own_rows : EachRow IsOwnRow (row (is_row3 n) Line ∷ row (is_row4 m n room) FindingsRoom ∷ [])
  own_rows = row_has (is_row_3 n) (omega arith) (row_has is_row_4 (omega arith) end)

  -- Row 1 is the first exactly when "m = 0 or m > 256".
  pub row_1_iff : (first_given (admit_rows ring k n room) ≡ Some Ring) ↔ ((m ≡ 0) ⊎ (most_ring < m))
  unfolding admit_rows limit_rows ring_rows
  row_1_iff = Iff.trans (ring_row_iff ring k own_rows Ring (λ is. is.not_1 refl)) (ring_1_iff ring k)

  -- Row 12 is the first exactly when the ring holds a mark and row 1 is not given.
  pub row_12_iff : (first_given (admit_rows ring k n room) ≡ Some RingMark) ↔ (IsRingLength m × HoldsMark ring)
  unfolding admit_rows limit_rows ring_rows
  row_12_iff = Iff.trans (ring_row_iff ring k own_rows RingMark (λ is. is.not_12 refl)) (ring_12_iff ring k)

  -- Row 2 is the first exactly when "k ≥ m" and rows 1 and 12 are not given.
  pub row_2_iff : (first_given (admit_rows ring k n room) ≡ Some Allowance) ↔ (IsRingLength m × ((HoldsMark ring → ⊥) × (m ≤ k)))
  unfolding admit_rows limit_rows ring_rows
  row_2_iff = Iff.trans (ring_row_iff ring k own_rows Allowance (λ is. is.not_2 refl)) (ring_2_iff ring k)

  -- Row 3 is the first exactly when "n > 65,536" and rows 1, 12 and 2 are not given.
  pub row_3_iff : (first_given (admit_rows ring k n room) ≡ Some Line) ↔ (IsRingLength m × ((HoldsMark ring → ⊥) × ((k < m) × (most_line < n))))
  unfolding admit_rows limit_rows ring_rows
  row_3_iff = own_row_iff ring k (omega arith) (at_row (is_row_3 n) (row_has is_row_4 (omega arith) end))

  -- Row 4 is the first exactly when "n ≥ m and fewer than" 4·(n − m + 1) "words are lent for findings" and rows 1, 12, 2 and 3 are not given.
  pub row_4_iff : (first_given (admit_rows ring k n room) ≡ Some FindingsRoom)
      ↔ (IsRingLength m × ((HoldsMark ring → ⊥) × ((k < m) × ((n ≤ most_line) × ((m ≤ n) × (room < room_required m n))))))
  unfolding admit_rows limit_rows ring_rows
  row_4_iff = own_row_iff ring k (omega arith) (past_row (is_row_3 n) (omega arith) (at_row is_row_4 end))

  -- None of these rows is given exactly when m is 1 to 256, the ring holds no mark, k < m, n ≤ 65,536, and n ≥ m implies enough words.
  pub none_iff : (first_given (admit_rows ring k n room) ≡ None)
      ↔ (IsRingLength m × ((HoldsMark ring → ⊥) × ((k < m) × ((n ≤ most_line) × (m ≤ n → room_required m n ≤ room)))))
  unfolding admit_rows limit_rows ring_rows
  none_iff = no_own_row_iff ring k (no_row (is_row_3 n) (no_last_row is_row_4))

  -- None of these rows is given exactly when `Admitted` holds.
  pub no_row_iff : (first_given (admit_rows ring k n room) ≡ None) ↔ Admitted ring k n room
  no_row_iff =
      Iff.trans none_iff (
        λ h. record {
          some_edge = h.0.some_edge;
          most_ring = h.0.most;
          no_mark = h.1.0;
          allowed = h.1.1.0;
          most_line = h.1.1.1.0;
          room_for = h.1.1.1.1;
        },
        λ a. (record { some_edge = a.some_edge; most = a.most_ring }, (a.no_mark, (a.allowed, (a.most_line, a.room_for)))),
      )

  -- If none of these rows is given, the ring has at least one edge.
  pub accepted_edge : first_given (admit_rows ring k n room) ≡ None → 0 < m
  accepted_edge e = (no_row_iff.0 e).some_edge

  -- If P holds for each row's refusal under the condition that makes this row the first, then P holds for the refusal of the first row that is given.
  pub by_row : (P : Refusal → Type 0) → ((m ≡ 0) ⊎ (most_ring < m) → P Ring) → (IsRingLength m × HoldsMark ring → P RingMark)
      → (IsRingLength m × ((HoldsMark ring → ⊥) × (m ≤ k)) → P Allowance) → (IsRingLength m × ((HoldsMark ring → ⊥) × ((k < m) × (most_line < n))) → P Line)
      → (IsRingLength m × ((HoldsMark ring → ⊥) × ((k < m) × ((n ≤ most_line) × ((m ≤ n) × (room < room_required m n))))) → P FindingsRoom)
      → (q : Refusal) → first_given (admit_rows ring k n room) ≡ Some q → P q
  unfolding admit_rows limit_rows ring_rows
  by_row P one twelve two three four =
      by_ring ring k own_rows P one twelve two (row_has (is_row_3 n) (λ f. three (row_3_iff.0 f)) (row_has is_row_4 (λ f. four (row_4_iff.0 f)) end))

  -- The first row that is given has number 1 to 4 or 12.
  pub row_numbers : (q : Refusal) → first_given (admit_rows ring k n room) ≡ Some q → (number_of q ≤ 4) ⊎ (number_of q ≡ 12)
  row_numbers =
      by_row (λ q. (number_of q ≤ 4) ⊎ (number_of q ≡ 12)) (λ _. inl (omega arith)) (λ _. inr refl) (λ _. inl (omega arith)) (λ _. inl (omega arith))
      (λ _. inl (omega arith))

  -- The first row that is given has place 0.
  pub row_places : (q : Refusal) → first_given (admit_rows ring k n room) ≡ Some q → place_of q ≡ 0
  row_places = by_row (λ q. place_of q ≡ 0) (λ _. refl) (λ _. refl) (λ _. refl) (λ _. refl) (λ _. refl)
