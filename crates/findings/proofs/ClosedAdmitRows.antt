-- When each of the rows of survey and scan on a closed line, 1, 12, 2, 3, 4, 10, is the first that is given. LimitRows has rows 1, 12 and 2, and states when row
-- 3 is given; the call's own rows are 3, 4 and 10, and `is_closed_row_4` and `is_row_10` state when each of these two is given and when it is not.
use Prim.Native.Nat.{ℕ, ◌≤◌, ◌<◌}
use mathlib.Core.Path.{◌≡◌, refl}
use mathlib.Core.Logic.Iff
use mathlib.Core.Logic.{◌↔◌, ◌⊎◌, inl, inr}
use mathlib.Core.List.{List, [], ◌∷◌}
use Rattle.std.specs.Prelude.{Option, None, Some}
use native.Mathlib.Omega.{arith}
use lib.ListN.{length}
use Rattle.meaning.specs.Meanings.{HoldsMark}
use Rattle.answers.specs.declared.refusals.Refusal.{Refusal}
use Rattle.answers.specs.declared.refusals.Refusal.TheVariants.{Ring, Allowance, Line, FindingsRoom, OutputRoom, RingMark}
use Rattle.answers.specs.Refusals.{number_of, place_of}
use Rattle.answers.specs.Rows.{row, first_given}
use Rattle.answers.proofs.RowsExactly.{FirstExactly, IsRow, EachRow, end, row_has, at_row, past_row, no_row, no_last_row}
use Rattle.findings.specs.Admitting.{most_ring, most_line, is_row3, ring_rows, limit_rows, IsRingLength}
use Rattle.findings.specs.ClosedRows.{closed_room, join_bytes, is_closed_row4, is_row10, closed_rows, ClosedAdmitted}
use Rattle.findings.proofs.LimitRows.{IsOwnRow, is_room_row, is_row_3, ring_1_iff, ring_12_iff, ring_2_iff, own_row_iff, no_own_row_iff, ring_row_iff, by_ring}

module _ (ring : List ℕ) (k n room joins : ℕ) where
  abbrev m : ℕ
  m = length ring

  -- Row 4 is given exactly when n ≥ m and fewer than 4·n words are lent, and not given exactly when n ≥ m implies enough words.
  pub is_closed_row_4 : IsRow (row (is_closed_row4 m n room) FindingsRoom) FindingsRoom ((m ≤ n) × (room < closed_room n)) (m ≤ n → closed_room n ≤ room)
  is_closed_row_4 = is_room_row m n room (closed_room n) FindingsRoom

  -- Row 10 is given exactly when n ≥ m and the join area is below 2·m − 2 bytes, and not given exactly when n ≥ m implies enough bytes.
  pub is_row_10 : IsRow (row (is_row10 m n joins) OutputRoom) OutputRoom ((m ≤ n) × (joins < join_bytes m)) (m ≤ n → join_bytes m ≤ joins)
  is_row_10 = is_room_row m n joins (join_bytes m) OutputRoom

  -- the call's own rows
  abbrev own : List (Option Refusal)
  own = row (is_row3 n) Line ∷ row (is_closed_row4 m n room) FindingsRoom ∷ row (is_row10 m n joins) OutputRoom ∷ []

  -- they have none of the numbers 1, 12 and 2
  own_rows : EachRow IsOwnRow own
  own_rows = row_has (is_row_3 n) (omega arith) (row_has is_closed_row_4 (omega arith) (row_has is_row_10 (omega arith) end))

  -- of the three, row 10 is the first exactly when n ≤ 65,536, n ≥ m, there are enough words, and too few bytes for the join
  own_10 : FirstExactly own OutputRoom ((n ≤ most_line) × ((m ≤ n) × ((closed_room n ≤ room) × (joins < join_bytes m))))
  own_10 = record {
    exactly = Iff.trans (past_row (is_row_3 n) (omega arith) (past_row is_closed_row_4 (omega arith) (at_row is_row_10 end))).exactly (
      λ h. (h.0, (h.1.1.0, (h.1.0 h.1.1.0, h.1.1.1))),
      λ h. (h.0, (λ _. h.1.1.0, (h.1.0, h.1.1.1))),
    );
  }

  -- Row 1 is the first exactly when "m = 0 or m > 256".
  pub closed_row_1_iff : (first_given (closed_rows ring k n room joins) ≡ Some Ring) ↔ ((m ≡ 0) ⊎ (most_ring < m))
  unfolding closed_rows limit_rows ring_rows
  closed_row_1_iff = Iff.trans (ring_row_iff ring k own_rows Ring (λ is. is.not_1 refl)) (ring_1_iff ring k)

  -- Row 12 is the first exactly when the ring holds a mark and row 1 is not given.
  pub closed_row_12_iff : (first_given (closed_rows ring k n room joins) ≡ Some RingMark) ↔ (IsRingLength m × HoldsMark ring)
  unfolding closed_rows limit_rows ring_rows
  closed_row_12_iff = Iff.trans (ring_row_iff ring k own_rows RingMark (λ is. is.not_12 refl)) (ring_12_iff ring k)

  -- Row 2 is the first exactly when "k ≥ m" and rows 1 and 12 are not given.
  pub closed_row_2_iff : (first_given (closed_rows ring k n room joins) ≡ Some Allowance) ↔ (IsRingLength m × ((HoldsMark ring → ⊥) × (m ≤ k)))
  unfolding closed_rows limit_rows ring_rows
  closed_row_2_iff = Iff.trans (ring_row_iff ring k own_rows Allowance (λ is. is.not_2 refl)) (ring_2_iff ring k)

  -- Row 3 is the first exactly when "n > 65,536" and rows 1, 12 and 2 are not given.
  pub closed_row_3_iff : (first_given (closed_rows ring k n room joins) ≡ Some Line) ↔ (IsRingLength m × ((HoldsMark ring → ⊥) × ((k < m) × (most_line < n))))
  unfolding closed_rows limit_rows ring_rows
  closed_row_3_iff = own_row_iff ring k (omega arith) (at_row (is_row_3 n) (row_has is_closed_row_4 (omega arith) (row_has is_row_10 (omega arith) end)))

  -- Row 4 is the first exactly when n ≥ m and fewer than 4·n words are lent, and rows 1, 12, 2 and 3 are not given.
  pub closed_row_4_iff : (first_given (closed_rows ring k n room joins) ≡ Some FindingsRoom)
      ↔ (IsRingLength m × ((HoldsMark ring → ⊥) × ((k < m) × ((n ≤ most_line) × ((m ≤ n) × (room < closed_room n))))))
  unfolding closed_rows limit_rows ring_rows
  closed_row_4_iff = own_row_iff ring k (omega arith) (past_row (is_row_3 n) (omega arith) (at_row is_closed_row_4 (row_has is_row_10 (omega arith) end)))

  -- Row 10 is the first exactly when "the join area is below 2·m − 2 bytes and n ≥ m", and rows 1, 12, 2, 3 and 4 are not given.
  pub closed_row_10_iff : (first_given (closed_rows ring k n room joins) ≡ Some OutputRoom)
      ↔ (IsRingLength m × ((HoldsMark ring → ⊥) × ((k < m) × ((n ≤ most_line) × ((m ≤ n) × ((closed_room n ≤ room) × (joins < join_bytes m)))))))
  unfolding closed_rows limit_rows ring_rows
  closed_row_10_iff = own_row_iff ring k (omega arith) own_10

  -- None of these rows is given exactly when m is 1 to 256, the ring holds no mark, k < m, n ≤ 65,536, and n ≥ m implies enough words and enough bytes.
  pub closed_none_iff : (first_given (closed_rows ring k n room joins) ≡ None)
      ↔ (IsRingLength m
      × ((HoldsMark ring → ⊥) × ((k < m) × ((n ≤ most_line) × ((m ≤ n → closed_room n ≤ room) × (m ≤ n → join_bytes m ≤ joins))))))
  unfolding closed_rows limit_rows ring_rows
  closed_none_iff = no_own_row_iff ring k (no_row (is_row_3 n) (no_row is_closed_row_4 (no_last_row is_row_10)))

  -- None of these rows is given exactly when `ClosedAdmitted` holds.
  pub closed_no_row_iff : (first_given (closed_rows ring k n room joins) ≡ None) ↔ ClosedAdmitted ring k n room joins
  closed_no_row_iff =
      Iff.trans closed_none_iff (
        λ h. record {
          some_edge = h.0.some_edge;
          most_ring = h.0.most;
          no_mark = h.1.0;
          allowed = h.1.1.0;
          most_line = h.1.1.1.0;
          room_for = h.1.1.1.1.0;
          join_for = h.1.1.1.1.1;
        },
        λ a. (record { some_edge = a.some_edge; most = a.most_ring }, (a.no_mark, (a.allowed, (a.most_line, (a.room_for, a.join_for))))),
      )

  -- If none of these rows is given, the ring has at least one edge.
  pub closed_accepted_edge : first_given (closed_rows ring k n room joins) ≡ None → 0 < m
  closed_accepted_edge e = (closed_no_row_iff.0 e).some_edge

  -- If P holds for each row's refusal, then P holds for the refusal of the first row that is given.
  pub closed_row_has : (P : Refusal → Type 0) → P Ring → P RingMark → P Allowance → P Line → P FindingsRoom → P OutputRoom
      → (q : Refusal) → first_given (closed_rows ring k n room joins) ≡ Some q → P q
  unfolding closed_rows limit_rows ring_rows
  closed_row_has P one twelve two three four ten =
      by_ring ring k own_rows P (λ _. one) (λ _. twelve) (λ _. two)
      (row_has (is_row_3 n) (λ _. three) (row_has is_closed_row_4 (λ _. four) (row_has is_row_10 (λ _. ten) end)))

  -- The first row that is given has number 1 to 4, 10 or 12.
  pub closed_row_numbers : (q : Refusal) → first_given (closed_rows ring k n room joins) ≡ Some q → (number_of q ≤ 4) ⊎ ((number_of q ≡ 10) ⊎ (number_of q ≡ 12))
  closed_row_numbers =
      closed_row_has (λ q. (number_of q ≤ 4) ⊎ ((number_of q ≡ 10) ⊎ (number_of q ≡ 12))) (inl (omega arith)) (inr (inr refl)) (inl (omega arith)) (inl (omega arith))
      (inl (omega arith)) (inr (inl refl))

  -- The first row that is given has place 0.
  pub closed_row_places : (q : Refusal) → first_given (closed_rows ring k n room joins) ≡ Some q → place_of q ≡ 0
  closed_row_places = closed_row_has (λ q. place_of q ≡ 0) refl refl refl refl refl refl
