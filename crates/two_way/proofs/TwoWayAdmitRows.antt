-- When each of the rows of the two-way scan, 1, 12, 2, 14, 3, 4, is the first that is given. LimitRows of crates/findings has rows 1, 12 and 2, and states when row
-- 3 is given; the call's own rows are 14, 3 and 4. `is_row_14` and `is_two_way_row_4` state when rows 14 and 4 are given and when they are not.
use Prim.Native.Nat.{ℕ, ◌≤◌, ◌<◌}
use mathlib.Core.Path.{◌≡◌, refl, sym, subst}
use mathlib.Core.Logic.Iff
use mathlib.Core.Logic.{◌↔◌, ◌⊎◌, inl, inr}
use mathlib.Core.List.{List, [], ◌∷◌}
use Rattle.std.specs.Prelude.{Option, None, Some}
use Rattle.std.specs.Prelude.{Ok}
use borrow.Author.Tests.{ltb-true, ltb-false}
use lib.Dec.{ltb}
use mathlib.Core.Bool.{Bool, true, false, cond}
use Rattle.std.proofs.lemmas.Option.{cond_some, none-some}
use native.Mathlib.Omega.{arith}
use lib.ListN.{length}
use Rattle.lists.proofs.SizesTested.{lt_iff}
use Rattle.meaning.specs.Meanings.{HoldsMark}
use Rattle.answers.specs.declared.refusals.Refusal.{Refusal}
use Rattle.answers.specs.declared.refusals.Refusal.TheVariants.{Ring, Allowance, Line, FindingsRoom, RingMark, RingCode}
use Rattle.answers.specs.Refusals.{number_of, place_of}
use Rattle.answers.specs.Rows.{row, first_given}
use Rattle.answers.proofs.RowsExactly.{IsRow, is_row, first_place_iff, EachRow, end, row_has, at_row, at_fault, past_row, no_row, no_last_row}
use Rattle.findings.specs.Admitting.{most_ring, most_line, is_row3, ring_rows, IsRingLength, IsVerdict}
use Rattle.findings.proofs.LimitRows.{IsOwnRow, within_ring, is_room_row, is_row_3, ring_1_iff, ring_12_iff, ring_2_iff, own_row_iff, no_own_row_iff, ring_row_iff, by_ring}
use Rattle.two_way.specs.Admitting.{two_way_room, first_no_edge, row14, is_two_way_row4, two_way_rows, IsFirstNoEdge, AllEdges, TwoWayAdmitted, SaysFirstNoEdge}
use Rattle.two_way.proofs.FirstNoEdge.{first_edges, first_no_edge_lem, first_no_edge_by}

module _ {ring : List ℕ} where
  -- If the first place without an edge code is a place of the ring, it is "the first such ring place".
  first_given_lem : first_no_edge ring < length ring → IsFirstNoEdge ring (first_no_edge ring)
  first_given_lem given = record { in_ring = given; no_edge = first_no_edge_lem ring given; edges_before = first_edges ring }

  -- The place that `first_no_edge` returns is the first without an edge code.
  pub first_told : {place : ℕ} → SaysFirstNoEdge ring (Some place) → IsFirstNoEdge ring place
  first_told {place} says =
      let is = cond_some (ltb (first_no_edge ring) (length ring)) (first_no_edge ring) place (sym says.is) in
      subst (IsFirstNoEdge ring) is.1 (first_given_lem (ltb-true (first_no_edge ring) (length ring) is.0))

  -- If it returns none, all codes are edges.
  none_first : SaysFirstNoEdge ring None → AllEdges ring
  none_first says = go (ltb (first_no_edge ring) (length ring)) refl says.is
    where
      go : (t : Bool) → ltb (first_no_edge ring) (length ring) ≡ t → None ≡ cond t (Some (first_no_edge ring)) None → AllEdges ring
      go true _ none = absurd (none-some (first_no_edge ring) none)
      go false past _ = record { each = λ q l. first_edges ring q (omega (arith, ltb-false (first_no_edge ring) (length ring) past)) }

-- If the verdict on rows 1, 12 and 2 accepts, and no place is without an edge code, then none of rows 1, 12, 2 and 14 is given. P is what follows for rows 3 and 4.
pub with_edges : {ring : List ℕ} {k : ℕ} {u : Unit {0}} {P : Type 0} → IsVerdict (ring_rows ring k) (Ok u) → SaysFirstNoEdge ring None
    → P → IsRingLength (length ring) × ((HoldsMark ring → ⊥) × ((k < length ring) × (AllEdges ring × P)))
with_edges {ring} {k} verdict first p =
    let within = within_ring ring k verdict in
    (within.0, (within.1.0, (within.1.1, (none_first first, p))))

-- The row's place is the first without an edge code: row 14 is given exactly when that is a place of the ring, and not given exactly when all codes are edges.
pub is_row_14 : (ring : List ℕ) → IsRow (row14 ring) (RingCode (first_no_edge ring)) (first_no_edge ring < length ring) (AllEdges ring)
is_row_14 ring =
    is_row (lt_iff (first_no_edge ring) (length ring)) (λ all below. omega (arith, all.each (first_no_edge ring) below, first_no_edge_lem ring below))
    (λ not. record { each = λ q l. first_edges ring q (omega (arith, not)) })

-- Row 14 is given with this place exactly when it is "the first such ring place".
pub row_14_at_iff : (ring : List ℕ) (place : ℕ) → (row14 ring ≡ Some (RingCode place)) ↔ IsFirstNoEdge ring place
row_14_at_iff ring = first_place_iff RingCode (λ p. refl) first_given_lem (λ p first. (first_no_edge_by ring first, first.in_ring))

module _ (ring : List ℕ) (k n room : ℕ) where
  abbrev m : ℕ
  m = length ring

  -- Row 4 is given exactly when n ≥ m and fewer than 8·(n − m + 1) words are lent, and not given exactly when n ≥ m implies enough words.
  pub is_two_way_row_4 : IsRow (row (is_two_way_row4 m n room) FindingsRoom) FindingsRoom ((m ≤ n) × (room < two_way_room m n)) (m ≤ n → two_way_room m n ≤ room)
  is_two_way_row_4 = is_room_row m n room (two_way_room m n) FindingsRoom

  -- the call's own rows
  abbrev own : List (Option Refusal)
  own = row14 ring ∷ row (is_row3 n) Line ∷ row (is_two_way_row4 m n room) FindingsRoom ∷ []

  -- they have none of the numbers 1, 12 and 2
  own_rows : EachRow IsOwnRow own
  own_rows = row_has (is_row_14 ring) (omega arith) (row_has (is_row_3 n) (omega arith) (row_has is_two_way_row_4 (omega arith) end))

  -- Row 1 is the first exactly when "m = 0 or m > 256".
  pub two_way_1_iff : (first_given (two_way_rows ring k n room) ≡ Some Ring) ↔ ((m ≡ 0) ⊎ (most_ring < m))
  unfolding two_way_rows
  two_way_1_iff = Iff.trans (ring_row_iff ring k own_rows Ring (λ is. is.not_1 refl)) (ring_1_iff ring k)

  -- Row 12 is the first exactly when the ring holds a mark and row 1 is not given.
  pub two_way_12_iff : (first_given (two_way_rows ring k n room) ≡ Some RingMark) ↔ (IsRingLength m × HoldsMark ring)
  unfolding two_way_rows
  two_way_12_iff = Iff.trans (ring_row_iff ring k own_rows RingMark (λ is. is.not_12 refl)) (ring_12_iff ring k)

  -- Row 2 is the first exactly when "k ≥ m" and rows 1 and 12 are not given.
  pub two_way_2_iff : (first_given (two_way_rows ring k n room) ≡ Some Allowance) ↔ (IsRingLength m × ((HoldsMark ring → ⊥) × (m ≤ k)))
  unfolding two_way_rows
  two_way_2_iff = Iff.trans (ring_row_iff ring k own_rows Allowance (λ is. is.not_2 refl)) (ring_2_iff ring k)

  -- Row 14 is the first with this place exactly when it is the first ring place with a code above 247, and rows 1, 12 and 2 are not given.
  pub two_way_14_iff : (place : ℕ) → (first_given (two_way_rows ring k n room) ≡ Some (RingCode place))
      ↔ (IsRingLength m × ((HoldsMark ring → ⊥) × ((k < m) × IsFirstNoEdge ring place)))
  unfolding two_way_rows
  two_way_14_iff place =
      own_row_iff ring k (omega arith) (at_fault (row_14_at_iff ring place) (row_has (is_row_3 n) (omega arith) (row_has is_two_way_row_4 (omega arith) end)))

  -- Row 3 is the first exactly when "n > 65,536" and rows 1, 12, 2 and 14 are not given.
  pub two_way_3_iff : (first_given (two_way_rows ring k n room) ≡ Some Line)
      ↔ (IsRingLength m × ((HoldsMark ring → ⊥) × ((k < m) × (AllEdges ring × (most_line < n)))))
  unfolding two_way_rows
  two_way_3_iff = own_row_iff ring k (omega arith) (past_row (is_row_14 ring) (omega arith) (at_row (is_row_3 n) (row_has is_two_way_row_4 (omega arith) end)))

  -- Row 4 is the first exactly when n ≥ m and fewer than 8·(n − m + 1) words are lent, and rows 1, 12, 2, 14 and 3 are not given.
  pub two_way_4_iff : (first_given (two_way_rows ring k n room) ≡ Some FindingsRoom)
      ↔ (IsRingLength m × ((HoldsMark ring → ⊥) × ((k < m) × (AllEdges ring × ((n ≤ most_line) × ((m ≤ n) × (room < two_way_room m n)))))))
  unfolding two_way_rows
  two_way_4_iff = own_row_iff ring k (omega arith) (past_row (is_row_14 ring) (omega arith) (past_row (is_row_3 n) (omega arith) (at_row is_two_way_row_4 end)))

  -- None of these rows is given exactly when m is 1 to 256, the ring holds no mark, k < m, all codes are edges, n ≤ 65,536, and n ≥ m implies enough words.
  pub two_way_none_iff : (first_given (two_way_rows ring k n room) ≡ None)
      ↔ (IsRingLength m × ((HoldsMark ring → ⊥) × ((k < m) × (AllEdges ring × ((n ≤ most_line) × (m ≤ n → two_way_room m n ≤ room))))))
  unfolding two_way_rows
  two_way_none_iff = no_own_row_iff ring k (no_row (is_row_14 ring) (no_row (is_row_3 n) (no_last_row is_two_way_row_4)))

  -- None of these rows is given exactly when `TwoWayAdmitted` holds.
  pub two_way_no_row_iff : (first_given (two_way_rows ring k n room) ≡ None) ↔ TwoWayAdmitted ring k n room
  two_way_no_row_iff =
      Iff.trans two_way_none_iff (
        λ h. record {
          some_edge = h.0.some_edge;
          most_ring = h.0.most;
          no_mark = h.1.0;
          allowed = h.1.1.0;
          all_edges = h.1.1.1.0;
          most_line = h.1.1.1.1.0;
          room_for = h.1.1.1.1.1;
        },
        λ a. (record { some_edge = a.some_edge; most = a.most_ring }, (a.no_mark, (a.allowed, (a.all_edges, (a.most_line, a.room_for))))),
      )

  -- If P holds for each row's refusal, for row 14 with a place of a ring of at most 256 codes, then P holds for the refusal of the first row that is given.
  pub two_way_row_has : (P : Refusal → Type 0) → P Ring → P RingMark → P Allowance → ((place : ℕ) → place < most_ring → P (RingCode place)) → P Line → P FindingsRoom
      → (q : Refusal) → first_given (two_way_rows ring k n room) ≡ Some q → P q
  unfolding two_way_rows
  two_way_row_has P one twelve two fourteen three four =
      by_ring ring k own_rows P (λ _. one) (λ _. twelve) (λ _. two)
      (row_has (is_row_14 ring) (λ f. let h = (two_way_14_iff (first_no_edge ring)).0 f in fourteen (first_no_edge ring) (omega (arith, h.0.most, h.1.1.1.in_ring)))
      (row_has (is_row_3 n) (λ _. three) (row_has is_two_way_row_4 (λ _. four) end)))

  -- The first row that is given has number 1 to 4, 12 or 14.
  pub two_way_row_numbers : (q : Refusal) → first_given (two_way_rows ring k n room) ≡ Some q → (number_of q ≤ 4) ⊎ ((number_of q ≡ 12) ⊎ (number_of q ≡ 14))
  two_way_row_numbers =
      two_way_row_has (λ q. (number_of q ≤ 4) ⊎ ((number_of q ≡ 12) ⊎ (number_of q ≡ 14))) (inl (omega arith)) (inr (inl refl)) (inl (omega arith)) (λ _ _. inr (inr refl))
      (inl (omega arith)) (inl (omega arith))

  -- The first row that is given has a place below 256, and place 0 if its number is not 14.
  pub two_way_row_places : (q : Refusal) → first_given (two_way_rows ring k n room) ≡ Some q → (place_of q < most_ring) × ((number_of q ≡ 14 → ⊥) → place_of q ≡ 0)
  two_way_row_places =
      two_way_row_has (λ q. (place_of q < most_ring) × ((number_of q ≡ 14 → ⊥) → place_of q ≡ 0)) (omega arith, λ _. refl) (omega arith, λ _. refl) (omega arith, λ _. refl)
      (λ place below. (below, λ other. absurd (other refl))) (omega arith, λ _. refl) (omega arith, λ _. refl)
