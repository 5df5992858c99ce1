-- Rows 1, 12 and 2, with which the rows of every search begin, and row 3: when each is the first that is given. `is_row_1`, `is_row_12`, `is_row_2` and `is_row_3`
-- state when each is given and when it is not. From these, `RowsExactly` of crates/answers gives for each row: it is the first exactly when its condition
-- holds and no row before it is given. Behind rows 1, 12 and 2 stand the call's own rows (`own`), such as rows 3 and 4, which have other numbers and change
-- none of this (`ring_row_iff`).
use Prim.Native.Nat.{ℕ, ◌≤◌, ◌<◌}
use mathlib.Core.Path.{◌≡◌, refl, sym, ◌∙◌}
use mathlib.Core.Bool.{Bool, false, ◌&&◌, false≢true}
use mathlib.Core.Logic.{◌↔◌, ◌⊎◌, inl, inr, ⊎_elim}
use mathlib.Core.List.{List, ◌++◌}
use Rattle.std.specs.Prelude.{Option, None, Some}
use Rattle.std.specs.Prelude.{Ok, Err}
use native.Mathlib.Omega.{arith}
use lib.Dec.{leb, ltb}
use lib.ListN.{length}
use Rattle.lists.proofs.SizesTested.{lt_iff, le_iff, eq_iff, and_iff, or_iff}
use Rattle.meaning.specs.Meanings.{HoldsMark, holds_mark}
use Rattle.meaning.proofs.Marks.{holds_iff}
use Rattle.answers.specs.declared.refusals.Refusal.{Refusal}
use Rattle.answers.specs.declared.refusals.Refusal.TheVariants.{Ring, Allowance, Line, RingMark}
use Rattle.answers.specs.Refusals.{number_of}
use Rattle.answers.specs.Rows.{row, first_given}
use Rattle.answers.proofs.FirstRow.{first_append_some}
use Rattle.answers.proofs.RowsExactly.{FirstExactly, NoneExactly, IsRow, is_row, EachRow, end, row_has, first_has, at_row, past_row, no_row, no_last_row, early_iff}
use Rattle.findings.specs.Admitting.{most_ring, most_line, is_row1, is_row12, is_row2, is_row3, ring_rows, limit_rows, IsRingLength, IsVerdict}

-- If the answer to whether the ring holds a mark is false, it holds none.
pub unmarked : {ring : List ℕ} {marked : Bool} → marked ≡ holds_mark ring → marked ≡ false → HoldsMark ring → ⊥
unmarked {ring} says fails holds = false≢true (sym fails ∙ says ∙ (holds_iff ring).1 holds)

-- The refusal is of none of rows 1, 12 and 2.
pub record IsOwnRow (q : Refusal) : Type 0 where
  pub not_1 : number_of q ≡ 1 → ⊥
  pub not_12 : number_of q ≡ 12 → ⊥
  pub not_2 : number_of q ≡ 2 → ⊥

-- A verdict that refuses by the first of some rows is the verdict of these rows and any behind them.
pub refused_early : {first : List (Option Refusal)} (own : List (Option Refusal)) {refusal : Refusal} → IsVerdict first (Err refusal)
    → IsVerdict (first ++ own) (Err refusal)
refused_early {first} own is = record { is = sym (first_append_some first own (sym is.is)) }

-- A row for too little room, in words or bytes, is given exactly when n ≥ m and less is lent than required, and not given exactly when n ≥ m implies enough.
pub is_room_row : (m n lent required : ℕ) (refusal : Refusal)
    → IsRow (row (leb m n && ltb lent required) refusal) refusal ((m ≤ n) × (lent < required)) (m ≤ n → required ≤ lent)
is_room_row m n lent required refusal =
    is_row (and_iff (le_iff m n) (lt_iff lent required)) (λ enough h. omega (arith, enough h.0))
    (λ not starts.
    let not_short : lent < required → ⊥ = λ short. not (starts, short) in
    omega arith)

-- Row 3 is given exactly when "n > 65,536", and not given exactly when n ≤ 65,536.
pub is_row_3 : (n : ℕ) → IsRow (row (is_row3 n) Line) Line (most_line < n) (n ≤ most_line)
is_row_3 n = is_row (lt_iff most_line n) (λ in_limit h. omega arith) (λ not. omega arith)

module _ (ring : List ℕ) (k : ℕ) where
  abbrev m : ℕ
  m = length ring

  -- Row 1 is given exactly when "m = 0 or m > 256", and not given exactly when m is 1 to 256.
  pub is_row_1 : IsRow (row (is_row1 m) Ring) Ring ((m ≡ 0) ⊎ (most_ring < m)) (IsRingLength m)
  is_row_1 =
      is_row (or_iff (eq_iff m 0) (lt_iff most_ring m))
      (λ fits. ⊎_elim (λ empty. omega (arith, fits.some_edge)) (λ long. omega (arith, fits.most)))
      (λ not.
      let not_empty : m ≡ 0 → ⊥ = λ e. not (inl e) in
      let not_long : most_ring < m → ⊥ = λ l. not (inr l) in
      record { some_edge = omega arith; most = omega arith })

  -- Row 12 is given exactly when the ring holds a mark, and not given exactly when it holds none.
  pub is_row_12 : IsRow (row (is_row12 ring) RingMark) RingMark (HoldsMark ring) (HoldsMark ring → ⊥)
  is_row_12 = is_row (holds_iff ring) (λ None holds. None holds) (λ None. None)

  -- Row 2 is given exactly when "k ≥ m", and not given exactly when k < m.
  pub is_row_2 : IsRow (row (is_row2 m k) Allowance) Allowance (m ≤ k) (k < m)
  is_row_2 = is_row (le_iff m k) (λ allowed h. omega arith) (λ not. omega arith)

  -- Row 1 is the first of the three exactly when "m = 0 or m > 256".
  pub ring_1_iff : (first_given (ring_rows ring k) ≡ Some Ring) ↔ ((m ≡ 0) ⊎ (most_ring < m))
  unfolding ring_rows
  ring_1_iff = (at_row is_row_1 (row_has is_row_12 (omega arith) (row_has is_row_2 (omega arith) end))).exactly

  -- Row 12 is the first of the three exactly when the ring holds a mark and row 1 is not given.
  pub ring_12_iff : (first_given (ring_rows ring k) ≡ Some RingMark) ↔ (IsRingLength m × HoldsMark ring)
  unfolding ring_rows
  ring_12_iff = (past_row is_row_1 (omega arith) (at_row is_row_12 (row_has is_row_2 (omega arith) end))).exactly

  -- Row 2 is the first of the three exactly when "k ≥ m" and rows 1 and 12 are not given.
  pub ring_2_iff : (first_given (ring_rows ring k) ≡ Some Allowance) ↔ (IsRingLength m × ((HoldsMark ring → ⊥) × (m ≤ k)))
  unfolding ring_rows
  ring_2_iff = (past_row is_row_1 (omega arith) (past_row is_row_12 (omega arith) (at_row is_row_2 end))).exactly

  -- None of the three is given exactly when m is 1 to 256, the ring holds no mark, and k < m.
  pub no_ring_iff : (first_given (ring_rows ring k) ≡ None) ↔ (IsRingLength m × ((HoldsMark ring → ⊥) × (k < m)))
  unfolding ring_rows
  no_ring_iff = (no_row is_row_1 (no_row is_row_12 (no_last_row is_row_2))).exactly

  -- If the verdict on the three accepts, none of them is given.
  pub within_ring : {u : Unit {0}} → IsVerdict (ring_rows ring k) (Ok u) → IsRingLength m × ((HoldsMark ring → ⊥) × (k < m))
  within_ring is = no_ring_iff.0 (sym is.is)

  -- One of the call's own rows is the first exactly when none of the three is given and it is the first of the call's own.
  pub own_row_iff : {own : List (Option Refusal)} {q : Refusal} {P : Type 0} → IsOwnRow q → FirstExactly own q P
      → (first_given (ring_rows ring k ++ own) ≡ Some q) ↔ (IsRingLength m × ((HoldsMark ring → ⊥) × ((k < m) × P)))
  unfolding ring_rows
  own_row_iff is rest =
      (past_row is_row_1 (λ e. is.not_1 (sym e)) (past_row is_row_12 (λ e. is.not_12 (sym e)) (past_row is_row_2 (λ e. is.not_2 (sym e)) rest))).exactly

  -- No row is given exactly when none of the three is and none of the call's own.
  pub no_own_row_iff : {own : List (Option Refusal)} {P : Type 0} → NoneExactly own P
      → (first_given (ring_rows ring k ++ own) ≡ None) ↔ (IsRingLength m × ((HoldsMark ring → ⊥) × ((k < m) × P)))
  unfolding ring_rows
  no_own_row_iff rest = (no_row is_row_1 (no_row is_row_12 (no_row is_row_2 rest))).exactly

  module _ {own : List (Option Refusal)} (owns : EachRow IsOwnRow own) where
    -- A refusal of one of the three rows is the first exactly when it is the first of the three.
    pub ring_row_iff : (q : Refusal) → (IsOwnRow q → ⊥) → (first_given (ring_rows ring k ++ own) ≡ Some q) ↔ (first_given (ring_rows ring k) ≡ Some q)
    ring_row_iff q not_own = early_iff (ring_rows ring k) own q (λ e. not_own (first_has owns q e))

    -- If P holds for the refusal of each of the three under the condition that makes this row the first, and for each of the call's own rows, then P holds for
    -- the refusal of the first row that is given.
    pub by_ring : (P : Refusal → Type 0) → ((m ≡ 0) ⊎ (most_ring < m) → P Ring) → (IsRingLength m × HoldsMark ring → P RingMark)
        → (IsRingLength m × ((HoldsMark ring → ⊥) × (m ≤ k)) → P Allowance)
        → EachRow (λ (q : Refusal). first_given (ring_rows ring k ++ own) ≡ Some q → P q) own
        → (q : Refusal) → first_given (ring_rows ring k ++ own) ≡ Some q → P q
    unfolding ring_rows
    by_ring P one twelve two own_has q e =
        first_has {P = λ (r : Refusal). first_given (ring_rows ring k ++ own) ≡ Some r → P r}
        (row_has is_row_1 (λ f. one (ring_1_iff.0 ((ring_row_iff Ring (λ is. is.not_1 refl)).0 f)))
        (row_has is_row_12 (λ f. twelve (ring_12_iff.0 ((ring_row_iff RingMark (λ is. is.not_12 refl)).0 f)))
        (row_has is_row_2 (λ f. two (ring_2_iff.0 ((ring_row_iff Allowance (λ is. is.not_2 refl)).0 f))) own_has))) q e e

  module _ (n : ℕ) where
    -- Behind the three, row 3 alone: it is the first exactly when "n > 65,536" and rows 1, 12 and 2 are not given.
    pub limit_3_iff : (first_given (limit_rows ring k n) ≡ Some Line) ↔ (IsRingLength m × ((HoldsMark ring → ⊥) × ((k < m) × (most_line < n))))
    unfolding limit_rows
    limit_3_iff = own_row_iff (omega arith) (at_row (is_row_3 n) end)

    -- None of the four is given exactly when m is 1 to 256, the ring holds no mark, k < m, and n ≤ 65,536.
    pub no_limit_iff : (first_given (limit_rows ring k n) ≡ None) ↔ (IsRingLength m × ((HoldsMark ring → ⊥) × ((k < m) × (n ≤ most_line))))
    unfolding limit_rows
    no_limit_iff = no_own_row_iff (no_last_row (is_row_3 n))

    -- If the verdict on the four accepts, none of them is given.
    pub within_limits : {u : Unit {0}} → IsVerdict (limit_rows ring k n) (Ok u) → IsRingLength m × ((HoldsMark ring → ⊥) × ((k < m) × (n ≤ most_line)))
    within_limits is = no_limit_iff.0 (sym is.is)
