-- The first place of a ring that has no edge code. The test `is_no_edge` passes exactly where the code is above 247 (`no_edge_iff`), so what First of crates/meaning
-- proves of the first number that passes a test holds here in codes: every place before it has an edge code (`first_edges`), and if it is a place of the ring, it
-- has none (`first_no_edge_lem`).
use Prim.Native.Nat.{ℕ, ◌≤◌, ◌<◌}
use mathlib.Core.Path.{◌≡◌, sym, ◌∙◌}
use mathlib.Core.Bool.{Bool, true, false, cond, not, false≢true}
use mathlib.Core.List.{List}
use mathlib.Core.Logic.{◌↔◌}
use native.Mathlib.Omega.{arith}
use lib.Dec.{ltb}
use lib.ListN.{length, get_or}
use Rattle.std.specs.Prelude.{Option, None, Some}
use Rattle.std.specs.List.{position_or_len}
use Rattle.std.proofs.lemmas.List.Sums.{position_or_len_is}
use Rattle.lists.proofs.SizesTested.{lt_iff, not_iff, test_fails}
use Rattle.meaning.specs.EdgeCodes.{edge_codes, is_edge}
use Rattle.meaning.proofs.First.{first_below_lem, first_by}
use Rattle.two_way.specs.Admitting.{is_no_edge, first_no_edge, IsFirstNoEdge, SaysFirstNoEdge}

-- Whether a code is no edge's.
abbrev pub not_edge : ℕ → Bool
not_edge code = not (is_edge code)

module _ (ring : List ℕ) where
  -- The test passes at a place exactly when its code is above 247.
  pub no_edge_iff : (q : ℕ) → (is_no_edge ring q ≡ true) ↔ (edge_codes ≤ get_or ring q 0)
  no_edge_iff q =
      let tested = not_iff (lt_iff (get_or ring q 0) edge_codes) in
      (λ e. omega (arith, tested.0 e), λ h. tested.1 (λ l. omega arith))

  -- It fails where the code is an edge's.
  pub edge_fails : (q : ℕ) → get_or ring q 0 < edge_codes → is_no_edge ring q ≡ false
  edge_fails q edge = sym (test_fails (no_edge_iff q) (λ h. omega arith))

  -- A place where it fails has an edge code.
  edge_at : (q : ℕ) → is_no_edge ring q ≡ false → get_or ring q 0 < edge_codes
  edge_at q fails =
      let no_more : edge_codes ≤ get_or ring q 0 → ⊥ = λ h. false≢true (sym fails ∙ (no_edge_iff q).1 h) in
      omega arith

  -- Every place before the first without an edge code has one.
  pub first_edges : (q : ℕ) → q < first_no_edge ring → get_or ring q 0 < edge_codes
  unfolding first_no_edge
  first_edges q l = edge_at q (first_below_lem.none_before.fails q l)

  -- If `first_no_edge` is a place of the ring, its code is above 247.
  pub first_no_edge_lem : first_no_edge ring < length ring → edge_codes ≤ get_or ring (first_no_edge ring) 0
  unfolding first_no_edge
  first_no_edge_lem below = (no_edge_iff (first_no_edge ring)).0 (first_below_lem.passes below)

  -- A place before which all codes are edges, and which has none, is the first without one.
  pub first_no_edge_by : {q : ℕ} → IsFirstNoEdge ring q → q ≡ first_no_edge ring
  unfolding first_no_edge
  first_no_edge_by {q} is =
      first_by (record { place_le = omega (arith, is.in_ring); fails = λ r l. edge_fails r (is.edges_before r l) }) (λ _. (no_edge_iff q).1 is.no_edge)

  -- `position` asks the codes one after the other, so it finds the first place.
  pub position_says : {r : Option ℕ} → r ≡ cond (ltb (position_or_len not_edge ring) (length ring)) (Some (position_or_len not_edge ring)) None → SaysFirstNoEdge ring r
  unfolding first_no_edge
  position_says is =
      let first = first_below_lem {p = is_no_edge ring} {n = length ring} in
      let same : position_or_len not_edge ring ≡ first_no_edge ring =
      position_or_len_is not_edge ring (first_no_edge ring) 0 first.none_before.place_le first.none_before.fails first.passes in
      record { is = rw same at is }
