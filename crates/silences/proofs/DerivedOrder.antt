-- What the derived `<`, `>=`, `==`, `partial_cmp` and `cmp` of `Address` give, by the tests `is_below` and `is_same`. So what SilenceOrder and StrictOrder prove
-- of the tests holds for them.
use mathlib.Core.Path.{◌≡◌, refl}
use mathlib.Core.Bool.{Bool, true, false, not, cond, ◌&&◌, ◌||◌}
use lib.Dec.{ltb, eqb}
use Rattle.std.specs.Prelude.{Option, Some}
use Rattle.std.specs.declared.cmp.Ordering.{Ordering}
use Rattle.std.specs.declared.cmp.Ordering.TheVariants.{Less, Equal, Greater}
use Rattle.std.specs.Ordering.{is_lt, is_ge, is_some_and, partial_lt, partial_ge, ordering_then, partial_ordering_then}
use Rattle.silences.specs.contracts.addresses.AddressOrd.TheImpl.{cmp-value}
use Rattle.silences.specs.contracts.addresses.AddressPartialEq.TheImpl.{eq-value}
use Rattle.silences.specs.contracts.addresses.AddressPartialOrd.TheImpl.{partial_cmp-value}
use Rattle.silences.specs.declared.addresses.Address.{Address as AddressStruct}
use Rattle.silences.specs.Silences.{is_below, is_same}
use Rattle.silences.specs.Addresses.{address_of}

-- The order by two tests: whether the first is less, and whether the two are the same.
abbrev pub ordered : Bool → Bool → Ordering
ordered less same = cond less Less (cond same Equal Greater)

-- what one pair of numbers says
abbrev decided : Bool → Bool → Option Ordering
decided less equal = Some (ordered less equal)

module _ (less1 equal1 less2 equal2 less3 equal3 : Bool) where
  -- what three pairs say, one after the other
  abbrev in_turn : Option Ordering
  in_turn = partial_ordering_then (decided less1 equal1) (partial_ordering_then (decided less2 equal2) (decided less3 equal3))

  -- the first pair that differs decides
  abbrev first_decides : Bool
  first_decides = less1 || (equal1 && (less2 || (equal2 && less3)))

  -- the order by two tests of the three pairs: whether the first pair that differs is less, and whether all are equal
  abbrev whole : Ordering
  whole = ordered first_decides (equal1 && (equal2 && equal3))

-- so it is for `<`, and for `>=` the other way round
in_turn_is : (less1 equal1 less2 equal2 less3 equal3 : Bool)
    → (is_some_and is_lt (in_turn less1 equal1 less2 equal2 less3 equal3) ≡ first_decides less1 equal1 less2 equal2 less3 equal3)
    × (first_decides less1 equal1 less2 equal2 less3 equal3 ≡ not (is_some_and is_ge (in_turn less1 equal1 less2 equal2 less3 equal3)))
in_turn_is true equal1 less2 equal2 less3 equal3 = (refl, refl)
in_turn_is false false less2 equal2 less3 equal3 = (refl, refl)
in_turn_is false true true equal2 less3 equal3 = (refl, refl)
in_turn_is false true false false less3 equal3 = (refl, refl)
in_turn_is false true false true true equal3 = (refl, refl)
in_turn_is false true false true false true = (refl, refl)
in_turn_is false true false true false false = (refl, refl)

-- What the three pairs say, one after the other, is that order: once with `Option`, once without.
whole_is : (less1 equal1 less2 equal2 less3 equal3 : Bool)
    → (in_turn less1 equal1 less2 equal2 less3 equal3 ≡ Some (whole less1 equal1 less2 equal2 less3 equal3))
    × (ordering_then (ordered less1 equal1) (ordering_then (ordered less2 equal2) (ordered less3 equal3)) ≡ whole less1 equal1 less2 equal2 less3 equal3)
whole_is true equal1 less2 equal2 less3 equal3 = (refl, refl)
whole_is false false less2 equal2 less3 equal3 = (refl, refl)
whole_is false true true equal2 less3 equal3 = (refl, refl)
whole_is false true false false less3 equal3 = (refl, refl)
whole_is false true false true true equal3 = (refl, refl)
whole_is false true false true false true = (refl, refl)
whole_is false true false true false false = (refl, refl)

module _ (a b : AddressStruct) where
  -- `a < b` is whether a is below b.
  pub derived_below : partial_lt partial_cmp-value.it a b ≡ is_below (address_of a) (address_of b)
  unfolding is_below
  derived_below =
      (in_turn_is (ltb a.cell b.cell) (eqb a.cell b.cell) (ltb a.ring_number b.ring_number) (eqb a.ring_number b.ring_number) (ltb a.start b.start)
      (eqb a.start b.start)).0

  -- And a is below b exactly if `a >= b` is false.
  pub derived_not_below : is_below (address_of a) (address_of b) ≡ not (partial_ge partial_cmp-value.it a b)
  unfolding is_below
  derived_not_below =
      (in_turn_is (ltb a.cell b.cell) (eqb a.cell b.cell) (ltb a.ring_number b.ring_number) (eqb a.ring_number b.ring_number) (ltb a.start b.start)
      (eqb a.start b.start)).1

  -- `a == b` is whether a and b are the same address.
  pub derived_same : eq-value.it a b ≡ is_same (address_of a) (address_of b)
  unfolding is_same
  derived_same = refl

  -- `a.partial_cmp(&b)` gives the order by the two tests. It decides `<=` and `>` as well.
  pub derived_partial_cmp : partial_cmp-value.it a b ≡ Some (ordered (is_below (address_of a) (address_of b)) (is_same (address_of a) (address_of b)))
  unfolding is_below is_same
  derived_partial_cmp =
      (whole_is (ltb a.cell b.cell) (eqb a.cell b.cell) (ltb a.ring_number b.ring_number) (eqb a.ring_number b.ring_number) (ltb a.start b.start)
      (eqb a.start b.start)).0

  -- And `a.cmp(&b)` is that order.
  pub derived_cmp : cmp-value.it a b ≡ ordered (is_below (address_of a) (address_of b)) (is_same (address_of a) (address_of b))
  unfolding is_below is_same
  derived_cmp =
      (whole_is (ltb a.cell b.cell) (eqb a.cell b.cell) (ltb a.ring_number b.ring_number) (eqb a.ring_number b.ring_number) (ltb a.start b.start)
      (eqb a.start b.start)).1
