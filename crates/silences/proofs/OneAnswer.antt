-- Each function's contract has one answer: any two answers that meet it are equal. One law for each function. The contract of `is_above` is an equation for the
-- answer itself, and so is what the derived `<` and `==` of an address give (DerivedOrder). The contract of `field_at` is an equation for `sought_of r`, which
-- determines `r` (`sought_unique`).
use Prim.Native.Nat.{ℕ}
use mathlib.Core.Path.{◌≡◌, refl, sym, ap, ◌∙◌}
use mathlib.Core.Bool.{Bool}
use mathlib.Core.List.{List}
use Rattle.std.specs.Prelude.{Option, None, Some}
use Rattle.silences.specs.declared.addresses.Address.{Address as AddressStruct}
use Rattle.silences.specs.declared.addresses.Field.{Field}
use Rattle.silences.specs.Silences.{is_below, is_same, is_above}
use Rattle.silences.specs.Reading.{FieldAt, whole, faulty, field_at}
use Rattle.silences.specs.Addresses.{address_of, last_of, sought_of}

-- the inverse of `sought_of`
abbrev sought_back : FieldAt → Option Field
sought_back (whole s next) =
    Some (record { address = record { cell = s.address.cell; ring_number = s.address.ring_number; start = s.address.start }; ceiling = s.ceiling; next = next })
sought_back faulty = None

-- it gives what was returned back
sought_back_lem : (r : Option Field) → sought_back (sought_of r) ≡ r
sought_back_lem (Some f) = refl
sought_back_lem None = refl

-- What was returned is determined by its field.
pub sought_unique : (r r' : Option Field) → sought_of r ≡ sought_of r' → r ≡ r'
sought_unique r r' e = sym (sought_back_lem r) ∙ ap sought_back e ∙ sought_back_lem r'

-- Any two answers of `field_at` that meet its contract are equal.
pub field_at_unique : (book : List ℕ) (at : ℕ) (r r' : Option Field) → sought_of r ≡ field_at book at → sought_of r' ≡ field_at book at → r ≡ r'
field_at_unique book at r r' p p' = sought_unique r r' (p ∙ sym p')

-- Any two answers to whether one address is below another are equal. `a < b` is such an answer (`derived_below`).
pub is_below_unique : (a b : AddressStruct) (r r' : Bool) → r ≡ is_below (address_of a) (address_of b) → r' ≡ is_below (address_of a) (address_of b) → r ≡ r'
is_below_unique a b r r' p p' = p ∙ sym p'

-- Any two answers to whether two addresses are the same are equal. `a == b` is such an answer (`derived_same`).
pub is_same_unique : (a b : AddressStruct) (r r' : Bool) → r ≡ is_same (address_of a) (address_of b) → r' ≡ is_same (address_of a) (address_of b) → r ≡ r'
is_same_unique a b r r' p p' = p ∙ sym p'

-- Any two answers of `is_above` that meet its contract are equal.
pub is_above_unique : (last : Option AddressStruct) (address : AddressStruct) (r r' : Bool) → r ≡ is_above (last_of last) (address_of address) → r' ≡ is_above (last_of last) (address_of address)
    → r ≡ r'
is_above_unique last address r r' p p' = p ∙ sym p'
