-- The values of this crate's types as the addresses, silences and fields of the specs. With these the contract of each function on silences is one equation
-- with a definition of Silences, Layout or Reading.
--
--   kind_of      a number of bytes for the ceiling, if there is one, as the kind of a field
--   CanBeField   the precondition of the private `field_of_kind`
--   address_of   an `Address` as an address
--   last_of      the `Address` of the record before, if there is one, as an address
--   sought_of    a `Field` that was found, or none, as a field: whole or faulty
use Rattle.std.specs.Prelude.{ℕ, ◌<◌, ◌≡◌, List, length, get_or}
use Rattle.std.specs.Prelude.{Option, None, Some}
use Rattle.silences.specs.declared.addresses.Address.{Address as AddressStruct}
use Rattle.silences.specs.declared.addresses.Field.{Field}
use Rattle.silences.specs.Silences.{Address, address, silence}
use Rattle.silences.specs.Layout.{Kind, kind_by_tag}
use Rattle.silences.specs.Reading.{FieldAt, whole, faulty}

-- The kind of a field, with this number of bytes for its ceiling, if it has one.
abbrev pub kind_of : Option ℕ → Option Kind
kind_of (Some bytes) = Some (record { ceiling_bytes = bytes })
kind_of None = None

-- The precondition of `field_of_kind`: the offset lies within the book, and the tag there has the kind with this number of bytes for its ceiling.
pub record CanBeField (book : List ℕ) (at bytes : ℕ) : Type 0 where
  pub within : at < length book
  pub kind_is : kind_by_tag (get_or book at 0) ≡ Some (record { ceiling_bytes = bytes })

-- The address with an `Address`'s cell, ring number and start.
abbrev pub address_of : AddressStruct → Address
address_of a = address a.cell a.ring_number a.start

-- The address of the record before another one. The first record has none before it.
abbrev pub last_of : Option AddressStruct → Option Address
last_of None = None
last_of (Some a) = Some (address_of a)

-- What `field_at` or seeking returned: a whole field, or with `None` a faulty one.
abbrev pub sought_of : Option Field → FieldAt
sought_of (Some f) = whole (silence (address_of f.address) f.ceiling) f.next
sought_of None = faulty
