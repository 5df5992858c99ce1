-- Document 01, "The report program": the five fields of the program's input. Their format is the silence book's: "A house format of tagged fields: one-byte
-- tag, two-byte length, value; numbers high byte first."
--
--   cell_field, ring_number_field,   the five kinds of field, each with its tag and the least and the most bytes of its value
--   allowance_field, ring_field,
--   line_field
--   input_fields                     the five in their order
--   between                          the bytes from one byte offset up to another
--   next_at, value_at                the byte offset just past a field, and the field's value
--   is_field_at                      whether a field of a kind stands at a byte offset
use Rattle.std.specs.Prelude.{ℕ, ◌+◌, ◌-◌, Bool, ◌&&◌, List, [], ◌∷◌, leb, eqb, length, get_or, take, drop}
use Rattle.fields.specs.Tagged.{head_length, length_at, field_end}
use Rattle.request.specs.declared.field.FieldKind.{FieldKind}

-- "34 cell (4 bytes)"
abbrev pub cell_field : FieldKind
cell_field = record { tag = 0x34; least = 4; most = 4 }

-- "35 ring number (2)"
abbrev pub ring_number_field : FieldKind
ring_number_field = record { tag = 0x35; least = 2; most = 2 }

-- "33 allowance (1)"
abbrev pub allowance_field : FieldKind
allowance_field = record { tag = 0x33; least = 1; most = 1 }

-- "31 ring (any length)": any length that two bytes can hold.
abbrev pub ring_field : FieldKind
ring_field = record { tag = 0x31; least = 0; most = 65535 }

-- "32 line (at most 4,096)"
abbrev pub line_field : FieldKind
line_field = record { tag = 0x32; least = 0; most = 4096 }

-- "fields in this order": the five kinds.
abbrev pub input_fields : List FieldKind
input_fields = cell_field ∷ ring_number_field ∷ allowance_field ∷ ring_field ∷ line_field ∷ []

-- The bytes of the input from one byte offset up to another.
abbrev pub between : List ℕ → ℕ → ℕ → List ℕ
between input from to = take (to - from) (drop from input)

-- The byte offset just past the field that begins at `at`.
abbrev pub next_at : List ℕ → ℕ → ℕ
next_at input at = field_end at (length_at input at)

-- The value of the field that begins at `at`.
abbrev pub value_at : List ℕ → ℕ → List ℕ
value_at input at = between input (at + head_length) (next_at input at)

-- Whether a field of this kind stands at `at`: it has the kind's tag, its length is within the kind's bounds, and it is not cut. (Past the input's end a byte
-- reads as 0, which is no kind's tag.)
unfoldable pub is_field_at : FieldKind → List ℕ → ℕ → Bool
is_field_at kind input at =
    eqb (get_or input at 0) kind.tag
    && (leb kind.least (length_at input at) && (leb (length_at input at) kind.most && leb (next_at input at) (length input)))
