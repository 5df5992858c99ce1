-- Document 01, "Silence book": "A house format of tagged fields: one-byte tag, two-byte length, value; numbers high byte first." What all fields share,
-- whatever their tag and value.
--
--   tag_bytes, length_bytes   "one-byte tag, two-byte length"
--   head_length               the bytes of a field before its value
--   field                     the bytes of a field
--   length_at                 the length in a field's two length bytes
--   field_end                 the byte offset just past a field
--   is_whole                  whether a field has a given length and is not cut off
use Rattle.std.specs.Prelude.{ℕ, ◌+◌, Bool, ◌&&◌, List, ◌∷◌, ◌++◌, leb, eqb, length}
use Rattle.fields.specs.Numbers.{bytes_of, number_at}

-- "one-byte tag"
abbrev pub tag_bytes : ℕ
tag_bytes = 1

-- "two-byte length"
abbrev pub length_bytes : ℕ
length_bytes = 2

-- "one-byte tag, two-byte length": the bytes of a field before its value.
abbrev pub head_length : ℕ
head_length = tag_bytes + length_bytes

-- The bytes of a field: "one-byte tag, two-byte length, value; numbers high byte first."
abbrev pub field : ℕ → List ℕ → List ℕ
field tag value = tag ∷ bytes_of length_bytes (length value) ++ value

-- The "two-byte length" of the field at byte offset `at`.
abbrev pub length_at : List ℕ → ℕ → ℕ
length_at bytes at = number_at length_bytes bytes (at + tag_bytes)

-- The byte offset just past a field at `at` whose value has `long` bytes.
abbrev pub field_end : ℕ → ℕ → ℕ
field_end at long = at + head_length + long

-- Whether the field at `at` has a value of `long` bytes and is whole: its length bytes are `long`, and it does not reach past the bytes given.
unfoldable pub is_whole : List ℕ → ℕ → ℕ → Bool
is_whole bytes at long = eqb (length_at bytes at) long && leb (field_end at long) (length bytes)
