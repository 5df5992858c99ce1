-- Seeking an address in a book's bytes, as the report does for each finding: the first field from a byte offset on that is not below the address. Document 01
-- has no such call. It is defined for any bytes and any offset. At a faulty field, at the book's end and past it nothing is found.
--
--   seek_field    one step of seeking, at a field
--   seek_fields   seeking over at most a given number of fields
--   seek_from     the field found, with the byte offset just past it: a caller with rising addresses goes on from there and reads no field twice
--   is_hiding     whether the field found hides a finding with this address and this distance
--
-- `seek_from` counts down the bytes left, as reading does. Its one equation hides this count; read it instead: `seek_from_step` of proofs/SeekFrom.antt.
use Rattle.std.specs.Prelude.{ℕ, zero, suc, ◌-◌, Bool, false, cond, List, length}
use Rattle.silences.specs.Silences.{Address, is_below, covers}
use Rattle.silences.specs.Reading.{FieldAt, whole, faulty, field_at}

-- One step of seeking, at a field: if it is below the address, it is passed and `rest` seeks on after it; else it is found. At a faulty field nothing is found.
abbrev pub seek_field : Address → FieldAt → (ℕ → FieldAt) → FieldAt
seek_field a faulty rest = faulty
seek_field a (whole s next) rest =
    let on : FieldAt = rest next in
    cond (is_below s.address a) on (whole s next)

-- Seeks from `at` on, over at most as many fields as the first argument says.
unfoldable pub seek_fields : ℕ → List ℕ → Address → ℕ → FieldAt
seek_fields zero book a at = faulty
seek_fields (suc left) book a at = seek_field a (field_at book at) (seek_fields left book a)

-- The first field from `at` on that is not below the address, with the byte offset just past it; faulty if a faulty field or the book's end comes first.
unfoldable pub seek_from : List ℕ → Address → ℕ → FieldAt
seek_from book a at = seek_fields (length book - at) book a at

-- Whether this is a whole field whose silence hides a finding with this address and this distance: "at its address only up to that distance" (document 02,
-- ticket 4).
abbrev pub is_hiding : Address → ℕ → FieldAt → Bool
is_hiding a distance faulty = false
is_hiding a distance (whole s next) = covers s a distance
