-- A field and numbers from document 01's sample input of the report program, computed.
use Rattle.std.specs.Prelude.{ℕ, ◌≡◌, refl, true, false, List, [], ◌∷◌}
use Rattle.fields.specs.Numbers.{bytes_of, number_at, number_within}
use Rattle.fields.specs.Tagged.{field, length_at, is_whole}

-- The sample's first field, "34 00 04 00 00 00 07": tag 34 hex, length 4, the number 7 in four bytes.
unfoldable cell_bytes : List ℕ
cell_bytes = 0x34 ∷ 0x00 ∷ 0x04 ∷ 0x00 ∷ 0x00 ∷ 0x00 ∷ 0x07 ∷ []

-- It is the field with tag 34 hex and the number 7 in four bytes. Its length bytes are 4; it is whole with length 4, not with 5, and not with its last byte
-- cut off.
field_right : (field 0x34 (bytes_of 4 7) ≡ cell_bytes)
    × (length_at cell_bytes 0 ≡ 4)
    × (is_whole cell_bytes 0 4 ≡ true)
    × (is_whole cell_bytes 0 5 ≡ false)
    × (is_whole (0x34 ∷ 0x00 ∷ 0x04 ∷ 0x00 ∷ 0x00 ∷ 0x00 ∷ []) 0 4 ≡ false)
unfolding cell_bytes bytes_of number_at is_whole
field_right = (refl, refl, refl, refl, refl)

-- The first byte of a number is the highest. A number is read as 0 if it lies partly or wholly past the bytes, or has five bytes.
numbers_right : (bytes_of 4 0x01020304 ≡ 0x01 ∷ 0x02 ∷ 0x03 ∷ 0x04 ∷ [])
    × (number_within 4 (0x01 ∷ 0x02 ∷ 0x03 ∷ 0x04 ∷ []) 0 ≡ 0x01020304)
    × (number_within 2 cell_bytes 1 ≡ 4)
    × (number_within 4 cell_bytes 3 ≡ 7)
    × (number_within 4 cell_bytes 4 ≡ 0)
    × (number_within 1 cell_bytes 7 ≡ 0)
    × (number_within 5 cell_bytes 2 ≡ 0)
unfolding cell_bytes bytes_of number_at number_within
numbers_right = (refl, refl, refl, refl, refl, refl, refl)
