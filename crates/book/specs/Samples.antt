-- Seeking in the book of the report program's example and in a book of both tags, computed.
use Rattle.std.specs.Prelude.{◌≡◌, refl, ◌++◌, true, false}
use Rattle.fields.specs.Numbers.{number_at}
use Rattle.silences.specs.Silences.{address, silence, is_below, is_same, covers}
use Rattle.fields.specs.Tagged.{is_whole}
use Rattle.silences.specs.Reading.{whole, faulty, address_at, silence_at, field_by, field_at}
use Rattle.silences.specs.Layout.{kind_by_tag}
use Rattle.silences.specs.Samples.{example, ceiled}
use Rattle.book.specs.Seeking.{seek_fields, seek_from, is_hiding}

-- Seeking starts 0, 1 and 2 of cell 7, ring 2 in the example, whose one silence is (7, 2, 1) with ceiling 0: its field is found for starts 0 and 1 and passed
-- for start 2. From byte 5, inside the field, nothing is found. In a book of both tags the second field, of tag 22, is found behind the first, with its
-- ceiling.
sought_right : (seek_from example (address 7 2 0) 0 ≡ whole (silence (address 7 2 1) 0) 13)
    × (seek_from example (address 7 2 1) 0 ≡ whole (silence (address 7 2 1) 0) 13)
    × (seek_from example (address 7 2 2) 0 ≡ faulty)
    × (seek_from example (address 7 2 0) 5 ≡ faulty)
    × (seek_from (example ++ ceiled) (address 7 2 2) 0 ≡ whole (silence (address 7 2 9) 258) 28)
unfolding example ceiled seek_from seek_fields field_at field_by kind_by_tag is_whole address_at silence_at number_at is_below
sought_right = (refl, refl, refl, refl, refl)

-- The field (7, 2, 9) with ceiling 258 hides at start 9 up to distance 258, and nothing at start 8. What is not found hides nothing.
hiding_right : (is_hiding (address 7 2 9) 258 (whole (silence (address 7 2 9) 258) 28) ≡ true)
    × (is_hiding (address 7 2 9) 259 (whole (silence (address 7 2 9) 258) 28) ≡ false)
    × (is_hiding (address 7 2 8) 0 (whole (silence (address 7 2 9) 258) 28) ≡ false)
    × (is_hiding (address 7 2 9) 0 faulty ≡ false)
unfolding is_same covers
hiding_right = (refl, refl, refl, refl)
