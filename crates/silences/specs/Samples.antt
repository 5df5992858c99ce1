-- Samples of books, computed: the book of document 01's example of the report program, the same silence under tag 22 of document 02, inputs that each of rows 5
-- to 10 refuses, and what a silence hides.
use Rattle.std.specs.Prelude.{ℕ, ◌≡◌, refl, true, false, List, [], ◌∷◌, ◌++◌, replicate, take}
use Rattle.answers.specs.declared.refusals.Refusal.TheVariants.{BookLength, Field, NotAbove, WordCount, NumberInRecord, OutputRoom}
use Rattle.answers.specs.Paper.{accepted, refused}
use Rattle.answers.specs.Rows.{first_given}
use Rattle.lists.specs.Areas.{written}
use Rattle.lists.specs.Records.{numbers_of_each, first_records, records_of}
use Rattle.fields.specs.Numbers.{bytes_of, number_at}
use Rattle.fields.specs.Tagged.{is_whole}
use Rattle.silences.specs.Silences.{address, silence, is_below, is_same, covers, hides}
use Rattle.silences.specs.Layout.{kind_by_tag, address_value, value_of, field_of, layout}
use Rattle.silences.specs.Reading.{address_at, silence_at, field_by, field_at, fields_from, read_from, book_rows, read_book}
use Rattle.silences.specs.Packing.{words_of_silences, record_rows, pack_rows, packed, unpack_rows, unpacked, area_at_exit}

-- The book of the report program's example, a field of tag 21: "21 00 0A 00 00 00 07 00 02 00 00 00 01".
unfoldable pub example : List ℕ
example = 0x21 ∷ 0x00 ∷ 0x0a ∷ 0x00 ∷ 0x00 ∷ 0x00 ∷ 0x07 ∷ 0x00 ∷ 0x02 ∷ 0x00 ∷ 0x00 ∷ 0x00 ∷ 0x01 ∷ []

-- A field of tag 22: "the old ten bytes and a two-byte distance". Its address is (7, 2, 9), its ceiling 258, high byte first.
unfoldable pub ceiled : List ℕ
ceiled = 0x22 ∷ 0x00 ∷ 0x0c ∷ 0x00 ∷ 0x00 ∷ 0x00 ∷ 0x07 ∷ 0x00 ∷ 0x02 ∷ 0x00 ∷ 0x00 ∷ 0x00 ∷ 0x09 ∷ 0x01 ∷ 0x02 ∷ []

-- Reading the example gives the silence (7, 2, 1) "with ceiling 0". Reading the other gives (7, 2, 9) with ceiling 258, and it is what packing writes for that
-- silence.
example_right : (read_book example ≡ accepted (silence (address 7 2 1) 0 ∷ []))
    × (read_book ceiled ≡ accepted (silence (address 7 2 9) 258 ∷ []))
    × (layout (silence (address 7 2 9) 258 ∷ []) ≡ ceiled)
unfolding example ceiled bytes_of address_value value_of field_of numbers_of_each first_given book_rows read_book read_from fields_from field_at field_by kind_by_tag is_whole address_at silence_at number_at is_below
example_right = (refl, refl, refl)

-- "An empty book is valid."
pub empty_book : read_book [] ≡ accepted []
unfolding first_given book_rows read_book read_from fields_from
empty_book = refl

-- 15,001 bytes of 22 hex are refused by row 5. 15,000 of them are not: row 6 refuses them at byte 0.
row_5 : (read_book (replicate 15001 0x22) ≡ refused BookLength) × (read_book (replicate 15000 0x22) ≡ refused (Field 0))
unfolding first_given book_rows read_book read_from fields_from field_at field_by kind_by_tag is_whole address_at silence_at number_at
row_5 = (refl, refl)

-- A book of both tags is accepted. Row 7 looks at the address alone: one address under two tags or with two ceilings is refused at the later record, byte 13 or
-- 15; so is a lower address. A field cut off: row 6 where it begins. Another tag, 22 with the length of 21, 21 with the length of 22: row 6 at byte 0. The last
-- line has twelve different bytes in a value, and each is read.
rows_6_7 : (read_book (example ++ ceiled) ≡ accepted (silence (address 7 2 1) 0 ∷ silence (address 7 2 9) 258 ∷ []))
    × (read_book (example ++ layout (silence (address 7 2 1) 5 ∷ [])) ≡ refused (NotAbove 13))
    × (read_book (ceiled ++ layout (silence (address 7 2 9) 259 ∷ [])) ≡ refused (NotAbove 15))
    × (read_book (ceiled ++ example) ≡ refused (NotAbove 15))
    × (read_book (example ++ take 14 ceiled) ≡ refused (Field 13))
    × (read_book (0x23 ∷ 0x00 ∷ 0x0c ∷ example) ≡ refused (Field 0))
    × (read_book (0x22 ∷ 0x00 ∷ 0x0a ∷ example) ≡ refused (Field 0))
    × (read_book (0x21 ∷ 0x00 ∷ 0x0c ∷ example) ≡ refused (Field 0))
    × (read_book (layout (silence (address 0x01020304 0x0506 0x0708090a) 0x0b0c ∷ [])) ≡ accepted (silence (address 0x01020304 0x0506 0x0708090a) 0x0b0c ∷ []))
unfolding example ceiled bytes_of address_value value_of field_of numbers_of_each first_given book_rows read_book read_from fields_from field_at field_by kind_by_tag is_whole address_at silence_at number_at is_below
rows_6_7 = (refl, refl, refl, refl, refl, refl, refl, refl, refl)

-- The words 7, 2, 9, 258 packed into 17 bytes: a field of tag 22, and two bytes as they were. With 14 bytes of room: row 10. On a refusal nothing is written.
packed_right : (packed (7 ∷ 2 ∷ 9 ∷ 258 ∷ []) 17 ≡ accepted (silence (address 7 2 9) 258 ∷ []))
    × (area_at_exit layout (accepted (silence (address 7 2 9) 258 ∷ [])) (replicate 15 0x60 ++ 0x61 ∷ 0x62 ∷ []) ≡ ceiled ++ 0x61 ∷ 0x62 ∷ [])
    × (packed (7 ∷ 2 ∷ 9 ∷ 258 ∷ []) 14 ≡ refused OutputRoom)
    × (area_at_exit layout (refused OutputRoom) (0x61 ∷ []) ≡ 0x61 ∷ [])
unfolding written ceiled bytes_of address_value value_of field_of numbers_of_each first_given packed pack_rows record_rows records_of first_records is_below
packed_right = (refl, refl, refl, refl)

-- Three words: row 8. A ring number of 65,536 in record 1, which is also below record 0: row 9, before row 7. A ceiling of 65,536: row 9; of 65,535: none, and
-- row 10 is next. Equal addresses with rising ceilings: row 7 at record 1. There is no room either; each of these rows comes before row 10.
rows_8_9_7 : (packed (7 ∷ 2 ∷ 1 ∷ []) 0 ≡ refused WordCount)
    × (packed (7 ∷ 2 ∷ 1 ∷ 0 ∷ 6 ∷ 65536 ∷ 1 ∷ 0 ∷ []) 0 ≡ refused (NumberInRecord 1))
    × (packed (7 ∷ 2 ∷ 1 ∷ 65536 ∷ []) 0 ≡ refused (NumberInRecord 0))
    × (packed (7 ∷ 2 ∷ 1 ∷ 65535 ∷ []) 0 ≡ refused OutputRoom)
    × (packed (7 ∷ 2 ∷ 1 ∷ 0 ∷ 7 ∷ 2 ∷ 1 ∷ 1 ∷ []) 0 ≡ refused (NotAbove 1))
unfolding bytes_of address_value value_of field_of numbers_of_each first_given packed pack_rows record_rows records_of first_records is_below
rows_8_9_7 = (refl, refl, refl, refl, refl)

-- The example unpacked: its silence with room for four words, whose words are 7, 2, 1, 0; row 10 with room for three.
unpacked_right : (unpacked example 4 ≡ accepted (silence (address 7 2 1) 0 ∷ []))
    × (words_of_silences (silence (address 7 2 1) 0 ∷ []) ≡ 7 ∷ 2 ∷ 1 ∷ 0 ∷ [])
    × (unpacked example 3 ≡ refused OutputRoom)
unfolding example unpacked unpack_rows numbers_of_each first_given book_rows read_book read_from fields_from field_at field_by kind_by_tag is_whole address_at silence_at number_at is_below
unpacked_right = (refl, refl, refl)

-- A silence hides at its own address up to its ceiling: (7, 2, 1) with ceiling 2 hides distances 0 and 2 there, and not 3; with ceiling 0 it hides 0 and not 1.
-- It hides nothing in cell 0, and (0, 2, 1) nothing in cell 7.
hides_right : (hides (silence (address 7 2 1) 2 ∷ []) (address 7 2 1) 0 ≡ true)
    × (hides (silence (address 7 2 1) 2 ∷ []) (address 7 2 1) 2 ≡ true)
    × (hides (silence (address 7 2 1) 2 ∷ []) (address 7 2 1) 3 ≡ false)
    × (hides (silence (address 7 2 1) 0 ∷ []) (address 7 2 1) 0 ≡ true)
    × (hides (silence (address 7 2 1) 0 ∷ []) (address 7 2 1) 1 ≡ false)
    × (hides (silence (address 7 2 1) 2 ∷ []) (address 0 2 1) 0 ≡ false)
    × (hides (silence (address 0 2 1) 2 ∷ []) (address 7 2 1) 0 ≡ false)
unfolding is_same covers hides
hides_right = (refl, refl, refl, refl, refl, refl, refl)
