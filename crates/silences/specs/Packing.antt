-- Document 01, "What each call returns", rows 7 to 10, and document 02, ticket 4: silences as words, what packing and unpacking give, and what they write into
-- the lent area.
--
--   silence_words, words_of_silences               silences as words, four each: cell, ring number, start, ceiling
--   record_words, silence_of_words, silences_of    words as silences
--   most_words, is_row8                            row 8
--   most_ring_number, most_ceiling, is_too_large   the largest ring number and ceiling; row 9 for one record
--   record_rows, record_fault                      "each record 9 before 7"
--   room_row                                       row 10
--   pack_rows, unpack_rows                         the rows of packing and unpacking in their order
--   pack_refusal, unpack_refusal                   the first of these rows that is given
--   packed, unpacked                               what packing and unpacking give
--   area_at_exit                                   the lent area at exit
--
-- The order of a record's words is our reading: the documents list cell, ring number, start and ceiling in this order, and give no other.
use Rattle.std.specs.Prelude.{ℕ, suc, ◌*◌, ◌%◌, ◌^◌, ◌≡◌, refl, Bool, not, ◌||◌, List, [], ◌∷◌, ◌++◌, ltb, eqb, length, get_or}
use Rattle.std.specs.Prelude.{Option, None, Some}
use Rattle.lists.specs.Areas.{written}
use Rattle.lists.specs.Records.{numbers_of_each, records_of}
use Rattle.answers.specs.declared.refusals.Refusal.{Refusal}
use Rattle.answers.specs.declared.refusals.Refusal.TheVariants.{NotAbove, WordCount, NumberInRecord, OutputRoom}
use Rattle.answers.specs.Paper.{Answer, accepted, refused}
use Rattle.answers.specs.Rows.{row, first_given, answer_by}
use Rattle.silences.specs.Silences.{Address, address, Silence, silence, ring_number_bytes, ceiling_bytes, is_above}
use Rattle.silences.specs.Layout.{layout, most_silences}
use Rattle.silences.specs.Reading.{silences_read, book_rows}

-- The words of a silence: cell, ring number, start, ceiling.
abbrev pub silence_words : Silence → List ℕ
silence_words s = s.address.cell ∷ s.address.ring_number ∷ s.address.start ∷ s.ceiling ∷ []

-- The words of a list of silences, one after the other.
abbrev pub words_of_silences : List Silence → List ℕ
words_of_silences = numbers_of_each silence_words

-- "Packed words are four a record" (document 02, ticket 4): the number of words of a record.
abbrev pub record_words : ℕ
record_words = 4

-- The silence of a record's four words.
abbrev pub silence_of_words : List ℕ → Silence
silence_of_words words = silence (address (get_or words 0 0) (get_or words 1 0) (get_or words 2 0)) (get_or words 3 0)

-- The silences of a list of words, four words each. One to three words left over at the end are no record.
abbrev pub silences_of : List ℕ → List Silence
silences_of = records_of record_words silence_of_words

-- "8 a multiple of 4, at most 4,000" (document 02, ticket 4): the most words that can be packed.
abbrev pub most_words : ℕ
most_words = record_words * most_silences

-- "4,000"
most_words_is : most_words ≡ 4000
most_words_is = refl

-- Row 8: "words to pack aren't a multiple of" 4, "or exceed" 4,000 (document 01 has 3 and 3,000; document 02, ticket 4, makes it 4 and 4,000).
abbrev pub is_row8 : List ℕ → Bool
is_row8 words = not (eqb (length words % record_words) 0) || ltb most_words (length words)

-- "a ring number to pack is above 65,535": the largest ring number.
abbrev pub most_ring_number : ℕ
most_ring_number = 65535

-- It is the largest number that the two bytes of a ring number hold.
most_ring_number_is : suc most_ring_number ≡ 256 ^ ring_number_bytes
most_ring_number_is = refl

-- "9 also for a ceiling above 65,535" (document 02, ticket 4): the largest ceiling.
abbrev pub most_ceiling : ℕ
most_ceiling = 65535

-- It is the largest number that the two bytes of a ceiling hold.
most_ceiling_is : suc most_ceiling ≡ 256 ^ ceiling_bytes
most_ceiling_is = refl

-- Row 9 for one record: "a ring number to pack is above 65,535"; "9 also for a ceiling above 65,535" (document 02, ticket 4).
abbrev pub is_too_large : Silence → Bool
is_too_large s = ltb most_ring_number s.address.ring_number || ltb most_ceiling s.ceiling

-- "each record 9 before 7": the rows of the records from record number `i` on; `last` is the address of the record before them. The place is the record number.
unfoldable pub record_rows : Option Address → ℕ → List Silence → List (Option Refusal)
record_rows last i [] = []
record_rows last i (s ∷ ss) =
    row (is_too_large s) (NumberInRecord i)
    ∷ row (not (is_above last s.address)) (NotAbove i)
    ∷ record_rows (Some s.address) (suc i) ss

-- Rows 9 and 7, as one row: the refusal of the first faulty record, if there is one.
abbrev pub record_fault : List ℕ → Option Refusal
record_fault words = first_given (record_rows None 0 (silences_of words))

-- Row 10: "packing or unpacking lacks room for its whole output". `room` is the length of the lent area.
abbrev pub room_row : List ℕ → ℕ → Option Refusal
room_row output room = row (ltb room (length output)) OutputRoom

-- "packer 8, then each record 9 before 7, then 10": the rows of packing these words into `room` bytes.
unfoldable pub pack_rows : List ℕ → ℕ → List (Option Refusal)
pack_rows words room = row (is_row8 words) WordCount ∷ record_fault words ∷ room_row (layout (silences_of words)) room ∷ []

-- The refusal of the first row of packing that is given, if one is.
abbrev pub pack_refusal : List ℕ → ℕ → Option Refusal
pack_refusal words room = first_given (pack_rows words room)

-- What packing these words into `room` bytes gives: their silences, or the refusal of the first row that is given.
unfoldable pub packed : List ℕ → ℕ → Answer (List Silence)
packed words room = answer_by (pack_refusal words room) (silences_of words)

-- "unpacker 5, 6, 7, 10": the rows of unpacking this book into `room` words.
unfoldable pub unpack_rows : List ℕ → ℕ → List (Option Refusal)
unpack_rows book room = book_rows book ++ room_row (words_of_silences (silences_read book)) room ∷ []

-- The refusal of the first row of unpacking that is given, if one is.
abbrev pub unpack_refusal : List ℕ → ℕ → Option Refusal
unpack_refusal book room = first_given (unpack_rows book room)

-- What unpacking this book into `room` words gives: its silences, or the refusal of the first row that is given.
unfoldable pub unpacked : List ℕ → ℕ → Answer (List Silence)
unpacked book room = answer_by (unpack_refusal book room) (silences_read book)

-- The lent area at exit. An accepted call has written its whole output at the front; calls "leave room beyond their output unwritten", and a refusal "writes
-- nothing to any lent area". `output` is `layout` for packing and `words_of_silences` for unpacking.
abbrev pub area_at_exit : (List Silence → List ℕ) → Answer (List Silence) → List ℕ → List ℕ
area_at_exit output (accepted ss) area = written (output ss) area
area_at_exit output (refused r) area = area
