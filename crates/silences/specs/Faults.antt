-- Document 01, the table of refusals, rows 6 to 9, as document 02, ticket 4, reads them: the column "Given exactly when" as propositions, without `read_from`
-- and `record_rows`. "Within a book the first faulty field decides", so a fault also says that everything before it is fine. Rows 5 and 10 are one comparison
-- each and need no definition. That each row is given exactly then is proved for the definitions in proofs/BookRows.antt, PackRows.antt and UnpackRows.antt,
-- and for the calls in RowsOfReading.antt and RowsOfUnpacking.antt of crates/book and RowsOfPacking.antt of crates/packing.
--
--   IsFineBefore      everything before a byte offset is fine: it lays down an ascending list of silences in range
--   IsNotAbove        "a record isn't above the one before it"
--   IsFieldFault      row 6
--   IsOrderFault      row 7, reading
--   HasWordCount      row 8 is not given
--   NumbersFit, AllFit    no ring number and no ceiling is above 65,535: of one record, of all
--   TooLarge          one of the two is
--   IsRecord          record number i of the words to pack; all records before it are fine
--   IsNumberFault     row 9
--   IsRecordFault     row 7, packing
--   IsPackable        none of rows 8, 9 and 7 is given
use Rattle.std.specs.Prelude.{ℕ, ◌+◌, ◌%◌, ◌≤◌, ◌<◌, ◌≡◌, ◌⊎◌, List, [], ◌∷◌, ◌++◌, length, take}
use Rattle.silences.specs.Silences.{Address, Silence, AllInRange, Below, Ascending}
use Rattle.fields.specs.Tagged.{head_length}
use Rattle.silences.specs.Reading.{address_at}
use Rattle.silences.specs.Packing.{silences_of, record_words, most_words, most_ring_number, most_ceiling}
use Rattle.silences.specs.Books.{IsField, LaidDown, AnyTag}

-- Everything before byte offset `at` is fine: it lays down the silences `ss`, which are in range and ascend.
pub record IsFineBefore (book : List ℕ) (at : ℕ) (ss : List Silence) : Type 0 where
  pub at_le : at ≤ length book
  pub laid_down : LaidDown AnyTag ss (take at book)
  pub in_range : AllInRange ss
  pub ascending : Ascending ss

-- "a record isn't above the one before it": the silences `ss` have a last one, `previous`, and its address is not below the address `a`.
pub record IsNotAbove (ss : List Silence) (a : Address) : Type 0 where
  pub earlier : List Silence
  pub previous : Silence
  pub before_it : ss ≡ earlier ++ previous ∷ []
  pub not_above : Below previous.address a → ⊥

-- Row 6 at byte offset `at`: everything before it is fine, the book goes on, and no field stands there. "a field isn't 13 bytes beginning 21 00 0A hex, or is cut
-- off", and 6 "admits both fields" (document 02, ticket 4).
pub record IsFieldFault (book : List ℕ) (at : ℕ) : Type 0 where
  pub fine : List Silence
  pub fine_before : IsFineBefore book at fine
  pub more : at < length book
  pub no_field : IsField book at → ⊥

-- Row 7, reading, at byte offset `at`: everything before it is fine, a field stands there, and its record isn't above the one before it.
pub record IsOrderFault (book : List ℕ) (at : ℕ) : Type 0 where
  pub fine : List Silence
  pub fine_before : IsFineBefore book at fine
  pub field : IsField book at
  pub not_above : IsNotAbove fine (address_at book (at + head_length))

-- Row 8 is not given: the words to pack are "a multiple of 4, at most 4,000".
pub record HasWordCount (words : List ℕ) : Type 0 where
  pub multiple : length words % record_words ≡ 0
  pub words_le : length words ≤ most_words

-- Neither the record's ring number nor its ceiling is "above 65,535".
pub record NumbersFit (s : Silence) : Type 0 where
  pub ring_number_le : s.address.ring_number ≤ most_ring_number
  pub ceiling_le : s.ceiling ≤ most_ceiling

-- So for each of these records.
abbrev pub AllFit : List Silence → Type 0
AllFit [] = Unit {0}
AllFit (s ∷ ss) = NumbersFit s × AllFit ss

-- The record's ring number is "above 65,535", or its ceiling is.
abbrev pub TooLarge : Silence → Type 0
TooLarge s = (most_ring_number < s.address.ring_number) ⊎ (most_ceiling < s.ceiling)

-- `s` is record number `i`, from 0, of the words to pack, and `fine` are the records before it: they ascend, and their numbers fit.
pub record IsRecord (words : List ℕ) (i : ℕ) (fine : List Silence) (s : Silence) : Type 0 where
  pub later : List Silence
  pub records_are : silences_of words ≡ fine ++ s ∷ later
  pub number_is : i ≡ length fine
  pub all_fit : AllFit fine
  pub ascending : Ascending fine

-- Row 9 at record number `i`: all records before it are fine, and its ring number or its ceiling is "above 65,535".
pub record IsNumberFault (words : List ℕ) (i : ℕ) : Type 0 where
  pub fine : List Silence
  pub here : Silence
  pub is_record : IsRecord words i fine here
  pub too_large : TooLarge here

-- Row 7, packing, at record number `i`: all records before it are fine, its numbers fit, and it isn't above the one before it.
pub record IsRecordFault (words : List ℕ) (i : ℕ) : Type 0 where
  pub fine : List Silence
  pub here : Silence
  pub is_record : IsRecord words i fine here
  pub fits : NumbersFit here
  pub not_above : IsNotAbove fine here.address

-- The words can be packed, given room: row 8 is not given, nor row 9 or 7 at any record.
pub record IsPackable (words : List ℕ) : Type 0 where
  pub word_count : HasWordCount words
  pub all_fit : AllFit (silences_of words)
  pub ascending : Ascending (silences_of words)
