-- Document 01, "Silence book" and rows 5, 6 and 7, with document 02, ticket 4: what reading a book's bytes gives, whatever bytes they are.
--
--   address_at, silence_at               the address, and the silence, whose value stands at a byte offset
--   FieldAt, field_by, field_at          what stands at a byte offset: a whole field, or a faulty one (row 6)
--   before, read_field                   a silence put in front of others; one field read
--   fields_from, read_from               the fields from a byte offset on; "the first faulty field decides, 6 before 7"
--   fault_in, silences_in                the refusal of an answer; its silences
--   field_fault, is_row5, book_rows      rows 6 and 7; row 5; the three in their order
--   book_refusal                         the first of them that is given
--   read_book, silences_read             what reading a whole book gives; its silences
--
-- `read_from` goes from field to field, so its recursion needs a number that falls: `fields_from` counts down the bytes left. Two equations hide this count, and
-- nothing after them uses it; read them instead: `read_from_end` and `read_from_step` of proofs/ReadFrom.antt. Places count from the book's first byte.
-- Nothing here is stricter than the documents. Past the book's end `read_from` reads nothing and accepts.
use Rattle.std.specs.Prelude.{ℕ, zero, suc, ◌+◌, ◌-◌, Bool, cond, List, [], ◌∷◌, ltb, leb, length, get_or}
use Rattle.std.specs.Prelude.{Option, None, Some}
use Rattle.answers.specs.declared.refusals.Refusal.{Refusal}
use Rattle.answers.specs.declared.refusals.Refusal.TheVariants.{BookLength, Field, NotAbove}
use Rattle.answers.specs.Paper.{Answer, accepted, refused}
use Rattle.answers.specs.Rows.{row, first_given, answer_by}
use Rattle.fields.specs.Numbers.{number_at}
use Rattle.fields.specs.Tagged.{head_length, field_end, is_whole}
use Rattle.silences.specs.Silences.{Address, Silence, silence, cell_bytes, ring_number_bytes, start_bytes, is_above}
use Rattle.silences.specs.Layout.{Kind, kind_by_tag, address_bytes, value_length, most_bytes}

-- "cell (4 bytes), ring number (2), start (4)": the address whose bytes begin at byte offset `at`.
unfoldable pub address_at : List ℕ → ℕ → Address
address_at book at =
    record {
      cell = number_at cell_bytes book at;
      ring_number = number_at ring_number_bytes book (at + cell_bytes);
      start = number_at start_bytes book (at + cell_bytes + ring_number_bytes);
    }

-- The silence whose value begins at byte offset `at`, in a field of this kind: an address, and then a ceiling.
unfoldable pub silence_at : Kind → List ℕ → ℕ → Silence
silence_at kind book at = silence (address_at book at) (number_at kind.ceiling_bytes book (at + address_bytes))

-- What stands at a byte offset: a whole field of a silence, with that silence and the byte offset just past the field; or something else, a faulty field.
pub data FieldAt : Type 0 where
  whole : Silence → ℕ → FieldAt
  faulty : FieldAt

-- The field at `at`, given the kind for its tag: whole if its two length bytes say the length of that kind and it is not cut off. Without a kind it is faulty.
unfoldable pub field_by : Option Kind → List ℕ → ℕ → FieldAt
field_by None book at = faulty
field_by (Some kind) book at =
    let here : FieldAt = whole (silence_at kind book (at + head_length)) (field_end at (value_length kind)) in
    cond (is_whole book at (value_length kind)) here faulty

-- The field at `at`. It is faulty where row 6 says so: "a field isn't 13 bytes beginning 21 00 0A hex, or is cut off", and is not
-- 15 bytes beginning 22 00 0C hex either. Past the last byte it is faulty too.
unfoldable pub field_at : List ℕ → ℕ → FieldAt
field_at book at = field_by (kind_by_tag (get_or book at 0)) book at

-- Puts a silence in front of those read. A refusal stays as it is.
abbrev pub before : Silence → Answer (List Silence) → Answer (List Silence)
before s (accepted ss) = accepted (s ∷ ss)
before s (refused r) = refused r

-- Reads one field, at byte offset `at`; `last` is the address of the record before it, and `rest` reads on after it. A faulty field is refused by row 6, a
-- record that "isn't above the one before it" by row 7, both at `at`: "the first faulty field decides, 6 before 7".
abbrev pub read_field : Option Address → ℕ → FieldAt → (Option Address → ℕ → Answer (List Silence)) → Answer (List Silence)
read_field last at faulty rest = refused (Field at)
read_field last at (whole s next) rest =
    let more : Answer (List Silence) = before s (rest (Some s.address) next) in
    cond (is_above last s.address) more (refused (NotAbove at))

-- Reads the fields from `at` to the book's end, at most as many as the first argument says; `last` is the address of the record before `at`.
unfoldable pub fields_from : ℕ → List ℕ → Option Address → ℕ → Answer (List Silence)
fields_from zero book last at = accepted []
fields_from (suc left) book last at =
    let here : Answer (List Silence) = read_field last at (field_at book at) (fields_from left book) in
    cond (leb (length book) at) (accepted []) here

-- Reads the fields from `at` to the book's end; `last` is the address of the record before `at`. There are no more fields than bytes, so the count suffices.
unfoldable pub read_from : List ℕ → Option Address → ℕ → Answer (List Silence)
read_from book last at = fields_from (length book - at) book last at

-- The refusal of an answer, if it is one.
abbrev pub fault_in : Answer (List Silence) → Option Refusal
fault_in (accepted ss) = None
fault_in (refused refusal) = Some refusal

-- The silences of an answer; the empty list if it is a refusal.
abbrev pub silences_in : Answer (List Silence) → List Silence
silences_in (accepted ss) = ss
silences_in (refused refusal) = []

-- Rows 6 and 7, as one row: the refusal of the first faulty field, if there is one. "Within a book the first faulty field decides, 6 before 7."
abbrev pub field_fault : List ℕ → Option Refusal
field_fault book = fault_in (read_from book None 0)

-- Row 5: "book longer than" 15,000 "bytes" (document 01 has 13,000; document 02, ticket 4, makes it 15,000).
abbrev pub is_row5 : List ℕ → Bool
is_row5 book = ltb most_bytes (length book)

-- "5, 6, 7": the order of a book's rows.
unfoldable pub book_rows : List ℕ → List (Option Refusal)
book_rows book = row (is_row5 book) BookLength ∷ field_fault book ∷ []

-- The refusal of the first of a book's rows that is given, if one is.
abbrev pub book_refusal : List ℕ → Option Refusal
book_refusal book = first_given (book_rows book)

-- What reading a book gives: the silences of its fields, or the refusal of the first row that is given. "An empty book is valid."
unfoldable pub read_book : List ℕ → Answer (List Silence)
read_book book = answer_by (book_refusal book) (silences_in (read_from book None 0))

-- The silences of a book; the empty list if the book is refused.
abbrev pub silences_read : List ℕ → List Silence
silences_read book = silences_in (read_book book)
