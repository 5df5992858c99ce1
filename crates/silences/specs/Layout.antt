-- Document 01, "Silence book", and document 02, ticket 4: the bytes of a book, field after field, apart from any code that reads or writes them. What a field
-- holds follows from its tag, by one table, `kind_by_tag`. What packing writes, `layout`, has all its fields under tag 22.
--
--   Kind                        what a field holds beside the address: a ceiling, in how many bytes
--   exact_tag, exact_kind       "tag 21 hex"; it holds an address alone
--   ceiling_tag, ceiling_kind   "tag 22"; it holds an address and a ceiling
--   kind_by_tag                 the table of tags
--   address_bytes               "cell (4 bytes), ring number (2), start (4)": the bytes of an address
--   value_length                "length 10", "length 12"
--   address_value, value_of     the bytes of an address, and of a silence's value
--   CanSay                      whether a field of this kind can say this silence
--   packed_tag, packed_kind     the tag under which packing writes
--   packed_length               15, the bytes of a field that packing writes
--   field_of, layout            what packing writes: a silence's field, and a book's bytes
--   most_silences, most_bytes, most_records   the most silences to pack, the longest book, and the most records of a book
--
-- A length that follows from other lengths is computed from them, and an equation below it checks the document's number.
use Rattle.std.specs.Prelude.{ℕ, ◌+◌, ◌*◌, ◌/◌, ◌<◌, ◌^◌, ◌≡◌, refl, cond, List, ◌++◌, eqb}
use Rattle.std.specs.Prelude.{Option, None, Some}
use Rattle.lists.specs.Records.{numbers_of_each}
use Rattle.fields.specs.Numbers.{bytes_of}
use Rattle.fields.specs.Tagged.{head_length, field}
use Rattle.silences.specs.Silences.{Address, Silence, cell_bytes, ring_number_bytes, start_bytes, ceiling_bytes}

-- A kind of field: an address, and behind it a ceiling in this number of bytes. A ceiling in no bytes is 0.
pub record Kind : Type 0 where
  pub ceiling_bytes : ℕ

-- "tag 21 hex"
abbrev pub exact_tag : ℕ
exact_tag = 0x21

-- "Tag 21 is still read, with ceiling 0" (document 02, ticket 4): it has no byte for a ceiling. So it hides exact copies alone.
abbrev pub exact_kind : Kind
exact_kind = record { ceiling_bytes = 0 }

-- "tag 22" (hex; document 02, ticket 4)
abbrev pub ceiling_tag : ℕ
ceiling_tag = 0x22

-- "the old ten bytes and a two-byte distance"
abbrev pub ceiling_kind : Kind
ceiling_kind = record { ceiling_bytes = ceiling_bytes }

-- The table of tags: the kind of a field, by its tag. Every other tag has none.
unfoldable pub kind_by_tag : ℕ → Option Kind
kind_by_tag tag = cond (eqb tag exact_tag) (Some exact_kind) (cond (eqb tag ceiling_tag) (Some ceiling_kind) None)

-- "cell (4 bytes), ring number (2), start (4)": the number of bytes of an address.
abbrev pub address_bytes : ℕ
address_bytes = cell_bytes + ring_number_bytes + start_bytes

-- The number of bytes of a value.
abbrev pub value_length : Kind → ℕ
value_length kind = address_bytes + kind.ceiling_bytes

-- "length 10" (tag 21), "length 12" (tag 22)
value_length_is : (value_length exact_kind ≡ 10) × (value_length ceiling_kind ≡ 12)
value_length_is = (refl, refl)

-- "cell (4 bytes), ring number (2), start (4)": the bytes of an address.
unfoldable pub address_value : Address → List ℕ
address_value a = bytes_of cell_bytes a.cell ++ bytes_of ring_number_bytes a.ring_number ++ bytes_of start_bytes a.start

-- The bytes of a silence's value: its address, and then its ceiling.
unfoldable pub value_of : Kind → Silence → List ℕ
value_of kind s = address_value s.address ++ bytes_of kind.ceiling_bytes s.ceiling

-- A field of this kind can say the silence: the silence's ceiling fits the bytes that the kind has for it. With no byte for it, only a ceiling of 0 does.
abbrev pub CanSay : Kind → Silence → Type 0
CanSay kind s = s.ceiling < 256 ^ kind.ceiling_bytes

-- "packing writes 22 only" (document 02, ticket 4)
abbrev pub packed_tag : ℕ
packed_tag = ceiling_tag

-- The kind of tag 22.
abbrev pub packed_kind : Kind
packed_kind = ceiling_kind

-- The number of bytes of a field that packing writes: its head and its value.
abbrev pub packed_length : ℕ
packed_length = head_length + value_length packed_kind

-- 3 bytes of head, "length 12"
packed_length_is : packed_length ≡ 15
packed_length_is = refl

-- The field that packing writes for a silence: "tag 22, length 12, the old ten bytes and a two-byte distance".
unfoldable pub field_of : Silence → List ℕ
field_of s = field packed_tag (value_of packed_kind s)

-- The bytes that packing writes for a list of silences: their fields, one after the other. The empty list gives the empty book.
abbrev pub layout : List Silence → List ℕ
layout = numbers_of_each field_of

-- The most silences to pack. Document 02, ticket 4, gives this number as bytes (row 5: 15,000, which are 1,000 fields of tag 22) and as words (row 8: 4,000).
abbrev pub most_silences : ℕ
most_silences = 1000

-- "5 at 15,000 bytes" (document 02, ticket 4): the most bytes of a book.
abbrev pub most_bytes : ℕ
most_bytes = packed_length * most_silences

-- "15,000 bytes"
most_bytes_is : most_bytes ≡ 15000
most_bytes_is = refl

-- The most records of a book that is read: a field of tag 21 is the shortest, so no longer list fits the most bytes.
abbrev pub most_records : ℕ
most_records = 1153

-- It is the most bytes, divided by the bytes of a field of tag 21.
most_records_is : most_records ≡ most_bytes / (head_length + value_length exact_kind)
most_records_is = refl
