-- Document 01, "Silence book", and document 02, ticket 4, as propositions: what a field and a book are, in terms of bytes and silences, without the definition
-- of reading. Reading accepts exactly these books (`accepted_iff` of proofs/AcceptedIsBook.antt). A silence with ceiling 0 can be said under either tag, so a
-- book's bytes are no function of its silences; its silences are a function of its bytes.
--
--   BeginsField, IsField   row 6, "13 bytes beginning 21 00 0A hex", or 15 beginning 22 00 0C, and not cut off
--   IsFieldOf              these bytes are a field that says this silence, under this tag
--   LaidDown               these bytes are fields that say these silences, one after the other, each under a tag that is allowed
--   AnyTag, OnlyTag21, NoTag21   which tags may be allowed
--   IsBook                 a book: an ascending list of silences in range, laid down in at most 15,000 bytes
--   with_ceilings          the same addresses with other ceilings
use Rattle.std.specs.Prelude.{ℕ, ◌+◌, ◌≤◌, ◌≡◌, ◌⊎◌, List, [], ◌∷◌, ◌++◌, map, length, take, drop}
use Rattle.std.specs.Prelude.{Some}
use Rattle.fields.specs.Tagged.{head_length, field}
use Rattle.silences.specs.Silences.{Silence, silence, AllInRange, Ascending}
use Rattle.silences.specs.Layout.{Kind, exact_tag, kind_by_tag, value_of, CanSay, most_bytes}

-- At byte offset `at` stand `long` bytes that begin with `beginning`, not cut off.
pub record BeginsField (beginning : List ℕ) (long : ℕ) (book : List ℕ) (at : ℕ) : Type 0 where
  pub begins : take head_length (drop at book) ≡ beginning
  pub not_cut : at + long ≤ length book

-- A silence's field stands at byte offset `at`: "13 bytes beginning 21 00 0A hex"; or, since row 6 "admits both fields" (document 02, ticket 4), 15 bytes
-- beginning 22 00 0C hex; not cut off.
abbrev pub IsField : List ℕ → ℕ → Type 0
IsField book at = BeginsField (0x21 ∷ 0x00 ∷ 0x0a ∷ []) 13 book at ⊎ BeginsField (0x22 ∷ 0x00 ∷ 0x0c ∷ []) 15 book at

-- These bytes are a field that says the silence `s`: the tag has a kind, a field of that kind can say `s`, and the bytes are "one-byte tag, two-byte length,
-- value".
pub record IsFieldOf (tag : ℕ) (s : Silence) (bytes : List ℕ) : Type 0 where
  pub kind : Kind
  pub kind_is : kind_by_tag tag ≡ Some kind
  pub can_say : CanSay kind s
  pub bytes_are : bytes ≡ field tag (value_of kind s)

-- The bytes lay down these silences: they are one field for each, one after the other, under a tag that is `Allowed`.
pub data LaidDown (Allowed : ℕ → Type 0) : List Silence → List ℕ → Type 0 where
  no_field : LaidDown Allowed [] []
  one_field : {tag : ℕ} {s : Silence} {ss : List Silence} {here rest : List ℕ} → Allowed tag → IsFieldOf tag s here → LaidDown Allowed ss rest
      → LaidDown Allowed (s ∷ ss) (here ++ rest)

-- Every tag of the table is allowed.
abbrev pub AnyTag : ℕ → Type 0
AnyTag tag = Unit {0}

-- Tag 21 alone is allowed.
abbrev pub OnlyTag21 : ℕ → Type 0
OnlyTag21 tag = tag ≡ exact_tag

-- Every tag but 21 is allowed.
abbrev pub NoTag21 : ℕ → Type 0
NoTag21 tag = tag ≡ exact_tag → ⊥

-- `book` is a book of the silences `ss`: "Each silence is one field", "Records ascend strictly by cell, then ring number, then start", the numbers are in
-- range, and the book has at most 15,000 bytes.
pub record IsBook (ss : List Silence) (book : List ℕ) : Type 0 where
  pub laid_down : LaidDown AnyTag ss book
  pub in_range : AllInRange ss
  pub ascending : Ascending ss
  pub length_le : length book ≤ most_bytes

-- The same addresses, each with this ceiling.
abbrev pub with_ceilings : ℕ → List Silence → List Silence
with_ceilings ceiling ss = map (λ (s : Silence). silence s.address ceiling) ss
