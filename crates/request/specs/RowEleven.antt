-- Row 11 of document 01's table, as a proposition: "the program's input isn't as laid down", and its place. "A missing, cut, wrongly tagged or wrongly long field
-- of the first five is refusal 11, place the offset where the first such field begins or should begin; a longer input is refusal 11, place 0, and is
-- tested first." `row_11_iff` of proofs/RowElevenIff.antt: `request_of` refuses exactly these inputs, at these places.
--
--   IsFieldAt       a field of a kind stands at a byte offset
--   NoFieldAt       no field of that kind does
--   FirstFault      of fields one after the other, the place of the first that does not stand
--   IsInputFault    row 11 at a place
use Rattle.std.specs.Prelude.{ℕ, ◌≤◌, ◌<◌, ◌≡◌, List, ◌∷◌, length, get_or}
use Rattle.fields.specs.Tagged.{length_at}
use Rattle.request.specs.declared.field.FieldKind.{FieldKind}
use Rattle.request.specs.Fields.{input_fields, next_at}
use Rattle.request.specs.Input.{most_input}

-- A field of this kind stands at `at`: it has the kind's tag, its length is within the kind's bounds, and it is not cut.
pub record IsFieldAt (kind : FieldKind) (input : List ℕ) (at : ℕ) : Type 0 where
  pub tag_is : get_or input at 0 ≡ kind.tag
  pub least_le : kind.least ≤ length_at input at
  pub most_le : length_at input at ≤ kind.most
  pub not_cut : next_at input at ≤ length input

-- No field of this kind stands at `at`.
abbrev pub NoFieldAt : FieldKind → List ℕ → ℕ → Type 0
NoFieldAt kind input at = IsFieldAt kind input at → ⊥

-- The first field that does not stand begins, or should begin, at `place`. The fields are of these kinds; the first begins at `at`, and each next one where the
-- one before it ends.
pub data FirstFault (input : List ℕ) : List FieldKind → ℕ → ℕ → Type 0 where
  here : {kind : FieldKind} {kinds : List FieldKind} {at : ℕ} → NoFieldAt kind input at → FirstFault input (kind ∷ kinds) at at
  later : {kind : FieldKind} {kinds : List FieldKind} {at place : ℕ} → IsFieldAt kind input at → FirstFault input kinds (next_at input at) place
      → FirstFault input (kind ∷ kinds) at place

-- Row 11 at this place: the input is longer than 32,768 bytes, and the place is 0; or it is not, and the first of the five fields that does not stand begins, or
-- should begin, at the place.
pub data IsInputFault (input : List ℕ) : ℕ → Type 0 where
  longer : most_input < length input → IsInputFault input 0
  no_field : {place : ℕ} → length input ≤ most_input → FirstFault input input_fields 0 place → IsInputFault input place
