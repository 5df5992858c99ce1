-- Document 01, "The report program": the request that the program's input holds, or refusal 11. "It reads at most 32,768 bytes of standard input, fields in this
-- order: 34 cell (4 bytes), 35 ring number (2), 33 allowance (1), 31 ring (any length), 32 line (at most 4,096), then the book to the end."
--
--   Request                        cell, ring number, allowance, ring, line and book
--   most_input                     "at most 32,768 bytes"
--   first_fault                    where the first field that does not stand begins or should begin
--   input_fault                    the place of row 11
--   parts_from                     the values of the fields, and the book
--   number_in, request_of_parts    the number that bytes hold; the request of these parts
--   request_by, request_of         the request of an input's bytes, or refusal 11: by the place of row 11; whole
--   laid_down                      the bytes of a request, as the document lays them down
--   CanLayDown                     the requests that have such bytes
--
-- `request_of` reads an input and `laid_down` writes one, and neither is defined by the other. `laid_down_iff` of proofs/ReadIsLaidDown.antt joins them: an input is
-- read as a request exactly when it is that request laid down. The ring may have any length here, 0 and 257 too: row 1 of the report refuses those, after all
-- five fields are read.
use Rattle.std.specs.Prelude.{ℕ, ◌≤◌, ◌<◌, ◌^◌, cond, List, [], ◌∷◌, ◌++◌, ltb, length, get_or, drop}
use Rattle.std.specs.Prelude.{Option, None, Some}
use Rattle.answers.specs.declared.refusals.Refusal.TheVariants.{Input}
use Rattle.answers.specs.Paper.{Answer, accepted, refused}
use Rattle.fields.specs.Numbers.{number_at, bytes_of}
use Rattle.fields.specs.Tagged.{field}
use Rattle.request.specs.declared.field.FieldKind.{FieldKind}
use Rattle.request.specs.Fields.{cell_field, ring_number_field, allowance_field, ring_field, line_field, input_fields, next_at, value_at, is_field_at}

-- A request: all that one report of the program is made from.
pub record Request : Type 0 where
  pub cell : ℕ
  pub ring_number : ℕ
  pub allowance : ℕ
  pub ring : List ℕ
  pub line : List ℕ
  pub book : List ℕ

-- "It reads at most 32,768 bytes of standard input": the most bytes of an input.
abbrev pub most_input : ℕ
most_input = 32768

-- The place of the first field that is missing, cut, wrongly tagged or wrongly long: "the offset where the first such field begins or should begin". The fields
-- are of these kinds; the first begins at `at`, and each next one where the one before it ends. `none` if every field stands.
unfoldable pub first_fault : List FieldKind → List ℕ → ℕ → Option ℕ
first_fault [] input at = None
first_fault (kind ∷ kinds) input at =
    let among_later : Option ℕ = first_fault kinds input (next_at input at) in
    cond (is_field_at kind input at) among_later (Some at)

-- The place of row 11, or `none` if the input is as laid down: "a longer input is refusal 11, place 0, and is tested first".
unfoldable pub input_fault : List ℕ → Option ℕ
input_fault input =
    let of_fields : Option ℕ = first_fault input_fields input 0 in
    cond (ltb most_input (length input)) (Some 0) of_fields

-- The values of fields of these kinds, the first of which begins at `at`, and as the last part all bytes after them: "then the book to the end".
unfoldable pub parts_from : List FieldKind → List ℕ → ℕ → List (List ℕ)
parts_from [] input at = drop at input ∷ []
parts_from (kind ∷ kinds) input at = value_at input at ∷ parts_from kinds input (next_at input at)

-- The number that these bytes hold: "numbers high byte first".
abbrev pub number_in : List ℕ → ℕ
number_in bytes = number_at (length bytes) bytes 0

-- The request of six parts: the values of the five fields, and the book.
abbrev pub request_of_parts : List (List ℕ) → Request
request_of_parts parts = record {
  cell = number_in (get_or parts 0 []);
  ring_number = number_in (get_or parts 1 []);
  allowance = number_in (get_or parts 2 []);
  ring = get_or parts 3 [];
  line = get_or parts 4 [];
  book = get_or parts 5 [];
}

-- Refusal 11 at this place; or, where there is no place, the request of the input's five fields and its book.
abbrev pub request_by : List ℕ → Option ℕ → Answer Request
request_by input (Some place) = refused (Input place)
request_by input None = accepted (request_of_parts (parts_from input_fields input 0))

-- The request of an input's bytes, or refusal 11.
unfoldable pub request_of : List ℕ → Answer Request
request_of input = request_by input (input_fault input)

-- The bytes of a request: the five fields in their order, "then the book to the end".
unfoldable pub laid_down : Request → List ℕ
laid_down q =
    field cell_field.tag (bytes_of 4 q.cell)
    ++ (field ring_number_field.tag (bytes_of 2 q.ring_number)
    ++ (field allowance_field.tag (bytes_of 1 q.allowance)
    ++ (field ring_field.tag q.ring ++ (field line_field.tag q.line ++ q.book))))

-- The requests that the document's layout has room for: each number fits its bytes, the ring's length fits two bytes, the line has at most 4,096 edges, and all
-- the bytes together are at most 32,768.
pub record CanLayDown (q : Request) : Type 0 where
  pub cell_lt : q.cell < 256 ^ 4
  pub ring_number_lt : q.ring_number < 256 ^ 2
  pub allowance_lt : q.allowance < 256 ^ 1
  pub ring_le : length q.ring ≤ ring_field.most
  pub line_le : length q.line ≤ line_field.most
  pub whole_le : length (laid_down q) ≤ most_input
