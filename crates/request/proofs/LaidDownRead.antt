-- An input laid down from a request is read back as that request. By induction on the fields (`parts_laid`): each field that was laid down stands, its value is
-- read back, and the next field begins at its end.
use Prim.Native.Nat.{ℕ, ◌+◌, ◌-◌, ◌^◌, ◌≤◌, ◌<◌}
use mathlib.Core.Path.{◌≡◌, refl, sym, ap, ap₂, ◌∙◌}
use mathlib.Core.List.{List, [], ◌∷◌, ◌++◌, append-nil}
use Rattle.std.specs.Prelude.{None}
use native.Mathlib.Omega.{arith}
use lib.ListN.{length, get_or, take, drop}
use lib.Seq.{take-append_seam}
use borrow.Author.Tests.{le-ltb}
use Rattle.answers.specs.Paper.{accepted}
use Rattle.fields.specs.Numbers.{bytes_of, number_at}
use Rattle.fields.specs.Tagged.{length_bytes, head_length, field, length_at, field_end}
use Rattle.fields.proofs.NumberBytes.{bytes_of_length}
use Rattle.fields.proofs.FieldLaid.{laid_number, laid_tag, laid_long, laid_value, laid_rest, laid_within}
use Rattle.request.specs.declared.field.FieldKind.{FieldKind}
use Rattle.request.specs.Fields.{ring_field, line_field, input_fields, next_at, value_at}
use Rattle.request.specs.Input.{Request, most_input, first_fault, input_fault, parts_from, number_in, request_of, laid_down, CanLayDown}
use Rattle.request.specs.RowEleven.{IsFieldAt}
use Rattle.request.proofs.FieldStands.{field_iff}

-- Fields of these kinds with these values, one after the other, and after them the part that is left: the book.
abbrev pub laid : List FieldKind → List (List ℕ) → List ℕ
laid [] parts = get_or parts 0 []
laid (kind ∷ kinds) [] = []
laid (kind ∷ kinds) (value ∷ parts) = field kind.tag value ++ laid kinds parts

-- Each value has a length that its kind allows and that two bytes can hold, and one part, the book, comes after the fields.
data Fit : List FieldKind → List (List ℕ) → Type 0 where
  book_left : {book : List ℕ} → Fit [] (book ∷ [])
  field_fits : {kind : FieldKind} {kinds : List FieldKind} {value : List ℕ} {parts : List (List ℕ)} → kind.least ≤ length value → length value ≤ kind.most
      → length value < 256 ^ length_bytes → Fit kinds parts → Fit (kind ∷ kinds) (value ∷ parts)

-- Where such fields stand from byte offset `at` on, none is faulty, and the parts read are those that were laid down.
parts_laid : {kinds : List FieldKind} {parts : List (List ℕ)} (whole : List ℕ) (at : ℕ) → Fit kinds parts → drop at whole ≡ laid kinds parts
    → (first_fault kinds whole at ≡ None) × (parts_from kinds whole at ≡ parts)
unfolding first_fault parts_from
parts_laid whole at book_left e = (refl, ap (λ (l : List ℕ). l ∷ []) e)
parts_laid whole at (field_fits {kind} {kinds} {value} {parts} least_le most_le short fit) e =
    let rest : List ℕ = laid kinds parts in
    let long : length_at whole at ≡ length value = laid_long whole at kind.tag value rest e short in
    let next_is : next_at whole at ≡ field_end at (length value) = ap (field_end at) long in
    let stands : IsFieldAt kind whole at =
    record {
      tag_is = laid_tag whole at kind.tag value rest e;
      least_le = omega arith;
      most_le = omega arith;
      not_cut = omega (arith, laid_within whole at kind.tag value rest e);
    } in
    let value_long : next_at whole at - (at + head_length) ≡ length value = omega arith in
    let value_is : value_at whole at ≡ value =
    ap₂ (λ (n : ℕ) (l : List ℕ). take n l) value_long (laid_value whole at kind.tag value rest e) ∙ take-append_seam value rest in
    let after = parts_laid whole (next_at whole at) fit (ap (λ (n : ℕ). drop n whole) next_is ∙ laid_rest whole at kind.tag value rest e) in
    (simp ((field_iff kind whole at).1 stands, after.0), ap₂ (λ (v : List ℕ) (l : List (List ℕ)). v ∷ l) value_is after.1)

-- a number's bytes give it back
number_in_bytes : (count number : ℕ) → number < 256 ^ count → number_in (bytes_of count number) ≡ number
number_in_bytes count number fits =
    ap (λ (n : ℕ). number_at n (bytes_of count number) 0) (bytes_of_length count number)
    ∙ laid_number (bytes_of count number) 0 count number [] (sym (append-nil (bytes_of count number))) fits

-- and have the length that the field of such a number requires
number_fits : {tag : ℕ} {kinds : List FieldKind} {parts : List (List ℕ)} (count number : ℕ) → count < 256 ^ length_bytes → Fit kinds parts
    → Fit (record { tag = tag; least = count; most = count } ∷ kinds) (bytes_of count number ∷ parts)
number_fits {tag} count number small fit =
    let kind : FieldKind = record { tag = tag; least = count; most = count } in
    let long = bytes_of_length count number in
    field_fits {kind = kind} {value = bytes_of count number} (omega arith) (omega arith) (omega arith) fit

-- The parts of a request.
abbrev parts_of : Request → List (List ℕ)
parts_of q = bytes_of 4 q.cell ∷ bytes_of 2 q.ring_number ∷ bytes_of 1 q.allowance ∷ q.ring ∷ q.line ∷ q.book ∷ []

-- Reading the input laid down from a request gives that request, for every request that can be laid down.
pub laid_down_read : (q : Request) → CanLayDown q → request_of (laid_down q) ≡ accepted q
unfolding request_of input_fault laid_down
laid_down_read q can =
    let fit : Fit input_fields (parts_of q) =
    number_fits 4 q.cell (omega arith)
    (number_fits 2 q.ring_number (omega arith)
    (number_fits 1 q.allowance (omega arith)
    (field_fits {kind = ring_field} {value = q.ring} (omega arith) can.ring_le (omega (arith, can.ring_le))
    (field_fits {kind = line_field} {value = q.line} (omega arith) can.line_le (omega (arith, can.line_le)) book_left)))) in
    let read = parts_laid (laid_down q) 0 fit refl in
    simp (le-ltb most_input (length (laid_down q)) can.whole_le, read.0, read.1)
    (λ i. accepted (record {
      cell = number_in_bytes 4 q.cell can.cell_lt i;
      ring_number = number_in_bytes 2 q.ring_number can.ring_number_lt i;
      allowance = number_in_bytes 1 q.allowance can.allowance_lt i;
      ring = q.ring;
      line = q.line;
      book = q.book;
    }))
