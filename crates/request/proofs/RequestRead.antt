-- From the ends of the five fields, as `read_request` finds them one after the other, to its contract. The first field that does not stand gives row 11 at its place. If
-- all stand, their numbers and values are the parts of the request.
use Prim.Native.Nat.{ℕ, zero, suc, ◌+◌, ◌-◌, ◌*◌, ◌≤◌}
use mathlib.Core.Path.{◌≡◌, refl, sym, ap, ap₂, ◌∙◌}
use mathlib.Core.List.{List, [], ◌∷◌}
use Rattle.std.specs.Prelude.{None}
use Rattle.std.specs.Prelude.{Result, Ok, Err}
use Rattle.std.specs.Result.{IsErrAnd}
use native.Mathlib.Nat.{add-zero}
use native.Mathlib.Omega.{arith}
use lib.ListN.{length, get_or, take, drop, length-drop}
use lib.Seq.{length-take-le, get_or-take, get_or-drop, take_all}
use borrow.Author.Tests.{le-ltb}
use Rattle.answers.specs.declared.refusals.Refusal.{Refusal}
use Rattle.answers.specs.declared.refusals.Refusal.TheVariants.{Input}
use Rattle.answers.specs.Paper.{accepted}
use Rattle.answers.proofs.Returned.{returned}
use Rattle.fields.specs.Numbers.{number_at}
use Rattle.fields.specs.Tagged.{head_length}
use Rattle.request.specs.declared.field.FieldKind.{FieldKind}
use Rattle.request.specs.declared.reading.Parts.{Parts}
use Rattle.request.specs.Fields.{cell_field, ring_number_field, allowance_field, ring_field, line_field, input_fields, between, next_at, value_at}
use Rattle.request.specs.Input.{most_input, first_fault, input_fault, number_in, parts_from, request_by, request_of}
use Rattle.request.specs.RowEleven.{IsFieldAt, FirstFault, here, later, IsInputFault, no_field}
use Rattle.request.specs.Parsing.{IsFieldEnd}
use Rattle.request.specs.RequestReading.{IsRequestRead}
use Rattle.request.proofs.FieldEnds.{end_stands, end_refused, end_passed}
use Rattle.request.proofs.RowElevenIff.{row_11_iff}

-- a number within the bytes taken from byte offset `at` on
number_taken : (count n : ℕ) (bytes : List ℕ) (at i : ℕ) → i + count ≤ n → number_at count (take n (drop at bytes)) i ≡ number_at count bytes (at + i)
unfolding number_at
number_taken zero n bytes at i h = refl
number_taken (suc count) n bytes at i h =
    let same : at + (i + count) ≡ at + i + count = omega arith in
    ap₂ (λ (a b : ℕ). a * 256 + b) (number_taken count n bytes at i (omega arith))
    (get_or-take n (drop at bytes) (i + count) 0 (omega arith) ∙ get_or-drop at bytes (i + count) 0 ∙ ap (λ (j : ℕ). get_or bytes j 0) same)

-- The number in the value of a field of `count` bytes is the number that stands behind the field's head in the input.
pub number_of_field : {input : List ℕ} {at tag : ℕ} (count : ℕ) → IsFieldAt (record { tag = tag; least = count; most = count }) input at
    → number_in (value_at input at) ≡ number_at count input (at + head_length)
number_of_field {input} {at} count f =
    let long : next_at input at - (at + head_length) ≡ count = omega (arith, f.least_le, f.most_le) in
    let whole : length (value_at input at) ≡ count =
    length-take-le (next_at input at - (at + head_length)) (drop (at + head_length) input) (simp length-drop (omega (arith, f.not_cut))) ∙ long in
    ap (λ (n : ℕ). number_at n (value_at input at) 0) whole
    ∙ number_taken count (next_at input at - (at + head_length)) input (at + head_length) 0 (omega arith)
    ∙ ap (number_at count input) (add-zero (at + head_length))

-- Refusal 11 where row 11 is given meets the contract.
pub request_refused : {input : List ℕ} {place : ℕ} → IsInputFault input place → IsRequestRead input (Err (Input place))
request_refused {input} {place} fault = record { is = sym ((row_11_iff input place).1 fault); within = tt }

-- Where a field stands, a fault among the later ones is one among these.
pub fault_later : {input : List ℕ} {kind : FieldKind} {kinds : List FieldKind} {at end place : ℕ} → IsFieldEnd kind input at (Ok end)
    → FirstFault input kinds end place → FirstFault input (kind ∷ kinds) at place
fault_later read fault = let h = end_stands read in later h.field (rw h.ends at fault)

-- Where a field's refusal is returned, that field is the first that does not stand.
pub field_refused : {input : List ℕ} {kind : FieldKind} {kinds : List FieldKind} {at : ℕ} {refusal : Refusal} {r : Result Parts Refusal} → length input ≤ most_input
    → IsFieldEnd kind input at (Err refusal) → (FirstFault input (kind ∷ kinds) at at → FirstFault input input_fields 0 at) → IsErrAnd r (λ e. e ≡ refusal)
    → IsRequestRead input r
field_refused short read reached says =
    let h = end_refused read in
    rw (returned says, h.1) (request_refused (no_field short (reached (here h.0))))

-- The five fields stand one after the other, and the input is not too long.
pub record AllRead (input : List ℕ) (cell ring_number allowance ring line : ℕ) : Type 0 where
  pub short : length input ≤ most_input
  pub cell_read : IsFieldEnd cell_field input 0 (Ok cell)
  pub ring_number_read : IsFieldEnd ring_number_field input cell (Ok ring_number)
  pub allowance_read : IsFieldEnd allowance_field input ring_number (Ok allowance)
  pub ring_read : IsFieldEnd ring_field input allowance (Ok ring)
  pub line_read : IsFieldEnd line_field input ring (Ok line)

module _ {input : List ℕ} {cell ring_number allowance ring line : ℕ} (read : AllRead input cell ring_number allowance ring line) where
  -- so row 11 is not given
  no_fault : input_fault input ≡ None
  unfolding input_fault first_fault
  no_fault =
      simp (le-ltb most_input (length input) read.short)
      (end_passed read.cell_read (ring_number_field ∷ allowance_field ∷ ring_field ∷ line_field ∷ [])
      ∙ end_passed read.ring_number_read (allowance_field ∷ ring_field ∷ line_field ∷ [])
      ∙ end_passed read.allowance_read (ring_field ∷ line_field ∷ [])
      ∙ end_passed read.ring_read (line_field ∷ [])
      ∙ end_passed read.line_read [])

  -- The parts with the fields' numbers and values meet the contract.
  pub request_parts : {p : Parts} → p.cell ≡ number_at 4 input head_length → p.ring_number ≡ number_at 2 input (cell + head_length)
      → p.allowance ≡ number_at 1 input (ring_number + head_length) → p.ring.now ≡ between input (allowance + head_length) ring
      → p.line.now ≡ between input (ring + head_length) line → p.book.now ≡ between input line (length input) → IsRequestRead input (Ok p)
  unfolding request_of parts_from
  request_parts {p} cell_is ring_number_is allowance_is ring_is line_is book_is =
      let cell_field_lem = end_stands read.cell_read in
      let ring_number_field_lem = end_stands read.ring_number_read in
      let allowance_field_lem = end_stands read.allowance_read in
      let ring_field_lem = end_stands read.ring_read in
      let line_field_lem = end_stands read.line_read in
      let ends_1 = cell_field_lem.ends in
      let ends_2 = ring_number_field_lem.ends ∙ ap (next_at input) ends_1 in
      let ends_3 = allowance_field_lem.ends ∙ ap (next_at input) ends_2 in
      let ends_4 = ring_field_lem.ends ∙ ap (next_at input) ends_3 in
      let ends_5 = line_field_lem.ends ∙ ap (next_at input) ends_4 in
      let cell_read : _ ≡ number_in (value_at input 0) = cell_is ∙ sym (number_of_field 4 cell_field_lem.field) in
      let ring_number_read = ring_number_is ∙ sym (number_of_field 2 ring_number_field_lem.field) ∙ ap (λ (n : ℕ). number_in (value_at input n)) ends_1 in
      let allowance_read = allowance_is ∙ sym (number_of_field 1 allowance_field_lem.field) ∙ ap (λ (n : ℕ). number_in (value_at input n)) ends_2 in
      let ring_read = ring_is ∙ ap (between input (allowance + head_length)) ring_field_lem.ends ∙ ap (value_at input) ends_3 in
      let line_read = line_is ∙ ap (between input (ring + head_length)) line_field_lem.ends ∙ ap (value_at input) ends_4 in
      let to_end : between input line (length input) ≡ drop line input = take_all (length input - line) (drop line input) (simp length-drop (omega arith)) in
      let book_read = book_is ∙ to_end ∙ ap (λ (n : ℕ). drop n input) ends_5 in
      record {
        is = (λ i. accepted (record {
          cell = cell_read i;
          ring_number = ring_number_read i;
          allowance = allowance_read i;
          ring = ring_read i;
          line = line_read i;
          book = book_read i;
        }))
            ∙ sym (ap (request_by input) no_fault);
        within = record {
          ring_from = allowance + head_length;
          ring_to = ring;
          line_from = ring + head_length;
          line_to = line;
          ring_is = ring_is;
          line_is = line_is;
          book_is = book_is ∙ to_end;
          ring_le = read.ring_read.within.0;
          line_behind = refl;
          line_le = read.line_read.within.0;
          ring_within = read.ring_read.within.1;
          line_within = read.line_read.within.1;
          line_most = omega (arith, line_field_lem.ends, line_field_lem.field.most_le);
        };
      }
