-- An input that is read as a request is that request laid down, and the request can be laid down. By induction on the fields (`read_laid`): a field that stands is its
-- tag, its length and its value. With `laid_down_read`: an input is accepted exactly when it is "as laid down".
use Prim.Native.Nat.{ℕ, ◌+◌, ◌-◌, ◌^◌, ◌≤◌, ◌<◌}
use mathlib.Core.Path.{◌≡◌, refl, sym, ap, ap₂, subst, ◌∙◌}
use mathlib.Core.Bool.{Bool, true, false, cond}
use mathlib.Core.Logic.{◌↔◌}
use mathlib.Core.List.{List, [], ◌∷◌, ◌++◌}
use Rattle.std.specs.Prelude.{Option, None, Some}
use native.Mathlib.Omega.{arith}
use lib.Dec.{ltb}
use lib.ListN.{length, take, drop, length-take}
use borrow.Author.Tests.{ltb-false}
use Rattle.lists.specs.Bounds.{IsBytes}
use Rattle.answers.specs.Paper.{accepted}
use Rattle.answers.proofs.AnswerCases.{accepted_not_refused, accepted_unique}
use Rattle.fields.specs.Numbers.{bytes_of}
use Rattle.fields.specs.Tagged.{head_length, field, field_end}
use Rattle.fields.proofs.NumberBytes.{number_at_lt, bytes_of_number}
use Rattle.fields.proofs.FieldLaid.{field_then}
use Rattle.request.specs.declared.field.FieldKind.{FieldKind}
use Rattle.request.specs.Fields.{cell_field, ring_number_field, allowance_field, ring_field, line_field, input_fields, next_at, value_at, is_field_at}
use Rattle.request.specs.Input.{Request, most_input, first_fault, input_fault, parts_from, number_in, request_of_parts, request_by, request_of, laid_down, CanLayDown}
use Rattle.request.specs.RowEleven.{IsFieldAt}
use Rattle.request.proofs.FieldStands.{field_iff}
use Rattle.request.proofs.RequestRead.{number_of_field}
use Rattle.request.proofs.LaidDownRead.{laid, laid_down_read}

module _ (input : List ℕ) where
  -- where no field is faulty, the first stands, and none after it is faulty
  first_stands : (kind : FieldKind) (kinds : List FieldKind) (at : ℕ) → first_fault (kind ∷ kinds) input at ≡ None
      → IsFieldAt kind input at × (first_fault kinds input (next_at input at) ≡ None)
  unfolding first_fault
  first_stands kind kinds at e = go (is_field_at kind input at) refl e
    where
      go : (t : Bool) → is_field_at kind input at ≡ t → cond t (first_fault kinds input (next_at input at)) (Some at) ≡ None
          → IsFieldAt kind input at × (first_fault kinds input (next_at input at) ≡ None)
      go true stands e = ((field_iff kind input at).0 stands, e)
      go false missing e = absurd (let z : ◌≡◌ {A = ℕ} 0 1 = cc in omega arith)

  -- the value of a field has at most the kind's most bytes
  value_le : {kind : FieldKind} {at : ℕ} → IsFieldAt kind input at → length (value_at input at) ≤ kind.most
  value_le {kind} {at} f = omega (arith, f.most_le, length-take (next_at input at - (at + head_length)) (drop (at + head_length) input))

  -- The line of a request that is read has at most 4,096 edges.
  pub line_at_most : {q : Request} → request_of input ≡ accepted q → length q.line ≤ line_field.most
  unfolding request_of input_fault parts_from
  line_at_most {q} h = go (ltb most_input (length input)) (first_fault input_fields input 0) refl h
    where
      go : (t : Bool) (o : Option ℕ) → first_fault input_fields input 0 ≡ o → request_by input (cond t (Some 0) o) ≡ accepted q → length q.line ≤ line_field.most
      go true o e h = absurd (accepted_not_refused h refl)
      go false (Some place) e h = absurd (accepted_not_refused h refl)
      go false None e h =
          let cell = first_stands cell_field _ 0 e in
          let ring_number = first_stands ring_number_field _ _ cell.1 in
          let allowance = first_stands allowance_field _ _ ring_number.1 in
          let ring = first_stands ring_field _ _ allowance.1 in
          let line = first_stands line_field _ _ ring.1 in
          subst (λ (p : Request). length p.line ≤ line_field.most) (accepted_unique refl h) (value_le line.0)

module _ (input : List ℕ) (is_bytes : IsBytes input) where
  -- the bytes from `at` on are the fields read, laid down, and the book after them
  read_laid : (kinds : List FieldKind) (at : ℕ) → first_fault kinds input at ≡ None → drop at input ≡ laid kinds (parts_from kinds input at)
  unfolding parts_from
  read_laid [] at e = refl
  read_laid (kind ∷ kinds) at e =
      let first = first_stands input kind kinds at e in
      let long : ℕ = next_at input at - (at + head_length) in
      let ends : field_end at long ≡ next_at input at = omega arith in
      field_then input is_bytes at long (omega arith) (omega (arith, first.0.not_cut))
      ∙ ap₂ (λ (t n : ℕ). field t (value_at input at) ++ drop n input) first.0.tag_is ends
      ∙ ap (λ (l : List ℕ). field kind.tag (value_at input at) ++ l) (read_laid kinds (next_at input at) first.1)

  -- the bytes of a field of a number are that number's
  number_value : {at tag : ℕ} (count : ℕ) → IsFieldAt (record { tag = tag; least = count; most = count }) input at
      → value_at input at ≡ bytes_of count (number_in (value_at input at))
  number_value {at} count f =
      let long : next_at input at - (at + head_length) ≡ count = omega (arith, f.least_le, f.most_le) in
      ap (λ (n : ℕ). take n (drop (at + head_length) input)) long
      ∙ sym (bytes_of_number input is_bytes count (at + head_length) (omega (arith, f.least_le, f.not_cut)))
      ∙ ap (bytes_of count) (sym (number_of_field count f))

  -- and fits them
  number_lt : {at tag : ℕ} (count : ℕ) → IsFieldAt (record { tag = tag; least = count; most = count }) input at → number_in (value_at input at) < 256 ^ count
  number_lt {at} count f = rw (number_of_field count f) (number_at_lt input is_bytes count (at + head_length))

  -- where no field is faulty, the input is its request laid down, and that request can be laid down
  parts_laid_down : length input ≤ most_input → first_fault input_fields input 0 ≡ None
      → (input ≡ laid_down (request_of_parts (parts_from input_fields input 0))) × CanLayDown (request_of_parts (parts_from input_fields input 0))
  unfolding laid_down parts_from
  parts_laid_down short e =
      let cell = first_stands input cell_field _ 0 e in
      let ring_number = first_stands input ring_number_field _ _ cell.1 in
      let allowance = first_stands input allowance_field _ _ ring_number.1 in
      let ring = first_stands input ring_field _ _ allowance.1 in
      let line = first_stands input line_field _ _ ring.1 in
      let ring_at : ℕ = next_at input (next_at input (next_at input 0)) in
      let line_at : ℕ = next_at input ring_at in
      let whole : input ≡ laid_down (request_of_parts (parts_from input_fields input 0)) =
      read_laid input_fields 0 e
      ∙ (λ i. laid input_fields (number_value 4 cell.0 i ∷ number_value 2 ring_number.0 i ∷ number_value 1 allowance.0 i ∷ value_at input ring_at ∷ value_at input line_at ∷ drop (next_at input line_at) input ∷ [])) in (
        whole,
        record {
          cell_lt = number_lt 4 cell.0;
          ring_number_lt = number_lt 2 ring_number.0;
          allowance_lt = number_lt 1 allowance.0;
          ring_le = value_le input ring.0;
          line_le = value_le input line.0;
          whole_le = omega (arith, ap length whole);
        },
      )

  module _ (q : Request) where
    -- an input that is read as `q` is `q` laid down
    read_is_laid_down : request_of input ≡ accepted q → (input ≡ laid_down q) × CanLayDown q
    unfolding request_of input_fault
    read_is_laid_down h = go (ltb most_input (length input)) refl (first_fault input_fields input 0) refl h
      where
        go : (t : Bool) → ltb most_input (length input) ≡ t → (o : Option ℕ) → first_fault input_fields input 0 ≡ o → request_by input (cond t (Some 0) o) ≡ accepted q
            → (input ≡ laid_down q) × CanLayDown q
        go true long o e h = absurd (accepted_not_refused h refl)
        go false short (Some place) e h = absurd (accepted_not_refused h refl)
        go false short None e h =
            subst (λ (p : Request). (input ≡ laid_down p) × CanLayDown p) (accepted_unique refl h) (parts_laid_down (ltb-false most_input (length input) short) e)

    -- An input is read as the request `q` exactly when it is `q` laid down and `q` can be laid down.
    pub laid_down_iff : (request_of input ≡ accepted q) ↔ ((input ≡ laid_down q) × CanLayDown q)
    laid_down_iff = (read_is_laid_down, λ h. ap request_of h.0 ∙ laid_down_read q h.1)
