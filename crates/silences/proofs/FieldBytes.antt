-- A field's bytes determine its silence, and its silence and its tag determine the bytes. The field of a silence in range, wherever it stands, is read back as
-- that silence (`field_of_silence`). Where a whole field is read, its bytes are a field that says its silence, which is in range (`silence_of_field`). Number
-- by number, by FieldLaid of crates/fields.
use Prim.Native.Nat.{ℕ, ◌+◌, ◌≤◌}
use mathlib.Core.Path.{◌≡◌, refl, sym, ap, ap₂, subst, ◌∙◌}
use mathlib.Core.List.{List, ◌∷◌, ◌++◌, append_assoc}
use Rattle.std.specs.Prelude.{Some}
use native.Mathlib.Omega.{arith}
use lib.ListN.{length, get_or, take, drop, length-append}
use lib.Seq.{take_at}
use Rattle.lists.specs.Bounds.{IsBytes}
use Rattle.fields.specs.Numbers.{bytes_of, number_at}
use Rattle.fields.specs.Tagged.{length_bytes, head_length, field}
use Rattle.fields.proofs.NumberBytes.{bytes_of_length, number_at_lt}
use Rattle.fields.proofs.FieldLaid.{laid_number, laid_number_rest, laid_tag, laid_long, laid_value, laid_within, number_then, field_then}
use Rattle.silences.specs.Silences.{Address, Silence, silence, cell_bytes, ring_number_bytes, start_bytes, InRange}
use Rattle.silences.specs.Layout.{Kind, kind_by_tag, address_bytes, address_value, value_length, value_of, CanSay, packed_tag, packed_kind, packed_length, field_of}
use Rattle.silences.specs.Reading.{address_at, silence_at, whole, field_at}
use Rattle.silences.specs.Books.{IsFieldOf}
use Rattle.silences.proofs.FieldTest.{kind_length_le, kind_ceiling, kind_ceiling_lt, IsTested, IsWholeField, field_whole_is, field_is_whole}

-- an address has 10 bytes
address_length : (a : Address) → length (address_value a) ≡ address_bytes
unfolding address_value
address_length a = simp (length-append, bytes_of_length)

-- a value has as many bytes as its kind says
value_length_lem : (kind : Kind) (s : Silence) → length (value_of kind s) ≡ value_length kind
unfolding value_of
value_length_lem kind s =
    length-append (address_value s.address) (bytes_of kind.ceiling_bytes s.ceiling)
    ∙ ap₂ (λ (m n : ℕ). m + n) (address_length s.address) (bytes_of_length kind.ceiling_bytes s.ceiling)

-- A field that says a silence has the bytes of its head and of its value.
pub field_of_length : {tag : ℕ} {s : Silence} {here : List ℕ} (f : IsFieldOf tag s here) → length here ≡ head_length + value_length f.kind
unfolding bytes_of
field_of_length {s = s} f = ap length f.bytes_are ∙ omega (arith, value_length_lem f.kind s)

-- The field that packing writes for a silence is its tag, its length in two bytes, and its value.
pub field_of_is : (s : Silence) → field_of s ≡ packed_tag ∷ bytes_of length_bytes (value_length packed_kind) ++ value_of packed_kind s
unfolding field_of
field_of_is s = ap (λ (n : ℕ). packed_tag ∷ bytes_of length_bytes n ++ value_of packed_kind s) (value_length_lem packed_kind s)

-- The field that packing writes says its silence, if a field of its kind can.
pub packed_field : (s : Silence) → CanSay packed_kind s → IsFieldOf packed_tag s (field_of s)
unfolding field_of
packed_field s can = record { kind = packed_kind; kind_is = kind_ceiling; can_say = can; bytes_are = refl }

-- A field that packing writes has 15 bytes.
pub packed_length_lem : (s : Silence) → length (field_of s) ≡ packed_length
unfolding bytes_of
packed_length_lem s = ap length (field_of_is s) ∙ omega (arith, value_length_lem packed_kind s)

module _ (book : List ℕ) (at : ℕ) (a : Address) (rest : List ℕ) (laid : drop at book ≡ address_value a ++ rest) where
  -- the three numbers of an address, one after the other
  abbrev ring_bytes : List ℕ
  ring_bytes = bytes_of ring_number_bytes a.ring_number

  abbrev start_bytes_lem : List ℕ
  start_bytes_lem = bytes_of start_bytes a.start

  cell_laid : drop at book ≡ bytes_of cell_bytes a.cell ++ (ring_bytes ++ (start_bytes_lem ++ rest))
  unfolding address_value
  cell_laid = laid ∙ simp append_assoc

  ring_laid : drop (at + cell_bytes) book ≡ ring_bytes ++ (start_bytes_lem ++ rest)
  ring_laid = laid_number_rest book at cell_bytes a.cell (ring_bytes ++ (start_bytes_lem ++ rest)) cell_laid

  start_laid : drop (at + cell_bytes + ring_number_bytes) book ≡ start_bytes_lem ++ rest
  start_laid = laid_number_rest book (at + cell_bytes) ring_number_bytes a.ring_number (start_bytes_lem ++ rest) ring_laid

  -- behind an address stands the rest
  address_rest : drop (at + address_bytes) book ≡ rest
  address_rest =
      let same : at + address_bytes ≡ at + cell_bytes + ring_number_bytes + start_bytes = omega arith in
      ap (λ (n : ℕ). drop n book) same ∙ laid_number_rest book (at + cell_bytes + ring_number_bytes) start_bytes a.start rest start_laid

  -- an address in range is read back
  address_laid : {ceiling : ℕ} → InRange (silence a ceiling) → address_at book at ≡ a
  unfolding address_at
  address_laid in_range =
      let cell_is = laid_number book at cell_bytes a.cell (ring_bytes ++ (start_bytes_lem ++ rest)) cell_laid in_range.cell_lt in
      let ring_is = laid_number book (at + cell_bytes) ring_number_bytes a.ring_number (start_bytes_lem ++ rest) ring_laid in_range.ring_number_lt in
      let start_is = laid_number book (at + cell_bytes + ring_number_bytes) start_bytes a.start rest start_laid in_range.start_lt in
      λ i. record { cell = cell_is i; ring_number = ring_is i; start = start_is i }

-- A field that says a silence in range, wherever it stands in a book, is read back as that silence, with its end.
pub field_of_silence : {tag : ℕ} {s : Silence} {here : List ℕ} → IsFieldOf tag s here → InRange s → (book : List ℕ) (at : ℕ) (rest : List ℕ)
    → drop at book ≡ here ++ rest → field_at book at ≡ whole s (at + length here)
unfolding value_of silence_at
field_of_silence {tag} {s} {here} f in_range book at rest laid_here =
    let kind : Kind = f.kind in
    let value_at : ℕ = at + head_length in
    let ceiling_bytes_is : List ℕ = bytes_of kind.ceiling_bytes s.ceiling in
    let laid : drop at book ≡ field tag (value_of kind s) ++ rest = laid_here ∙ ap (λ (l : List ℕ). l ++ rest) f.bytes_are in
    let long : length (value_of kind s) ≡ value_length kind = value_length_lem kind s in
    let address_then : drop value_at book ≡ address_value s.address ++ (ceiling_bytes_is ++ rest) =
    laid_value book at tag (value_of kind s) rest laid ∙ append_assoc (address_value s.address) ceiling_bytes_is rest in
    let address_is : address_at book value_at ≡ s.address = address_laid book value_at s.address (ceiling_bytes_is ++ rest) address_then in_range in
    let ceiling_is : number_at kind.ceiling_bytes book (value_at + address_bytes) ≡ s.ceiling =
    laid_number book (value_at + address_bytes) kind.ceiling_bytes s.ceiling rest (address_rest book value_at s.address (ceiling_bytes_is ++ rest) address_then) f.can_say in
    let tested : IsTested book at kind =
    record {
      kind_is = ap kind_by_tag (laid_tag book at tag (value_of kind s) rest laid) ∙ f.kind_is;
      long_is = laid_long book at tag (value_of kind s) rest laid (omega (arith, kind_length_le tag kind f.kind_is)) ∙ long;
      within = omega (arith, laid_within book at tag (value_of kind s) rest laid);
    } in
    field_is_whole book at kind tested (λ i. record { address = sym address_is i; ceiling = sym ceiling_is i }) (omega (arith, field_of_length f))

module _ (book : List ℕ) (bytes : IsBytes book) (at : ℕ) where
  -- a field of the kind that was read can say the silence that was read
  value_can_say : (kind : Kind) → CanSay kind (silence_at kind book at)
  unfolding silence_at
  value_can_say kind = number_at_lt book bytes kind.ceiling_bytes (at + address_bytes)

  -- a silence that is read is in range
  value_in_range : (tag : ℕ) (kind : Kind) → kind_by_tag tag ≡ Some kind → InRange (silence_at kind book at)
  unfolding silence_at address_at
  value_in_range tag kind is =
      record {
        cell_lt = number_at_lt book bytes cell_bytes at;
        ring_number_lt = number_at_lt book bytes ring_number_bytes (at + cell_bytes);
        start_lt = number_at_lt book bytes start_bytes (at + cell_bytes + ring_number_bytes);
        ceiling_lt = kind_ceiling_lt tag kind is (number_at kind.ceiling_bytes book (at + address_bytes)) (value_can_say kind);
      }

  -- the bytes of an address stand in the book, and then the rest
  address_then : at + address_bytes ≤ length book → drop at book ≡ address_value (address_at book at) ++ drop (at + address_bytes) book
  unfolding address_at address_value
  address_then within =
      let same : at + cell_bytes + ring_number_bytes + start_bytes ≡ at + address_bytes = omega arith in
      number_then book bytes cell_bytes at (omega arith)
      ∙ ap (λ (l : List ℕ). bytes_of cell_bytes (number_at cell_bytes book at) ++ l)
      (number_then book bytes ring_number_bytes (at + cell_bytes) (omega arith)
      ∙ ap (λ (l : List ℕ). bytes_of ring_number_bytes (number_at ring_number_bytes book (at + cell_bytes)) ++ l)
      (number_then book bytes start_bytes (at + cell_bytes + ring_number_bytes) (omega arith)
      ∙ ap (λ (n : ℕ). bytes_of start_bytes (number_at start_bytes book (at + cell_bytes + ring_number_bytes)) ++ drop n book) same))
      ∙ sym (simp append_assoc)

  -- so do the bytes of a value
  value_then : (kind : Kind) → at + value_length kind ≤ length book
      → drop at book ≡ value_of kind (silence_at kind book at) ++ drop (at + address_bytes + kind.ceiling_bytes) book
  unfolding silence_at value_of
  value_then kind within =
      address_then (omega arith)
      ∙ ap (λ (l : List ℕ). address_value (address_at book at) ++ l) (number_then book bytes kind.ceiling_bytes (at + address_bytes) (omega arith))
      ∙ sym (append_assoc (address_value (address_at book at)) (bytes_of kind.ceiling_bytes (number_at kind.ceiling_bytes book (at + address_bytes)))
      (drop (at + address_bytes + kind.ceiling_bytes) book))

-- At `at` the book has a field that says `s`, followed by what stands from `next` on; and `s` is in range.
pub record FieldStands (book : List ℕ) (at : ℕ) (s : Silence) (next : ℕ) : Type 0 where
  pub tag : ℕ
  pub here : List ℕ
  pub is_field : IsFieldOf tag s here
  pub in_range : InRange s
  pub bytes_are : drop at book ≡ here ++ drop next book
  pub next_is : next ≡ at + length here

-- Where a whole field is read, its bytes are a field that says its silence, which is in range.
pub silence_of_field : (book : List ℕ) → IsBytes book → (at : ℕ) (s : Silence) (next : ℕ) → field_at book at ≡ whole s next → FieldStands book at s next
silence_of_field book bytes at s next e =
    let f : IsWholeField book at s next = field_whole_is book at s next e in
    let kind : Kind = f.kind in
    let value_at : ℕ = at + head_length in
    let read : Silence = silence_at kind book value_at in
    let value_is : take (value_length kind) (drop value_at book) ≡ value_of kind s =
    ap (take (value_length kind)) (value_then book bytes value_at kind f.tested.within)
    ∙ take_at (value_of kind read) (drop (value_at + address_bytes + kind.ceiling_bytes) book) (value_length kind) (value_length_lem kind read)
    ∙ ap (value_of kind) (sym f.silence_is) in
    let here : List ℕ = field (get_or book at 0) (value_of kind s) in
    let is_field : IsFieldOf (get_or book at 0) s here =
    record { kind = kind; kind_is = f.tested.kind_is; can_say = subst (CanSay kind) (sym f.silence_is) (value_can_say book bytes value_at kind); bytes_are = refl } in
    record {
      tag = get_or book at 0;
      here = here;
      is_field = is_field;
      in_range = subst InRange (sym f.silence_is) (value_in_range book bytes value_at (get_or book at 0) kind f.tested.kind_is);
      bytes_are =
          field_then book bytes at (value_length kind) f.tested.long_is f.tested.within
          ∙ (λ i. field (get_or book at 0) (value_is i) ++ drop (sym f.next_is i) book);
      next_is = omega (arith, f.next_is, field_of_length is_field);
    }
