-- `field_at` decides row 6: it gives a whole field exactly where 13 bytes begin 21 00 0A hex, or 15 begin 22 00 0C, and are not cut off (`IsField`). It makes
-- three tests (`IsTested`): the tag has a kind, the two length bytes say the length of that kind, which they do only as 00 and that length, and the field ends
-- within the book.
use Prim.Native.Nat.{ℕ, ◌+◌, ◌*◌, ◌^◌, ◌≤◌, ◌<◌}
use mathlib.Core.Logic.{◌⊎◌, inl, inr, ⊎_elim, ◌↔◌}
use mathlib.Core.Path.{◌≡◌, refl, sym, ap, ap₂, subst, ◌∙◌}
use mathlib.Core.Bool.{Bool, true, cond}
use mathlib.Core.List.{List, [], ◌∷◌}
use Rattle.std.specs.Prelude.{Option, None, Some}
use native.Mathlib.Nat.{add-zero}
use native.Mathlib.Omega.{arith}
use lib.Dec.{eqb}
use lib.ListN.{length, get_or, drop}
use lib.Seq.{get_or-drop, get_or-take}
use Rattle.lists.proofs.Cases.{by_test}
use Rattle.lists.specs.ByPlace.{list_of}
use Rattle.lists.proofs.Records.{part_places}
use Rattle.lists.proofs.SizesTested.{le_iff, eq_iff, and_iff}
use Rattle.fields.specs.Numbers.{number_at}
use Rattle.fields.specs.Tagged.{head_length, length_at, field_end, is_whole}
use Rattle.silences.specs.Silences.{Silence, ceiling_bytes}
use Rattle.silences.specs.Layout.{Kind, exact_tag, exact_kind, ceiling_tag, ceiling_kind, kind_by_tag, value_length}
use Rattle.silences.specs.Reading.{silence_at, FieldAt, whole, faulty, field_by, field_at}
use Rattle.silences.specs.Books.{BeginsField, IsField}

-- A faulty field is not whole.
pub faulty_not_whole : {s : Silence} {next : ℕ} → faulty ≡ whole s next → ⊥
faulty_not_whole e = let z : ◌≡◌ {A = ℕ} 0 1 = cc in omega arith

-- Equal whole fields have the same silence.
pub whole_silence_unique : {s t : Silence} {i j : ℕ} → whole s i ≡ whole t j → s ≡ t
whole_silence_unique e = cc

-- Equal whole fields have the same end.
pub whole_next_unique : {s t : Silence} {i j : ℕ} → whole s i ≡ whole t j → i ≡ j
whole_next_unique e = cc

-- The two tags of the table: a tag with a kind is 21 hex, with the kind of an exact silence, or 22 hex, with the kind that has a ceiling.
pub kind_cases : (tag : ℕ) (kind : Kind) → kind_by_tag tag ≡ Some kind → ((tag ≡ exact_tag) × (kind ≡ exact_kind)) ⊎ ((tag ≡ ceiling_tag) × (kind ≡ ceiling_kind))
unfolding kind_by_tag
kind_cases tag kind =
    by_test (λ (o : Option Kind). o ≡ Some kind → ((tag ≡ exact_tag) × (kind ≡ exact_kind)) ⊎ ((tag ≡ ceiling_tag) × (kind ≡ ceiling_kind))) (eqb tag exact_tag)
    (λ t e. inl ((eq_iff tag exact_tag).0 t, cc))
    (λ _.
    by_test (λ (o : Option Kind). o ≡ Some kind → ((tag ≡ exact_tag) × (kind ≡ exact_kind)) ⊎ ((tag ≡ ceiling_tag) × (kind ≡ ceiling_kind))) (eqb tag ceiling_tag)
    (λ t e. inr ((eq_iff tag ceiling_tag).0 t, cc))
    (λ t e. absurd (let z : ◌≡◌ {A = ℕ} 0 1 = cc in omega arith)))

-- A tag has one kind.
pub kind_unique : {o : Option Kind} {kind kind' : Kind} → o ≡ Some kind → o ≡ Some kind' → kind ≡ kind'
kind_unique e e' = cc

-- If a tag has no kind, it does not have this one.
pub kind_none : {o : Option Kind} {kind : Kind} → o ≡ None → o ≡ Some kind → ⊥
kind_none e e' = let z : ◌≡◌ {A = ℕ} 0 1 = cc in omega arith

-- What holds for both kinds of the table holds for the kind of any tag.
pub by_kind : (P : Kind → Type 0) → P exact_kind → P ceiling_kind → (tag : ℕ) (kind : Kind) → kind_by_tag tag ≡ Some kind → P kind
by_kind P exact with_ceiling tag kind e =
    ⊎_elim (λ h. subst P (sym h.1) exact) (λ h. subst P (sym h.1) with_ceiling) (kind_cases tag kind e)

-- The two entries of the table.
pub kind_exact : kind_by_tag exact_tag ≡ Some exact_kind
unfolding kind_by_tag
kind_exact = refl

pub kind_ceiling : kind_by_tag ceiling_tag ≡ Some ceiling_kind
unfolding kind_by_tag
kind_ceiling = refl

-- A value of any kind has 10 to 12 bytes.
pub kind_length_le : (tag : ℕ) (kind : Kind) → kind_by_tag tag ≡ Some kind → (value_length exact_kind ≤ value_length kind) × (value_length kind ≤ value_length ceiling_kind)
kind_length_le =
    by_kind (λ (kind : Kind). (value_length exact_kind ≤ value_length kind) × (value_length kind ≤ value_length ceiling_kind)) (omega arith, omega arith) (omega arith, omega arith)

-- A number that fits the ceiling of any kind fits the ceiling of a silence in range.
pub kind_ceiling_lt : (tag : ℕ) (kind : Kind) → kind_by_tag tag ≡ Some kind → (n : ℕ) → n < 256 ^ kind.ceiling_bytes → n < 256 ^ ceiling_bytes
kind_ceiling_lt = by_kind (λ (kind : Kind). (n : ℕ) → n < 256 ^ kind.ceiling_bytes → n < 256 ^ ceiling_bytes) (λ n lt. omega arith) (λ n lt. lt)

-- The field at `at` passes the three tests for this kind: it is the kind of its tag, its length bytes say the kind's length, and it ends within the book.
pub record IsTested (book : List ℕ) (at : ℕ) (kind : Kind) : Type 0 where
  pub kind_is : kind_by_tag (get_or book at 0) ≡ Some kind
  pub long_is : length_at book at ≡ value_length kind
  pub within : field_end at (value_length kind) ≤ length book

-- A field that passes the tests for some kind, with the silence of its value and its end just past the value.
pub record IsWholeField (book : List ℕ) (at : ℕ) (s : Silence) (next : ℕ) : Type 0 where
  pub kind : Kind
  pub tested : IsTested book at kind
  pub silence_is : s ≡ silence_at kind book (at + head_length)
  pub next_is : next ≡ field_end at (value_length kind)

module _ (book : List ℕ) (at : ℕ) where
  -- the field of a kind, where the tests pass
  abbrev here_by : Kind → FieldAt
  here_by kind = whole (silence_at kind book (at + head_length)) (field_end at (value_length kind))

  -- the last two tests pass exactly when the two facts hold
  whole_iff : (kind : Kind)
      → (is_whole book at (value_length kind) ≡ true) ↔ ((length_at book at ≡ value_length kind) × (field_end at (value_length kind) ≤ length book))
  unfolding is_whole
  whole_iff kind = and_iff (eq_iff (length_at book at) (value_length kind)) (le_iff (field_end at (value_length kind)) (length book))

  -- A whole field passes the three tests for some kind, its silence is the one of its value, and it ends just past its value.
  pub field_whole_is : (s : Silence) (next : ℕ) → field_at book at ≡ whole s next → IsWholeField book at s next
  unfolding field_at field_by
  field_whole_is s next = go (kind_by_tag (get_or book at 0)) refl
    where
      go : (o : Option Kind) → kind_by_tag (get_or book at 0) ≡ o → field_by o book at ≡ whole s next → IsWholeField book at s next
      go None k e = absurd (faulty_not_whole e)
      go (Some kind) k e =
          by_test (λ (f : FieldAt). f ≡ whole s next → IsWholeField book at s next) (is_whole book at (value_length kind))
          (λ t is.
          let facts = (whole_iff kind).0 t in
          record {
            kind = kind;
            tested = record { kind_is = k; long_is = facts.0; within = facts.1 };
            silence_is = sym (whole_silence_unique is);
            next_is = sym (whole_next_unique is);
          })
          (λ t is. absurd (faulty_not_whole is))
          e

  -- A whole field ends after it begins, and within the book. So a walk from field to field advances, and past the last byte no field stands.
  pub field_ends : (s : Silence) (next : ℕ) → field_at book at ≡ whole s next → (at < next) × (next ≤ length book)
  field_ends s next e =
      let f : IsWholeField book at s next = field_whole_is s next e in
      (omega (arith, f.next_is), omega (arith, f.next_is, f.tested.within))

  -- If the three tests pass for a kind, the field is whole, with the silence of its value and its end just past the value.
  pub field_is_whole : {s : Silence} {next : ℕ} (kind : Kind) → IsTested book at kind → s ≡ silence_at kind book (at + head_length)
      → next ≡ field_end at (value_length kind) → field_at book at ≡ whole s next
  unfolding field_at field_by
  field_is_whole kind t is_silence is_next =
      ap (λ (o : Option Kind). field_by o book at) t.kind_is
      ∙ ap (λ (b : Bool). cond b (here_by kind) faulty) ((whole_iff kind).1 (t.long_is, t.within))
      ∙ ap₂ whole (sym is_silence) (sym is_next)

  -- If the three tests pass for no kind, the field is faulty.
  pub field_is_faulty : ((kind : Kind) → IsTested book at kind → ⊥) → field_at book at ≡ faulty
  field_is_faulty fails = go (field_at book at) refl
    where
      go : (f : FieldAt) → field_at book at ≡ f → f ≡ faulty
      go faulty e = refl
      go (whole s next) e = let f : IsWholeField book at s next = field_whole_is s next e in absurd (fails f.kind f.tested)

  -- the number in the two length bytes
  length_is : length_at book at ≡ get_or book (at + 1) 0 * 256 + get_or book (at + 2) 0
  unfolding number_at
  length_is =
      let first : at + 1 + 0 ≡ at + 1 = omega arith in
      let second : at + 1 + 1 ≡ at + 2 = omega arith in
      rw (first, second) (omega arith)

  -- the bytes at the beginning of a field, one by one
  begins_are : {beginning : List ℕ} {long : ℕ} → BeginsField beginning long book at → (i : ℕ) → i < head_length → get_or book (at + i) 0 ≡ get_or beginning i 0
  begins_are f i h = sym (get_or-drop at book i 0) ∙ sym (get_or-take head_length (drop at book) i 0 h) ∙ ap (λ (l : List ℕ). get_or l i 0) f.begins

  -- a tag, a length below 256 and an end within the book: two bytes make such a length only with 00 first
  begins_iff : (tag long : ℕ) → long < 256
      → ((get_or book at 0 ≡ tag) × (length_at book at ≡ long) × (field_end at long ≤ length book)) ↔ BeginsField (tag ∷ 0x00 ∷ long ∷ []) (head_length + long) book at
  unfolding list_of
  begins_iff tag long lt = (
    λ t. let second : get_or book (at + 1) 0 ≡ 0x00 = omega (arith, length_is, t.1) in
        let third : get_or book (at + 2) 0 ≡ long = omega (arith, length_is, t.1) in
        record { begins = part_places book at head_length (omega (arith, t.2)) ∙ rw (add-zero at, t.0, second, third); not_cut = omega (arith, t.2) },
    λ f. (
      rw add-zero at (begins_are f 0 (omega arith)),
      omega (arith, length_is, begins_are f 1 (omega arith), begins_are f 2 (omega arith)),
      omega (arith, f.not_cut),
    ),
  )

  -- the field of one tag of the table
  begins_tested : (tag : ℕ) (kind : Kind) → kind_by_tag tag ≡ Some kind → BeginsField (tag ∷ 0x00 ∷ value_length kind ∷ []) (head_length + value_length kind) book at
      → IsTested book at kind
  begins_tested tag kind is f =
      let t = (begins_iff tag (value_length kind) (omega (arith, kind_length_le tag kind is))).1 f in
      record { kind_is = ap kind_by_tag t.0 ∙ is; long_is = t.1; within = t.2 }

  -- and the converse
  tested_begins : (tag : ℕ) (kind : Kind) → value_length kind < 256 → get_or book at 0 ≡ tag → IsTested book at kind
      → BeginsField (tag ∷ 0x00 ∷ value_length kind ∷ []) (head_length + value_length kind) book at
  tested_begins tag kind lt is t = (begins_iff tag (value_length kind) lt).0 (is, t.long_is, t.within)

  -- The three tests pass for some kind exactly where row 6 sees a field.
  pub tested_iff : ((kind : Kind) × IsTested book at kind) ↔ IsField book at
  tested_iff = (
    λ h. ⊎_elim
        (λ c. inl (tested_begins exact_tag exact_kind (omega arith) c.0 (subst (IsTested book at) c.1 h.1)))
        (λ c. inr (tested_begins ceiling_tag ceiling_kind (omega arith) c.0 (subst (IsTested book at) c.1 h.1)))
        (kind_cases (get_or book at 0) h.0 h.1.kind_is),
    ⊎_elim (λ f. (exact_kind, begins_tested exact_tag exact_kind kind_exact f)) (λ f. (ceiling_kind, begins_tested ceiling_tag ceiling_kind kind_ceiling f)),
  )

  -- `field_at` gives a whole field exactly where `IsField` holds.
  pub field_whole_iff : ((s : Silence) × (next : ℕ) × (field_at book at ≡ whole s next)) ↔ IsField book at
  field_whole_iff = (
    λ h. let f : IsWholeField book at h.0 h.1 = field_whole_is h.0 h.1 h.2 in tested_iff.0 (f.kind, f.tested),
    λ f. let t = tested_iff.1 f in (silence_at t.0 book (at + head_length), field_end at (value_length t.0), field_is_whole t.0 t.1 refl refl),
  )

  -- Row 6 for one field: it is faulty exactly where no whole "13 bytes beginning 21 00 0A hex" stand, and no 15 beginning 22 00 0C.
  pub field_faulty_iff : (field_at book at ≡ faulty) ↔ (IsField book at → ⊥)
  field_faulty_iff = (
    λ e f. let w = field_whole_iff.1 f in faulty_not_whole (sym e ∙ w.2),
    λ no. field_is_faulty (λ kind t. no (tested_iff.0 (kind, t))),
  )
