-- The two equations of `read_from`: at the book's end nothing is read (`read_from_end`); before it one field, and then the rest (`read_from_step`). The count of
-- bytes left never runs out before the end (`count_step`), so nothing after this file uses it. Then an equation for each case of the field: faulty, not above
-- the last, above it. And two for a whole book: row 5 comes before all others.
use Prim.Native.Nat.{ℕ, zero, suc, ◌-◌, ◌≤◌, ◌<◌}
use mathlib.Core.Path.{◌≡◌, refl, ◌∙◌}
use mathlib.Core.Bool.{Bool, true, false, cond}
use mathlib.Core.List.{List, [], ◌∷◌}
use Rattle.std.specs.Prelude.{Option, None, Some}
use native.Mathlib.Omega.{arith}
use lib.Dec.{leb}
use lib.ListN.{length}
use borrow.Author.Tests.{lt-ltb, le-ltb, le-leb, lt-leb}
use Rattle.answers.specs.declared.refusals.Refusal.TheVariants.{BookLength, Field, NotAbove}
use Rattle.answers.specs.Paper.{Answer, accepted, refused}
use Rattle.answers.specs.Rows.{first_given, answer_by}
use Rattle.silences.specs.Silences.{Address, Silence, is_above}
use Rattle.silences.specs.Layout.{most_bytes}
use Rattle.silences.specs.Reading.{FieldAt, whole, faulty, field_at, before, read_field, fields_from, read_from, fault_in, silences_in, book_rows, read_book}
use Rattle.silences.proofs.FieldTest.{field_ends}
use Rattle.silences.proofs.FieldInduction.{GoesOnPast, count_step}

module _ (book : List ℕ) where
  -- one step of reading
  abbrev read_step : Option Address → ℕ → FieldAt → (Option Address → ℕ → Answer (List Silence)) → Answer (List Silence)
  read_step last at f rest =
      let here : Answer (List Silence) = read_field last at f rest in
      cond (leb (length book) at) (accepted []) here

  -- reading goes on only past a whole field
  read_goes_on : GoesOnPast read_step
  read_goes_on last at faulty rest rest' h = refl
  read_goes_on last at (whole s next) rest rest' h = rw (h (Some s.address) s next refl)

  -- at the end nothing is read, whatever the count
  fields_end : (left : ℕ) (last : Option Address) (at : ℕ) → length book ≤ at → fields_from left book last at ≡ accepted []
  unfolding fields_from
  fields_end zero last at h = refl
  fields_end (suc left) last at h = rw (le-leb (length book) at h)

  module _ (last : Option Address) (at : ℕ) where
    -- At the book's end, and past it, nothing is read.
    pub read_from_end : length book ≤ at → read_from book last at ≡ accepted []
    unfolding read_from
    read_from_end h = fields_end (length book - at) last at h

    -- Before the book's end the field at `at` is read, and then the rest from just past it.
    pub read_from_step : at < length book → read_from book last at ≡ read_field last at (field_at book at) (read_from book)
    unfolding read_from fields_from
    read_from_step h =
        count_step book read_step (λ left l i. fields_from left book l i) read_goes_on (λ left l i. refl) fields_end last at
        ∙ rw (lt-leb (length book) at h)

    -- A faulty field is refused by row 6 at its byte offset.
    pub read_from_faulty : at < length book → field_at book at ≡ faulty → read_from book last at ≡ refused (Field at)
    read_from_faulty h e = read_from_step h ∙ rw e

    module _ {s : Silence} {next : ℕ} (e : field_at book at ≡ whole s next) where
      -- a whole field, by whether its record is above the last
      read_whole : (t : Bool) → is_above last s.address ≡ t → read_from book last at ≡ cond t (before s (read_from book (Some s.address) next)) (refused (NotAbove at))
      read_whole t above =
          let ends : (at < next) × (next ≤ length book) = field_ends book at s next e in
          read_from_step (omega arith) ∙ rw (e, above)

      -- A whole field whose record is not above the last is refused by row 7 at its byte offset.
      pub read_from_not_above : is_above last s.address ≡ false → read_from book last at ≡ refused (NotAbove at)
      read_from_not_above above = read_whole false above

      -- A whole field whose record is above the last gives its silence, and then the rest is read.
      pub read_from_above : is_above last s.address ≡ true → read_from book last at ≡ before s (read_from book (Some s.address) next)
      read_from_above above = read_whole true above

  -- A book longer than 15,000 bytes is refused by row 5.
  pub read_book_long : most_bytes < length book → read_book book ≡ refused BookLength
  unfolding read_book book_rows first_given
  read_book_long long = rw (lt-ltb most_bytes (length book) long)

  -- A book of at most 15,000 bytes is read field by field from its first byte.
  pub read_book_fields : length book ≤ most_bytes → read_book book ≡ read_from book None 0
  unfolding read_book book_rows first_given
  read_book_fields short = rw (le-ltb most_bytes (length book) short) (same (read_from book None 0))
    where
      same : (a : Answer (List Silence)) → answer_by (first_given (fault_in a ∷ [])) (silences_in a) ≡ a
      same (accepted ss) = refl
      same (refused r) = refl
