-- The book's part of the loop's invariant. One step of seeking at the field that the loop holds gives, for each start that is still to come, what seeking from the
-- book's first byte would give. That is so of the book's first field, because seeking begins there. It stays so after a finding, because starts rise. If the
-- book is accepted, the field that the step gives hides the finding exactly when the book does.
use Prim.Native.Nat.{ℕ, ◌≤◌}
use mathlib.Core.Path.{◌≡◌, refl, sym, ap, ◌∙◌}
use mathlib.Core.List.{List}
use Rattle.std.specs.Prelude.{Option, None}
use native.Mathlib.Omega.{arith}
use Rattle.meaning.specs.Findings.{Finding}
use Rattle.silences.specs.declared.addresses.Field.{Field}
use Rattle.silences.specs.Silences.{address}
use Rattle.silences.specs.Reading.{FieldAt, field_at, silences_read, book_refusal}
use Rattle.silences.specs.Addresses.{sought_of}
use Rattle.silences.proofs.BookRows.{book_accepted_iff}
use Rattle.silences.proofs.StrictOrder.{start_not_below}
use Rattle.book.specs.Seeking.{seek_field, seek_from}
use Rattle.book.proofs.SeekFrom.{seek_from_step}
use Rattle.book.proofs.SeekRising.{HeldField, seeking_turn, seeking_hides}
use Rattle.outlines.specs.Report.{is_hidden}
use Rattle.outlines.specs.Hiding.{finding_address, held_for, hides_finding}

-- One step of seeking at the field gives, for every start from i on, what seeking from the first byte would give.
pub record HeldFrom (cell ring_number : ℕ) (book : List ℕ) (i : ℕ) (held : Option Field) : Type 0 where
  pub step_is : (start : ℕ) → i ≤ start
      → seek_field (address cell ring_number start) (sought_of held) (seek_from book (address cell ring_number start)) ≡ seek_from book (address cell ring_number start) 0

module _ {cell ring_number : ℕ} {book : List ℕ} where
  -- The book's first field can be held at every i.
  pub held_start : (i : ℕ) {held : Option Field} → sought_of held ≡ field_at book 0 → HeldFrom cell ring_number book i held
  held_start i first = record {
    step_is = λ start l.
        let a = address cell ring_number start in
        ap (λ (f : FieldAt). seek_field a f (seek_from book a)) first ∙ sym (seek_from_step book a 0);
  }

  module _ {i : ℕ} {held : Option Field} (h : HeldFrom cell ring_number book i held) where
    -- A field that can be held at i can be held at every later i'.
    pub held_later : {i' : ℕ} → i ≤ i' → HeldFrom cell ring_number book i' held
    held_later l = record { step_is = λ start from. h.step_is start (omega arith) }

    module _ (f : Finding) (from_le : i ≤ f.start) where
      -- the field for the finding is what seeking from the first byte would give
      held_next : HeldField book (finding_address cell ring_number f) (held_for cell ring_number book f (sought_of held))
      held_next = record { held_is = h.step_is f.start from_le }

      -- The field for a finding that starts at i or later can be held at every i' from its start on.
      pub held_turn : {held' : Option Field} {i' : ℕ} → sought_of held' ≡ held_for cell ring_number book f (sought_of held) → f.start ≤ i'
          → HeldFrom cell ring_number book i' held'
      held_turn is l = record {
        step_is = λ start from.
            let a = finding_address cell ring_number f in
            let b = address cell ring_number start in
            ap (λ (g : FieldAt). seek_field b g (seek_from book b)) is
            ∙ (seeking_turn book a b (start_not_below a b refl refl (omega arith)) (held_for cell ring_number book f (sought_of held)) held_next).held_is;
      }

      -- If the book is accepted, the field for the finding hides it exactly when the book does.
      pub held_hides : book_refusal book ≡ None → hides_finding cell ring_number book f (sought_of held) ≡ is_hidden (silences_read book) cell ring_number f
      held_hides read =
          seeking_hides book (silences_read book) (finding_address cell ring_number f) f.distance (held_for cell ring_number book f (sought_of held))
          ((book_accepted_iff book (silences_read book)).1 (read, refl)) held_next
