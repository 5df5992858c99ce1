-- Seeking rising addresses. A caller holds the field found for the last address (`HeldField`). For the next address, which is not below the last, it keeps that
-- field or seeks on from just past it, and finds what seeking from the first byte would find, on any bytes (`seek_again`): a field that was passed for the last
-- address is below the next one too. So no field is read twice.
use Prim.Native.Nat.{ℕ}
use mathlib.Core.Path.{◌≡◌, refl, sym, ap, ◌∙◌}
use mathlib.Core.Bool.{Bool, true, false}
use mathlib.Core.List.{List}
use Rattle.answers.specs.Paper.{accepted}
use Rattle.silences.specs.Silences.{Address, Silence, is_below, Below, hides}
use Rattle.silences.specs.Reading.{FieldAt, whole, faulty, field_at, read_book}
use Rattle.book.specs.Seeking.{seek_field, seek_from, is_hiding}
use Rattle.silences.proofs.SilenceOrder.{is_below_iff}
use Rattle.silences.proofs.StrictOrder.{below_not_below}
use Rattle.silences.proofs.FieldInduction.{field_induction}
use Rattle.book.proofs.SeekFrom.{seek_from_step, seek_from_faulty, seek_from_below, seek_from_found}
use Rattle.book.proofs.SeekHides.{seek_hides}

module _ (book : List ℕ) where
  -- a step for b at the field found for a gives what seeking b gives, if b is not below a
  seek_again : (a b : Address) → (Below b a → ⊥) → (at : ℕ) → seek_field b (seek_from book a at) (seek_from book b) ≡ seek_from book b at
  seek_again a b not_below = field_induction book (λ (at : ℕ). seek_field b (seek_from book a at) (seek_from book b) ≡ seek_from book b at) turn
    where
      held : FieldAt → FieldAt
      held f = seek_field b f (seek_from book b)

      turn : (at : ℕ) → ((s : Silence) (next : ℕ) → field_at book at ≡ whole s next → held (seek_from book a next) ≡ seek_from book b next)
          → held (seek_from book a at) ≡ seek_from book b at
      turn at on = by_field (field_at book at) refl
        where
          -- passed for a: it is below b too, and is passed; not passed: it is held, and tested for b as any field is
          by_order : (s : Silence) (next : ℕ) → field_at book at ≡ whole s next → (t : Bool) → is_below s.address a ≡ t → held (seek_from book a at) ≡ seek_from book b at
          by_order s next e true p =
              let below : is_below s.address b ≡ true = (is_below_iff s.address b).1 (below_not_below s.address a b ((is_below_iff s.address a).0 p) not_below) in
              ap held (seek_from_below book a at e p) ∙ on s next e ∙ sym (seek_from_below book b at e below)
          by_order s next e false p = ap held (seek_from_found book a at e p) ∙ sym (seek_from_step book b at ∙ ap held e)

          by_field : (f : FieldAt) → field_at book at ≡ f → held (seek_from book a at) ≡ seek_from book b at
          by_field faulty e = ap held (seek_from_faulty book a at e) ∙ sym (seek_from_faulty book b at e)
          by_field (whole s next) e = by_order s next e (is_below s.address a) refl

-- The caller holds what seeking the address `asked` from the first byte on finds.
pub record HeldField (book : List ℕ) (asked : Address) (held : FieldAt) : Type 0 where
  pub held_is : held ≡ seek_from book asked 0

module _ (book : List ℕ) where
  -- If b is not below a, a step for b at the field held for a gives the field to hold for b.
  pub seeking_turn : (a b : Address) → (Below b a → ⊥) → (held : FieldAt) → HeldField book a held → HeldField book b (seek_field b held (seek_from book b))
  seeking_turn a b not_below held was =
      record { held_is = ap (λ (f : FieldAt). seek_field b f (seek_from book b)) was.held_is ∙ seek_again book a b not_below 0 }

  -- In an accepted book, the field held for an address hides there at a distance exactly when the book does.
  pub seeking_hides : (ss : List Silence) (a : Address) (distance : ℕ) (held : FieldAt) → read_book book ≡ accepted ss → HeldField book a held
      → is_hiding a distance held ≡ hides ss a distance
  seeking_hides ss a distance held e now_held = ap (is_hiding a distance) now_held.held_is ∙ seek_hides book ss a distance e
