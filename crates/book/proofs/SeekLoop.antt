-- The loop of `seek`. Before the field at `at`, seeking from `at` on finds what seeking from `from` on finds, because each field passed is below the address.
use Prim.Native.Nat.{ℕ}
use mathlib.Core.Path.{◌≡◌, refl, sym, ◌∙◌}
use mathlib.Core.Bool.{true, false}
use mathlib.Core.List.{List}
use Rattle.silences.specs.Silences.{Address, Silence, is_below}
use Rattle.silences.specs.Reading.{whole, faulty, field_at}
use Rattle.book.specs.Seeking.{seek_from}
use Rattle.book.proofs.SeekFrom.{seek_from_faulty, seek_from_below, seek_from_found}

-- The invariant: seeking from `from` on finds what seeking from `at` on finds.
pub record SeekSoFar (book : List ℕ) (from : ℕ) (address : Address) (at : ℕ) : Type 0 where
  pub same : seek_from book address from ≡ seek_from book address at

-- The invariant holds before the first field.
pub seek_start : (book : List ℕ) (from : ℕ) (address : Address) → SeekSoFar book from address from
seek_start book from address = record { same = refl }

module _ {book : List ℕ} {from : ℕ} {address : Address} {at : ℕ} (inv : SeekSoFar book from address at) where
  -- At a faulty field, seeking from `from` on finds nothing.
  pub seek_nothing : faulty ≡ field_at book at → faulty ≡ seek_from book address from
  seek_nothing is = sym (inv.same ∙ seek_from_faulty book address at (sym is))

  module _ {s : Silence} {next : ℕ} (is : whole s next ≡ field_at book at) where
    -- A field that is not below the address is what seeking from `from` on finds.
    pub seek_end : is_below s.address address ≡ false → whole s next ≡ seek_from book address from
    seek_end above = sym (inv.same ∙ seek_from_found book address at (sym is) above)

    -- Past a field below the address the invariant holds again.
    pub seek_turn : is_below s.address address ≡ true → SeekSoFar book from address next
    seek_turn below = record { same = inv.same ∙ seek_from_below book address at (sym is) below }
