-- The two cases of `ask`: the finding is hidden or shown. For the finding's address, `seek_on` returns the field of `held_for`, and `hides` returns
-- `hides_finding`.
use Prim.Native.Nat.{ℕ, ◌+◌}
use mathlib.Core.Path.{◌≡◌, refl, ap, ◌∙◌}
use mathlib.Core.Bool.{Bool, true, false, cond}
use mathlib.Core.List.{List}
use Rattle.std.specs.Prelude.{Option}
use Rattle.meaning.specs.Findings.{Finding}
use Rattle.silences.specs.declared.addresses.Address.{Address as AddressStruct}
use Rattle.silences.specs.declared.addresses.Field.{Field}
use Rattle.silences.specs.Addresses.{address_of, sought_of}
use Rattle.book.specs.Seeking.{is_hiding}
use Rattle.book.specs.Calls.{IsSoughtOn, IsHidingAsked}
use Rattle.outlines.specs.declared.asking.BookAsked.{BookAsked}
use Rattle.outlines.specs.Hiding.{finding_address, held_for, hides_finding, IsHiddenOrShown}

module _ {book : List ℕ} (asked : BookAsked) (cell ring_number : ℕ) (f : Finding) {address : AddressStruct} {held : Option Field} (sought : IsSoughtOn book asked.held address held)
    {t : Bool} (asked_for : IsHidingAsked held address f.distance t) (address_is : address_of address ≡ finding_address cell ring_number f) where
  -- the field sought is the field for the finding
  held_is : sought_of held ≡ held_for cell ring_number book f (sought_of asked.held)
  held_is = rw address_is at sought.is

  -- counting by the answer t of `hides` meets the contract of `ask`
  is_asked : {now_shown now_hidden : ℕ} → now_shown ≡ cond t asked.shown (asked.shown + 1) → now_hidden ≡ cond t (asked.hidden + 1) asked.hidden
      → IsHiddenOrShown cell ring_number book asked f (record { shown = now_shown; hidden = now_hidden; held = held })
  is_asked s h =
      let hides_is : t ≡ hides_finding cell ring_number book f (sought_of asked.held) = rw address_is at asked_for.is ∙ ap (is_hiding (finding_address cell ring_number f) f.distance) held_is in
      record {
        held_is = held_is;
        shown_is = s ∙ ap (λ (b : Bool). cond b asked.shown (asked.shown + 1)) hides_is;
        hidden_is = h ∙ ap (λ (b : Bool). cond b (asked.hidden + 1) asked.hidden) hides_is;
      }

  -- If the field hides the finding, counting it as hidden meets the contract of `ask`.
  pub ask_hidden : t ≡ true → IsHiddenOrShown cell ring_number book asked f (record { shown = asked.shown; hidden = asked.hidden + 1; held = held })
  ask_hidden e = is_asked (rw e refl) (rw e refl)

  -- If the field does not hide the finding, counting it as shown meets the contract of `ask`.
  pub ask_shown : t ≡ false → IsHiddenOrShown cell ring_number book asked f (record { shown = asked.shown + 1; hidden = asked.hidden; held = held })
  ask_shown e = is_asked (rw e refl) (rw e refl)
