-- The equation of `seek_from`: one step at the field, and then on from just past it (`seek_from_step`). The count of bytes left never runs out while a whole
-- field stands (`count_step`), so nothing after this file uses it. Then an equation for each case of the field: faulty, below the address, or found.
use Prim.Native.Nat.{ℕ, zero, suc, ◌≤◌, ◌<◌}
use mathlib.Core.Path.{◌≡◌, refl, ap, ◌∙◌}
use mathlib.Core.Bool.{Bool, true, false, cond}
use mathlib.Core.List.{List}
use native.Mathlib.Omega.{arith}
use lib.ListN.{length}
use Rattle.silences.specs.Silences.{Address, Silence, is_below}
use Rattle.silences.specs.Reading.{FieldAt, whole, faulty, field_at}
use Rattle.book.specs.Seeking.{seek_field, seek_fields, seek_from}
use Rattle.silences.proofs.FieldTest.{field_ends}
use Rattle.silences.proofs.FieldInduction.{GoesOnPast, count_step}

-- one step of seeking
abbrev seek_step : Address → ℕ → FieldAt → (Address → ℕ → FieldAt) → FieldAt
seek_step address at f rest = seek_field address f (rest address)

-- seeking goes on only past a whole field
seek_goes_on : GoesOnPast seek_step
seek_goes_on address at faulty rest rest' h = refl
seek_goes_on address at (whole s next) rest rest' h = ap (λ (on : FieldAt). cond (is_below s.address address) on (whole s next)) (h address s next refl)

module _ (book : List ℕ) where
  -- with no byte left no whole field stands, and nothing is found
  seek_none : (left : ℕ) (address : Address) (at : ℕ) → length book ≤ at → seek_fields left book address at ≡ faulty
  unfolding seek_fields
  seek_none zero address at h = refl
  seek_none (suc left) address at h = by_field (field_at book at) refl
    where
      by_field : (f : FieldAt) → field_at book at ≡ f → seek_field address f (seek_fields left book address) ≡ faulty
      by_field faulty e = refl
      by_field (whole s next) e = absurd (let ends : (at < next) × (next ≤ length book) = field_ends book at s next e in omega arith)

module _ (book : List ℕ) (address : Address) (at : ℕ) where
  -- Seeking from `at` on is one step at the field there, and then on from just past it.
  pub seek_from_step : seek_from book address at ≡ seek_field address (field_at book at) (seek_from book address)
  unfolding seek_from seek_fields
  seek_from_step = count_step book seek_step (λ left a i. seek_fields left book a i) seek_goes_on (λ left a i. refl) (seek_none book) address at

  -- At a faulty field nothing is found.
  pub seek_from_faulty : field_at book at ≡ faulty → seek_from book address at ≡ faulty
  seek_from_faulty e = seek_from_step ∙ ap (λ (f : FieldAt). seek_field address f (seek_from book address)) e

  module _ {s : Silence} {next : ℕ} (e : field_at book at ≡ whole s next) where
    -- a whole field, by whether it is below the address
    seek_whole : (t : Bool) → is_below s.address address ≡ t → seek_from book address at ≡ cond t (seek_from book address next) (whole s next)
    seek_whole t b =
        seek_from_step
        ∙ ap (λ (f : FieldAt). seek_field address f (seek_from book address)) e
        ∙ ap (λ (u : Bool). cond u (seek_from book address next) (whole s next)) b

    -- A field that is below the address is passed.
    pub seek_from_below : is_below s.address address ≡ true → seek_from book address at ≡ seek_from book address next
    seek_from_below b = seek_whole true b

    -- A field that is not below the address is found.
    pub seek_from_found : is_below s.address address ≡ false → seek_from book address at ≡ whole s next
    seek_from_found b = seek_whole false b
