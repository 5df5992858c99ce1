-- In an accepted book, what seeking a finding's address from the first byte on finds hides the finding exactly when the book does (`seek_iff`). Field by field:
-- a silence below the address does not have it. The first that is not below decides, because all after it are above the address.
use Prim.Native.Nat.{ℕ, ◌≤◌}
use mathlib.Core.Logic.{◌↔◌}
use mathlib.Core.Path.{◌≡◌, refl, sym, ap, ◌∙◌}
use mathlib.Core.Bool.{Bool, true, false, cond, ◌||◌, or-false}
use mathlib.Core.List.{List, [], ◌∷◌}
use Rattle.std.specs.Prelude.{Option, Some}
use native.Mathlib.Omega.{arith}
use lib.ListN.{length}
use Rattle.answers.specs.Paper.{accepted}
use Rattle.silences.specs.Silences.{Address, address, Silence, is_below, Below, covers, hides, Hides}
use Rattle.silences.specs.Reading.{FieldAt, whole, faulty, field_at, read_book}
use Rattle.book.specs.Seeking.{seek_field, seek_from, is_hiding}
use Rattle.silences.proofs.SilenceOrder.{is_below_iff}
use Rattle.silences.proofs.StrictOrder.{not_below_iff, above_is_below, below_not_same, above_not_below}
use Rattle.silences.proofs.HidesIff.{covers_other, hides_iff}
use Rattle.book.proofs.SeekFrom.{seek_from_step, seek_from_faulty}
use Rattle.silences.proofs.FieldTest.{field_is_faulty}
use Rattle.silences.proofs.AscendingAfter.{AscendingAfter}
use Rattle.silences.proofs.FieldsRead.{FieldsRead, none_read, one_read}
use Rattle.silences.proofs.LayoutRead.{read_ascends}
use Rattle.silences.proofs.AcceptedIsBook.{IsReadWhole, accepted_whole_iff}

-- past the book's end no field stands
field_past : (book : List ℕ) (at : ℕ) → length book ≤ at → field_at book at ≡ faulty
field_past book at h = field_is_faulty book at (λ kind t. omega (arith, t.within))

module _ (a : Address) (distance : ℕ) where
  -- one that is below the address is passed
  hides_passed : (s : Silence) (ss : List Silence) → Below s.address a → hides (s ∷ ss) a distance ≡ hides ss a distance
  unfolding hides
  hides_passed s ss h = ap (λ (t : Bool). t || hides ss a distance) (covers_other s a distance (below_not_same s.address a h).0)

  -- those after one that is not below the address do not hide it
  hides_after : (s : Silence) (ss : List Silence) → AscendingAfter (Some s.address) ss → (Below s.address a → ⊥) → hides ss a distance ≡ false
  unfolding hides
  hides_after s [] ascends not_below = refl
  hides_after s (t ∷ ss) ascends not_below =
      let above : Below a t.address = above_not_below s.address t.address a ((is_below_iff s.address t.address).0 ascends.0) not_below in
      ap (λ (b : Bool). b || hides ss a distance) (covers_other t a distance (below_not_same a t.address above).1)
      ∙ hides_after t ss ascends.1 ((not_below_iff t.address a).0 (above_is_below t.address a above))

  -- the first that is not below the address decides
  hides_first : (s : Silence) (ss : List Silence) → AscendingAfter (Some s.address) ss → is_below s.address a ≡ false
      → covers s a distance ≡ hides (s ∷ ss) a distance
  unfolding hides
  hides_first s ss ascends h =
      sym (ap (λ (t : Bool). covers s a distance || t) (hides_after s ss ascends ((not_below_iff s.address a).0 h)) ∙ or-false (covers s a distance))

  module _ (book : List ℕ) where
    -- seeking from `at` on, given the field there
    seek_at : (at : ℕ) (f : FieldAt) → field_at book at ≡ f → seek_from book a at ≡ seek_field a f (seek_from book a)
    seek_at at f e = seek_from_step book a at ∙ ap (λ (g : FieldAt). seek_field a g (seek_from book a)) e

    -- if the book's fields from `at` on are read to its end, what seeking finds hides exactly when they do
    seek_read : {last : Option Address} {at : ℕ} {ss : List Silence} {stop : ℕ} → FieldsRead book last at ss stop → length book ≤ stop
        → is_hiding a distance (seek_from book a at) ≡ hides ss a distance
    unfolding hides
    seek_read (none_read {at = at}) h = ap (is_hiding a distance) (seek_from_faulty book a at (field_past book at h))
    seek_read (one_read {at = at} {s = s} {next = next} {ss = ss} e above more) h =
        ap (is_hiding a distance) (seek_at at (whole s next) e) ∙ by_order (is_below s.address a) refl (seek_read more h)
      where
        by_order : (t : Bool) → is_below s.address a ≡ t → is_hiding a distance (seek_from book a next) ≡ hides ss a distance
            → is_hiding a distance (cond t (seek_from book a next) (whole s next)) ≡ hides (s ∷ ss) a distance
        by_order true b on = on ∙ sym (hides_passed s ss ((is_below_iff s.address a).0 b))
        by_order false b on = hides_first s ss (read_ascends more) b

-- In an accepted book, from the first byte on: what seeking an address finds hides at a distance exactly when the book does.
pub seek_hides : (book : List ℕ) (ss : List Silence) (a : Address) (distance : ℕ) → read_book book ≡ accepted ss
    → is_hiding a distance (seek_from book a 0) ≡ hides ss a distance
seek_hides book ss a distance e =
    let w : IsReadWhole ss book = (accepted_whole_iff book ss).0 e in
    seek_read a distance book w.fields w.stop_ge

-- In an accepted book, what seeking finds from the first byte on hides a finding exactly when some silence of the book has its cell, ring number and start, and
-- its distance is at most the ceiling of that silence.
pub seek_iff : (book : List ℕ) (ss : List Silence) (cell ring_number start distance : ℕ) → read_book book ≡ accepted ss
    → (is_hiding (address cell ring_number start) distance (seek_from book (address cell ring_number start) 0) ≡ true) ↔ Hides ss cell ring_number start distance
seek_iff book ss cell ring_number start distance e =
    rw (seek_hides book ss (address cell ring_number start) distance e) (hides_iff cell ring_number start distance ss)

-- In the empty book nothing is found, from any offset.
pub empty_seek : (a : Address) (at : ℕ) → seek_from [] a at ≡ faulty
empty_seek a at = seek_from_faulty [] a at (field_past [] at (omega arith))
