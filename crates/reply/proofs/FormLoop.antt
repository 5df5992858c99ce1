-- The loop that puts a line by its form. Before each turn the form's bytes from `done` on are still to be put, with the numbers that are left. A turn puts the next
-- number where a `#` stands, and the byte itself elsewhere: the two equations of `filled`.
--
--   form, numbers, first    the form, its numbers, and the writer at the start
--   done, rest, now         how many bytes of the form are put, the numbers that are left, and the writer now
use Prim.Native.Nat.{ℕ, ◌+◌, ◌≤◌, ◌<◌}
use Rattle.std.specs.Prelude.{Option, None, Some}
use Rattle.std.specs.declared.slice.Iter.{Iter}
use Rattle.std.specs.Borrow.{Bor}
use Rattle.std.specs.Option.{unwrap_or, option_copied}
use Rattle.std.specs.Slice.Iter.{iter_steps}
use mathlib.Core.Path.{◌≡◌, refl, sym, ap, ◌∙◌}
use mathlib.Core.List.{List, [], ◌∷◌}
use native.Mathlib.Numerals.{add-one}
use native.Mathlib.Omega.{arith}
use lib.ListN.{length, drop, get_or, drop_of_length-le, get_or-eq_default}
use lib.Seq.{drop-cons}
use borrow.Author.Tests.{eq-eqb, ne_eqb}
use Rattle.reply.specs.Decimal.{decimal}
use Rattle.reply.specs.declared.writer.Writer.{Writer}
use Rattle.reply.specs.Writing.{hole, filled, HasPut}
use Rattle.reply.proofs.PutLoop.{StillToPut, put_start, put_turn, put_end}

-- The next of the numbers that an iterator has left, and 0 where none is left; and what it has left then.
pub number_next : (before after : Iter ℕ) (number : Option (Bor ℕ)) → iter_steps before number after
    → (unwrap_or (option_copied number) 0 ≡ get_or before.rest.now 0 0) × (after.rest.now ≡ drop 1 before.rest.now)
number_next before after None steps =
    let none : length before.rest.now ≤ 0 = omega (arith, steps.0) in
    let few : length before.rest.now ≤ 1 = omega arith in
    let empty : before.rest.now ≡ [] = drop_of_length-le before.rest.now none in
    (sym (get_or-eq_default before.rest.now 0 none), ap (λ (i : Iter ℕ). i.rest.now) steps.1 ∙ empty ∙ sym (drop_of_length-le before.rest.now few))
number_next before after (Some x) steps = (rw steps refl, rw steps refl)

-- The loop's invariant.
pub record Filling (form numbers : List ℕ) (first : Writer) (done : ℕ) (rest : List ℕ) (now : Writer) : Type 0 where
  pub left : StillToPut (filled (drop done form) rest) (filled form numbers) first now

-- At the start the whole form is left.
pub form_start : {form numbers : List ℕ} {first : Writer} → Filling form numbers first 0 numbers first
form_start = record { left = put_start }

module _ {form numbers rest : List ℕ} {first now : Writer} {done : ℕ} (so_far : Filling form numbers first done rest now) where
  module _ {last : Writer} (more : done < length form) where
    -- A turn at a `#` puts the next number.
    pub form_number : {number : ℕ} → get_or form done 0 ≡ hole → number ≡ get_or rest 0 0 → HasPut (decimal number) now last
        → Filling form numbers first (done + 1) (drop 1 rest) last
    unfolding filled
    form_number {number} is_hole number_is number_put = record {
      left = put_turn so_far.left (rw (number_is, add-one done, drop-cons form done 0 more, eq-eqb (get_or form done 0) hole is_hole)) number_put;
    }

    -- A turn at any other byte puts that byte.
    pub form_byte : (get_or form done 0 ≡ hole → ⊥) → HasPut (get_or form done 0 ∷ []) now last → Filling form numbers first (done + 1) rest last
    unfolding filled
    form_byte other byte_put = record {
      left = put_turn so_far.left (rw (add-one done, drop-cons form done 0 more, ne_eqb (get_or form done 0) hole other)) byte_put;
    }

  -- At the end the whole form is put, with its numbers.
  pub form_end : length form ≤ done → HasPut (filled form numbers) first now
  unfolding filled
  form_end all = put_end so_far.left (rw (drop_of_length-le form all))
