-- The loop of `read_fields`. Before the field at `at` the fields before it are read (`FieldsRead`) and counted. Where the loop stops, at a fault or at the
-- book's end, the walk so far is the whole walk (`reads_as_is`). Each field takes at least one byte (`field_ends`), so there are no more records than bytes.
use Prim.Native.Nat.{ℕ, ◌+◌, ◌≤◌, ◌<◌}
use mathlib.Core.Path.{◌≡◌, refl, sym, ap, subst, ◌∙◌}
use mathlib.Core.Bool.{Bool, true, false}
use mathlib.Core.List.{List, [], ◌∷◌, ◌++◌}
use Rattle.std.specs.Prelude.{Option, None, Some}
use native.Mathlib.Omega.{arith}
use lib.ListN.{length, length-append}
use Rattle.answers.specs.declared.refusals.Refusal.TheVariants.{Field, NotAbove}
use Rattle.answers.specs.Paper.{Answer, accepted, refused}
use Rattle.silences.specs.Silences.{Address, Silence, is_above}
use Rattle.silences.specs.Reading.{whole, faulty, field_at, read_from}
use Rattle.book.specs.Calls.{record_count}
use Rattle.silences.proofs.FieldTest.{field_ends}
use Rattle.silences.proofs.AscendingAfter.{last_after, last_after_end}
use Rattle.silences.proofs.FieldsRead.{FieldsRead, none_read, ReadsAs, read_all, stopped_faulty, stopped_order, read_more, reads_as_is}

-- The invariant: before the field at `at` there are `records` records, the last of them at the address `last`, and all are read.
pub record ReadSoFar (book : List ℕ) (at records : ℕ) (last : Option Address) : Type 0 where
  pub at_le : at ≤ length book
  pub records_le : records ≤ at
  pub silences : List Silence
  pub fields : FieldsRead book None 0 silences at
  pub records_is : records ≡ length silences
  pub last_is : last ≡ last_after None silences

-- The invariant holds before the first field.
pub read_start : (book : List ℕ) → ReadSoFar book 0 0 None
read_start book = record { at_le = omega arith; records_le = omega arith; silences = []; fields = none_read; records_is = refl; last_is = refl }

module _ {book : List ℕ} where
  -- what the walk gives where it stops is what reading gives
  stops_so : {a : Answer (List Silence)} → ReadsAs book None 0 a → record_count a ≡ record_count (read_from book None 0)
  stops_so w = ap record_count (sym (reads_as_is book w))

  module _ {at records : ℕ} {last : Option Address} (inv : ReadSoFar book at records last) where
    -- At the book's end the records counted are the answer.
    pub read_end : length book ≤ at → accepted records ≡ record_count (read_from book None 0)
    read_end done = ap accepted inv.records_is ∙ stops_so (read_all inv.fields done)

    -- At a faulty field, refusal 6 with its byte offset is the answer.
    pub read_faulty : faulty ≡ field_at book at → at < length book → refused (Field at) ≡ record_count (read_from book None 0)
    read_faulty is within = stops_so (stopped_faulty inv.fields within (sym is))

    module _ {s : Silence} {next : ℕ} (is : whole s next ≡ field_at book at) where
      -- `last` is the last record of the walk
      same_order : {t : Bool} → is_above last s.address ≡ t → is_above (last_after None inv.silences) s.address ≡ t
      same_order {t} e = subst (λ (l : Option Address). is_above l s.address ≡ t) inv.last_is e

      -- At a whole field whose record is not above the last, refusal 7 with its byte offset is the answer.
      pub read_not_above : is_above last s.address ≡ false → refused (NotAbove at) ≡ record_count (read_from book None 0)
      read_not_above not_above = stops_so (stopped_order inv.fields (sym is) (same_order not_above))

      -- Past a whole field whose record is above the last, with one record more counted, the invariant holds again.
      pub read_turn : is_above last s.address ≡ true → ReadSoFar book next (records + 1) (Some s.address)
      read_turn above =
          let ends : (at < next) × (next ≤ length book) = field_ends book at s next (sym is) in
          record {
            at_le = omega arith;
            records_le = omega (arith, inv.records_le);
            silences = inv.silences ++ s ∷ [];
            fields = read_more inv.fields (sym is) (same_order above);
            records_is = omega (arith, inv.records_is, length-append inv.silences (s ∷ []));
            last_is = sym (last_after_end None inv.silences s);
          }
