-- The loop of `put_fields`. Before each turn the silences of the words left are still to be written. Their layout, written from `to` on into the area as it is
-- now, gives the whole layout written into the area as it was at the start. A turn writes the first of their fields (`written_at_append`).
--
--   words, area    the words, and the area as it was at the start
--   left, to, out  the words left, the byte offset to write next, the area now
use Prim.Native.Nat.{ℕ, ◌+◌, ◌≤◌, ◌<◌}
use mathlib.Core.Path.{◌≡◌, refl, sym, ap, subst, ◌∙◌}
use mathlib.Core.List.{List, ◌∷◌, ◌++◌}
use native.Mathlib.Omega.{arith}
use lib.ListN.{length, length-append}
use Rattle.lists.specs.Areas.{written, written_at}
use Rattle.lists.specs.Records.{numbers_of_each}
use Rattle.lists.proofs.Areas.{written_at_zero, written_at_none, written_at_append}
use Rattle.silences.specs.Silences.{Silence}
use Rattle.silences.specs.Layout.{field_of, layout}
use Rattle.silences.specs.Packing.{silences_of, silence_of_words, record_words}
use Rattle.silences.specs.Faults.{AllFit}
use Rattle.packing.specs.Putting.{AreBytesPut, CanPutField}
use Rattle.silences.proofs.FieldBytes.{packed_length_lem}
use Rattle.silences.proofs.WordsOfSilences.{silences_of_record, silences_of_few}

-- The loop's invariant. `size` is the number of words that the loop takes in a turn.
pub record PutFields (words area left : List ℕ) (size to : ℕ) (out : List ℕ) : Type 0 where
  pub size_is : size ≡ record_words
  pub length_is : length out ≡ length area
  pub all_fit : AllFit (silences_of left)
  pub room : to + length (layout (silences_of left)) ≤ length area
  pub whole_is : written_at to (layout (silences_of left)) out ≡ written (layout (silences_of words)) area

module _ {words area : List ℕ} where
  -- The invariant holds at the start: all fields are still to be written.
  pub fields_start : {left : List ℕ} {size : ℕ} → AllFit (silences_of words) → length (layout (silences_of words)) ≤ length area → left ≡ words → size ≡ record_words
      → PutFields words area left size 0 area
  fields_start fit h left_is size_is =
      rw left_is
      (record { size_is = size_is; length_is = refl; all_fit = fit; room = omega arith; whole_is = written_at_zero (layout (silences_of words)) area })

  module _ {left : List ℕ} {size to : ℕ} {out : List ℕ} (now : PutFields words area left size to out) where
    module _ (four rest : List ℕ) (left_is : left ≡ four ++ rest) (long : length four ≡ size) where
      -- the silences left are that of the four words and the others
      silences_are : silences_of left ≡ silence_of_words four ∷ silences_of rest
      silences_are = silences_of_record left four rest left_is (long ∙ now.size_is)

      -- so their layout is its field and then the layout of the others
      layout_is : layout (silences_of left) ≡ field_of (silence_of_words four) ++ layout (silences_of rest)
      unfolding numbers_of_each
      layout_is = ap layout silences_are

      -- The next field can be put: its numbers fit, and there is room.
      pub fields_can : CanPutField to four out
      fields_can =
          record {
            four = long ∙ now.size_is;
            fits = (subst AllFit silences_are now.all_fit).0;
            room =
                omega (
                  arith,
                  now.room,
                  now.length_is,
                  ap length layout_is,
                  packed_length_lem (silence_of_words four),
                  length-append (field_of (silence_of_words four)) (layout (silences_of rest)),
                );
          }

      -- The invariant holds again once the next field is written.
      pub fields_turn : {next size' : ℕ} {put : List ℕ} → size' ≡ size → length put ≡ length out → AreBytesPut to (field_of (silence_of_words four)) out next put
          → PutFields words area rest size' next put
      fields_turn {next} {size'} {put} same_size same is_put =
          let here : List ℕ = field_of (silence_of_words four) in
          let others : List ℕ = layout (silences_of rest) in
          let split : length (here ++ others) ≡ length here + length others = length-append here others in
          let here_room : to + length here ≤ length out = omega (arith, now.room, now.length_is, ap length layout_is) in
          record {
            size_is = same_size ∙ now.size_is;
            length_is = same ∙ now.length_is;
            all_fit = (subst AllFit silences_are now.all_fit).1;
            room = omega (arith, now.room, is_put.next_is, ap length layout_is);
            whole_is = (λ i. written_at (is_put.next_is i) others (is_put.area_is i))
                ∙ written_at_append to here others out here_room
                ∙ ap (λ (l : List ℕ). written_at to l out) (sym layout_is)
                ∙ now.whole_is;
          }

    -- When fewer than four words are left, the whole layout is written.
    pub fields_end : length left < size → out ≡ written (layout (silences_of words)) area
    unfolding numbers_of_each
    fields_end few =
        sym (written_at_none to out)
        ∙ ap (λ (ss : List Silence). written_at to (layout ss) out) (sym (silences_of_few left (omega (arith, few, now.size_is))))
        ∙ now.whole_is
