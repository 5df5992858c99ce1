-- The loops of `keep_whole` and `keep_parts`. Before turn r slots and kept words are as the ring's first r places make them. At the end they hold each code's occurrence vector.
use mathlib.Core.Path.{◌≡◌, refl, sym, ◌∙◌}
use mathlib.Core.Bool.{cond}
use mathlib.Core.List.{List}
use mathlib.Core.Logic.{dite}
use Prim.Native.Nat.{ℕ, ◌+◌, ◌*◌, ◌/◌, ◌%◌, ◌≤◌, ◌<◌}
use native.Mathlib.Decide.{dec_lt, ℕ_discrete}
use native.Mathlib.Omega.{arith}
use lib.ListN.{length, get_or, set, take, length-take}
use lib.Seq.{get_or-take}
use lib.Dec.{eqb}
use borrow.Author.Tests.{ne_eqb}
use Rattle.vectors.specs.Bits.{word_bits, word_count, is_set, put_word}
use Rattle.vectors.specs.ByValue.{vector_bits}
use Rattle.occurrences.specs.declared.table.EdgeVectors.{EdgeVectors}
use Rattle.occurrences.specs.EdgeVectors.{byte_codes, word_place, vector_at, OccurrenceTable}
use Rattle.occurrences.specs.Storing.{has_code, no_slot, no_slots, slot_of, counted_places, Occurrences, IsCleared}
use Rattle.occurrences.proofs.PlacesOfCode.{has_code_below, has_code_past}
use Rattle.occurrences.proofs.SlotOfPart.{slot_own}
use Rattle.occurrences.proofs.ArraysOfRing.{slots_of, kept_of, whole_of, kept_at_first, whole_at_first, slots_at_first, slots_for_one, kept_for_one, slots_for_parts, kept_for_parts}
use Rattle.occurrences.proofs.PlaceCounted.{whole_turn, kept_turn, slots_turn}
use Rattle.occurrences.proofs.VectorsRead.{no_code_bit, whole_bit, slot_there, parted_bit}

-- The first r numbers of a ring are edge codes.
abbrev pub CodesBelow : List ℕ → ℕ → Type 0
CodesBelow ring r = (q : ℕ) → q < r → get_or ring q 0 < byte_codes

-- If number r is an edge code too, so are the first r + 1.
codes_more : (ring : List ℕ) (r code : ℕ) → CodesBelow ring r → code ≡ get_or ring r 0 → code < byte_codes → CodesBelow ring (r + 1)
codes_more ring r code known is is_code q h = dite (ℕ_discrete q r) (λ here. rw (here, sym is) is_code) (λ other. known q (omega (arith, other)))

-- If a bit of each code's vector is set exactly when its place has the code, the vectors are the occurrence vectors.
table_of_bits : (ring : List ℕ) (table : EdgeVectors) (count : ℕ) → CodesBelow ring (counted_places ring)
    → ((code : ℕ) → code < byte_codes → (q : ℕ) → is_set (vector_at table code count) q ≡ has_code ring (counted_places ring) code q)
    → OccurrenceTable (take vector_bits ring) count table
table_of_bits ring table count codes bits =
    let n : ℕ = counted_places ring in
    let size : length (take vector_bits ring) ≡ n = simp length-take (omega arith) in
    record {
      each = λ code. dite (dec_lt code byte_codes)
          (λ is_code. record {
            each = λ q h. bits code is_code q ∙ (has_code_below ring n code q (omega arith) ∙ rw (get_or-take vector_bits ring q 0 (omega arith)) refl);
            rest = λ q h. bits code is_code q ∙ has_code_past ring n code q (omega arith);
          })
          (λ above. record {
            each = λ q h. no_code_bit table code count q (omega (arith, above))
                ∙ sym (rw (get_or-take vector_bits ring q 0 (omega arith)) (ne_eqb (get_or ring q 0) code (λ e. omega (arith, above, codes q (omega arith)))));
            rest = λ q h. no_code_bit table code count q (omega (arith, above));
          });
    }

-- Before turn r of `keep_whole`.
pub record WholeBelow (ring : List ℕ) (table : EdgeVectors) (r : ℕ) : Type 0 where
  pub turn_le : r ≤ length ring
  pub codes : CodesBelow ring r
  pub slots_are : table.slots ≡ no_slots
  pub kept_are : table.kept ≡ whole_of ring r

-- Before turn r of `keep_parts`.
pub record PartsBelow (ring : List ℕ) (table : EdgeVectors) (r : ℕ) : Type 0 where
  pub turn_le : r ≤ counted_places ring
  pub codes : CodesBelow ring r
  pub slots_are : table.slots ≡ slots_of ring r
  pub kept_are : table.kept ≡ kept_of ring r

module _ (ring : List ℕ) (table : EdgeVectors) where
  -- The invariant of `keep_whole` holds before the first turn.
  pub whole_start : IsCleared table → WholeBelow ring table 0
  whole_start is =
      record { turn_le = omega arith; codes = λ q h. absurd (omega arith); slots_are = is.slots_are; kept_are = is.kept_are ∙ whole_at_first ring }

  -- The invariant of `keep_parts` holds before the first turn.
  pub parts_start : IsCleared table → PartsBelow ring table 0
  parts_start is = record {
    turn_le = omega arith;
    codes = λ q h. absurd (omega arith);
    slots_are = is.slots_are ∙ slots_at_first ring;
    kept_are = is.kept_are ∙ kept_at_first ring;
  }

  -- Turn r puts bit r into the word of the code at place r.
  pub whole_turned : (r code : ℕ) → length ring ≤ word_bits → WholeBelow ring table r → r < length ring → code ≡ get_or ring r 0 → code < byte_codes
      → WholeBelow ring (record { slots = table.slots; kept = set table.kept code (put_word (get_or table.kept code 0) r 1) }) (r + 1)
  whole_turned r code most known h is is_code = record {
    turn_le = omega arith;
    codes = codes_more ring r code known.codes is is_code;
    slots_are = known.slots_are;
    kept_are = rw known.kept_are (whole_turn ring r code (omega arith) (sym is) (omega arith));
  }

  -- At the end each code has its occurrence vector, of one word.
  pub whole_end : (r : ℕ) → length ring ≤ word_bits → WholeBelow ring table r → length ring ≤ r → Occurrences ring table
  whole_end r most known h =
      let n : ℕ = counted_places ring in
      let all : r ≡ n = omega (arith, known.turn_le) in
      let kept_all : table.kept ≡ whole_of ring n = rw (sym all) known.kept_are in
      record {
        each = table_of_bits ring table (word_count (length ring)) (λ q l. known.codes q (omega arith))
            (λ code is_code. whole_bit ring n (omega arith) table code is_code (omega arith) kept_all (word_count (length ring)) (omega arith));
        slots_are = known.slots_are ∙ slots_for_one ring most;
        kept_are = kept_all ∙ kept_for_one ring most;
      }

  -- Turn r makes r the slot of its part and code if they have none, and puts bit r mod 64 into the word that the slot leads to.
  pub parts_turned : (r code at slot word : ℕ) → PartsBelow ring table r → r < length ring → r < vector_bits
      → code ≡ get_or ring r 0 → code < byte_codes → at ≡ code + r / word_bits * byte_codes
      → slot ≡ cond (eqb (get_or table.slots at 0) (no_slot (r / word_bits))) r (get_or table.slots at 0) → word ≡ word_place (r / word_bits) slot
      → PartsBelow ring (record { slots = set table.slots at slot; kept = set table.kept word (put_word (get_or table.kept word 0) (r % word_bits) 1) }) (r + 1)
  parts_turned r code at slot word known h counts is is_code there slot_is word_is =
      let w : ℕ = r / word_bits in
      let old : get_or table.slots at 0 ≡ slot_of ring r w code =
      slot_there ring r (omega arith) table code is_code known.slots_are w at (omega arith) there in
      let new : slot ≡ slot_of ring (r + 1) w code = slot_is ∙ rw old (sym (slot_own ring r w code refl (sym is) (omega arith))) in
      record {
        turn_le = omega arith;
        codes = codes_more ring r code known.codes is is_code;
        slots_are = rw known.slots_are (slots_turn ring r w code refl (sym is) (omega arith) is_code at slot there new);
        kept_are = rw known.kept_are (kept_turn ring r w code refl (sym is) (omega arith) word (word_is ∙ rw new refl));
      }

  -- At the end each code has its occurrence vector, of several words.
  pub parts_end : (r : ℕ) → word_bits < length ring → PartsBelow ring table r → counted_places ring ≤ r → Occurrences ring table
  parts_end r many known h =
      let n : ℕ = counted_places ring in
      let all : r ≡ n = omega (arith, known.turn_le) in
      let slots_all : table.slots ≡ slots_of ring n = rw (sym all) known.slots_are in
      let kept_all : table.kept ≡ kept_of ring n = rw (sym all) known.kept_are in
      record {
        each = table_of_bits ring table (word_count (length ring)) (λ q l. known.codes q (omega arith))
            (λ code is_code. parted_bit ring n (omega arith) table code is_code slots_all kept_all (word_count (length ring)) (omega arith));
        slots_are = slots_all ∙ slots_for_parts ring many;
        kept_are = kept_all ∙ kept_for_parts ring many;
      }
