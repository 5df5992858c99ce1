-- The kept words of a ring of several parts. The slot of a code in a part leads to the word of part and code: to a word that is kept for the slot's place, or, if the
-- part lacks the code, to the empty word (`kept_reads`).
use mathlib.Core.Path.{◌≡◌, refl, sym, ◌∙◌}
use mathlib.Core.List.{List}
use mathlib.Core.Logic.{dite}
use Prim.Native.Nat.{ℕ, ◌+◌, ◌-◌, ◌/◌, ◌≤◌, ◌<◌}
use native.Mathlib.Decide.{dec_lt}
use native.Mathlib.Omega.{arith}
use lib.ListN.{get_or}
use borrow.Author.Tests.{lt-ltb, le-ltb, eq-eqb, ne_eqb}
use Rattle.vectors.specs.Bits.{word_bits}
use Rattle.occurrences.specs.EdgeVectors.{last_part, empty_word, word_place}
use Rattle.occurrences.specs.Storing.{kept_count, no_slot, slot_of, part_word, kept_place, place_word, kept_word}
use Rattle.occurrences.proofs.LowestPlace.{one_passes, no_one_passes}
use Rattle.occurrences.proofs.PlacesOfCode.{has_code_is}
use Rattle.occurrences.proofs.SlotOfPart.{no_slot_early, no_slot_last, IsSlot, slot_is}
use Rattle.occurrences.proofs.WordOfPart.{part_none}

-- In every part but the last the word is kept at its slot.
pub word_place_early : (w slot : ℕ) → w < last_part → word_place w slot ≡ slot
unfolding word_place
word_place_early w slot h = rw (lt-ltb w last_part h) refl

-- In the last part it is kept one further on.
pub word_place_last : (w slot : ℕ) → last_part ≤ w → word_place w slot ≡ slot + 1
unfolding word_place
word_place_last w slot h = rw (le-ltb w last_part h) refl

-- The slot of a code that a part lacks leads to the empty word.
no_slot_empty : (w : ℕ) → word_place w (no_slot w) ≡ empty_word
no_slot_empty w = dite (dec_lt w last_part)
    (λ early. word_place_early w (no_slot w) early ∙ no_slot_early w early)
    (λ last. word_place_last w (no_slot w) (omega (arith, last)) ∙ no_slot_last w (omega (arith, last)))

-- For a place p of part w.
module _ (p w : ℕ) (part : p / word_bits ≡ w) (most : w ≤ last_part) where
  -- Its word does not stand at the empty word's place.
  word_place_not_empty : word_place w p ≡ empty_word → ⊥
  word_place_not_empty e = dite (dec_lt w last_part)
      (λ early. omega (arith, word_place_early w p early))
      (λ last. omega (arith, word_place_last w p (omega (arith, last))))

  -- The place whose word is kept there is p.
  word_place_back : kept_place (word_place w p) ≡ p
  unfolding kept_place
  word_place_back = dite (dec_lt w last_part)
      (λ early. rw (word_place_early w p early, lt-ltb p empty_word (omega arith)) refl)
      (λ last. rw (word_place_last w p (omega (arith, last)), le-ltb (p + 1) empty_word (omega (arith, last))) (omega arith))

  -- Its word's place is below `kept_count`.
  pub word_place_lt : word_place w p < kept_count
  word_place_lt = dite (dec_lt w last_part)
      (λ early. omega (arith, word_place_early w p early))
      (λ last. omega (arith, word_place_last w p (omega (arith, last))))

-- For every i but the empty word's place: the word of ring place `kept_place i` is kept at i.
pub kept_place_at : (i : ℕ) → (i ≡ empty_word → ⊥) → word_place (kept_place i / word_bits) (kept_place i) ≡ i
unfolding kept_place
kept_place_at i some = dite (dec_lt i empty_word)
    (λ l. rw (lt-ltb i empty_word l) (word_place_early (i / word_bits) i (omega arith)))
    (λ l. rw (le-ltb i empty_word (omega (arith, l))) (word_place_last ((i - 1) / word_bits) (i - 1) (omega (arith, l, some)) ∙ omega (arith, l, some)))

module _ (ring : List ℕ) where
  -- The empty word is 0.
  pub kept_empty : (n : ℕ) → kept_word ring n empty_word ≡ 0
  unfolding kept_word
  kept_empty n = refl

  -- At any other i the kept word is that of ring place `kept_place i`.
  pub kept_other : (n i : ℕ) → (i ≡ empty_word → ⊥) → kept_word ring n i ≡ place_word ring n (kept_place i)
  unfolding kept_word
  kept_other n i some = rw (ne_eqb i empty_word some) refl

  -- The word of a place that is the slot of its own part and code is the word of part and code.
  place_word_slot : (n p w code : ℕ) → p / word_bits ≡ w → get_or ring p 0 ≡ code → slot_of ring n w code ≡ p → place_word ring n p ≡ part_word ring n w code
  unfolding place_word
  place_word_slot n p w code part edge is = rw (part, edge, eq-eqb (slot_of ring n w code) p is) refl

  -- The word of any other place is 0.
  pub place_word_none : (n p w code : ℕ) → p / word_bits ≡ w → get_or ring p 0 ≡ code → (slot_of ring n w code ≡ p → ⊥) → place_word ring n p ≡ 0
  unfolding place_word
  place_word_none n p w code part edge other = rw (part, edge, ne_eqb (slot_of ring n w code) p other) refl

  -- Where the word of place p of part w stands, the kept word is that of p.
  pub kept_at_place : (n p w : ℕ) → p / word_bits ≡ w → w ≤ last_part → kept_word ring n (word_place w p) ≡ place_word ring n p
  kept_at_place n p w part most = kept_other n (word_place w p) (word_place_not_empty p w part most) ∙ rw (word_place_back p w part most) refl

  -- The slot of a code in part w leads to the word of part and code.
  pub kept_reads : (n w code : ℕ) → w ≤ last_part → kept_word ring n (word_place w (slot_of ring n w code)) ≡ part_word ring n w code
  kept_reads n w code most = go (slot_of ring n w code) refl (slot_is ring n w code)
    where
      go : (x : ℕ) → slot_of ring n w code ≡ x → IsSlot ring n w code x → kept_word ring n (word_place w x) ≡ part_word ring n w code
      go x is (one_passes from to has before) =
          kept_at_place n x w (omega arith) most ∙ place_word_slot n x w code (omega arith) (has_code_is ring n code x has).1 is
      go x is (no_one_passes none_is none) = rw (none_is, no_slot_empty w) (kept_empty n ∙ sym (part_none ring n w code none))

  -- There is room for the word that a slot leads to.
  pub word_place_slot_lt : (n w code : ℕ) → w ≤ last_part → word_place w (slot_of ring n w code) < kept_count
  word_place_slot_lt n w code most = go (slot_of ring n w code) (slot_is ring n w code)
    where
      go : (x : ℕ) → IsSlot ring n w code x → word_place w x < kept_count
      go x (one_passes from to has before) = word_place_lt x w (omega arith) most
      go x (no_one_passes is none) = rw (is, no_slot_empty w) (omega arith)
