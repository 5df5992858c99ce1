-- What changes when place n of a ring is added to the places that count. One kept word changes, that of its own part and code: its bit is put in (`kept_turn`). One slot at most
-- changes, to n, if its part has lacked its code (`slots_turn`). In a ring of one part the word of its code changes (`whole_turn`).
use mathlib.Core.Path.{◌≡◌, refl, sym, ◌∙◌}
use mathlib.Core.Bool.{true≢false}
use mathlib.Core.List.{List}
use mathlib.Core.Logic.{dite}
use Prim.Native.Nat.{ℕ, ◌+◌, ◌*◌, ◌/◌, ◌%◌, ◌≤◌, ◌<◌}
use native.Mathlib.Decide.{ℕ_discrete}
use native.Mathlib.Omega.{arith}
use lib.ListN.{get_or, set}
use Rattle.lists.proofs.ByPlace.{list_of_at}
use Rattle.vectors.specs.Bits.{word_bits, put_word}
use Rattle.vectors.proofs.WordByWord.{vector_of_same, vector_of_set}
use Rattle.occurrences.specs.EdgeVectors.{byte_codes, last_part, empty_word, word_place}
use Rattle.occurrences.specs.Storing.{slot_count, kept_count, slot_of, part_word, kept_place, place_word, kept_word}
use Rattle.occurrences.proofs.LowestPlace.{one_passes, no_one_passes}
use Rattle.occurrences.proofs.PlacesOfCode.{has_code_new}
use Rattle.occurrences.proofs.SlotOfPart.{no_slot_outside, IsSlot, slot_is, slot_other, slot_kept, slot_new}
use Rattle.occurrences.proofs.WordOfPart.{part_none, part_other, part_own}
use Rattle.occurrences.proofs.KeptWords.{word_place_lt, kept_place_at, kept_empty, kept_other, place_word_none, kept_at_place, kept_reads}
use Rattle.occurrences.proofs.ArraysOfRing.{slots_of, kept_of, whole_of}

module _ (ring : List ℕ) where
  -- The words of a ring of one part after place n counts: bit n is put into the word of its code.
  pub whole_turn : (n code : ℕ) → n < word_bits → get_or ring n 0 ≡ code → code < kept_count
      → set (whole_of ring n) code (put_word (get_or (whole_of ring n) code 0) n 1) ≡ whole_of ring (n + 1)
  unfolding whole_of
  whole_turn n code h edge room =
      let first : n / word_bits ≡ 0 = omega arith in
      let place : n % word_bits ≡ n = omega arith in
      vector_of_set kept_count (part_word ring n 0) (part_word ring (n + 1) 0) code _ room
      (rw (list_of_at kept_count (part_word ring n 0) code room) (rw place at (sym (part_own ring n 0 code first edge))))
      (λ i l other. sym (part_other ring n 0 i (λ _ e. other (sym e ∙ edge))))

  -- A number from `kept_count` on changes none of them.
  pub whole_stays : (n : ℕ) → kept_count ≤ get_or ring n 0 → whole_of ring (n + 1) ≡ whole_of ring n
  unfolding whole_of
  whole_stays n above = vector_of_same kept_count (part_word ring (n + 1) 0) (part_word ring n 0) (λ i h. part_other ring n 0 i (λ _ e. omega arith))

  -- The word of a place in another part than n, or with another code, stays.
  place_word_apart : (n p : ℕ) → (n / word_bits ≡ p / word_bits → get_or ring n 0 ≡ get_or ring p 0 → ⊥) → place_word ring (n + 1) p ≡ place_word ring n p
  unfolding place_word
  place_word_apart n p apart = rw (slot_other ring n (p / word_bits) (get_or ring p 0) apart, part_other ring n (p / word_bits) (get_or ring p 0) apart) refl

  module _ (n w code : ℕ) (part : n / word_bits ≡ w) (edge : get_or ring n 0 ≡ code) (most : w ≤ last_part) where
    -- Before place n counts, the word that its bit is put into is the word of its part and code so far.
    kept_before : kept_word ring n (word_place w (slot_of ring (n + 1) w code)) ≡ part_word ring n w code
    kept_before = go (slot_of ring n w code) refl (slot_is ring n w code)
      where
        go : (x : ℕ) → slot_of ring n w code ≡ x → IsSlot ring n w code x → kept_word ring n (word_place w (slot_of ring (n + 1) w code)) ≡ part_word ring n w code
        go x is (one_passes from to has before) =
            rw (slot_kept ring n w code part edge x from to has before) (rw is at (kept_reads ring n w code most))
        go x is (no_one_passes none_is none) = rw (slot_new ring n w code part edge none)
            (kept_at_place ring n n w part most
            ∙ (place_word_none ring n n w code part edge (λ e. no_slot_outside w n most part (sym e ∙ (is ∙ none_is))) ∙ sym (part_none ring n w code none)))

    -- If a place of the part was the slot, it still is.
    slot_was : (p : ℕ) → p / word_bits ≡ w → slot_of ring n w code ≡ p → slot_of ring (n + 1) w code ≡ p
    slot_was p here is = go (slot_is ring n w code)
      where
        go : IsSlot ring n w code (slot_of ring n w code) → slot_of ring (n + 1) w code ≡ p
        go (one_passes from to has before) = slot_kept ring n w code part edge (slot_of ring n w code) from to has before ∙ is
        go (no_one_passes none_is none) = absurd (no_slot_outside w p most here (sym is ∙ none_is))

    -- The words of all places but the new slot stay.
    place_word_stays : (p : ℕ) → (slot_of ring (n + 1) w code ≡ p → ⊥) → place_word ring (n + 1) p ≡ place_word ring n p
    place_word_stays p other = dite (ℕ_discrete (p / word_bits) w)
        (λ here. dite (ℕ_discrete (get_or ring p 0) code)
        (λ same. place_word_none ring (n + 1) p w code here same other ∙ sym (place_word_none ring n p w code here same (λ e. other (slot_was p here e))))
        (λ differ. place_word_apart n p (λ _ e. differ (sym e ∙ edge))))
        (λ away. place_word_apart n p (λ e _. away (sym e ∙ part)))

    -- The new slot is a place of the part.
    slot_in_part : slot_of ring (n + 1) w code / word_bits ≡ w
    slot_in_part = go (slot_is ring (n + 1) w code)
      where
        go : IsSlot ring (n + 1) w code (slot_of ring (n + 1) w code) → slot_of ring (n + 1) w code / word_bits ≡ w
        go (one_passes from to has before) = omega arith
        go (no_one_passes none_is none) = absurd (true≢false (sym (rw edge at (has_code_new ring n)) ∙ none n (omega arith) (omega arith)))

    -- Where the new slot does not lead, a kept word stays.
    kept_stays : (i : ℕ) → (i ≡ word_place w (slot_of ring (n + 1) w code) → ⊥) → kept_word ring (n + 1) i ≡ kept_word ring n i
    kept_stays i other = dite (ℕ_discrete i empty_word)
        (λ empty. rw empty (kept_empty ring (n + 1) ∙ sym (kept_empty ring n)))
        (λ some. kept_other ring (n + 1) i some
        ∙ (place_word_stays (kept_place i) (λ e. other (sym (kept_place_at i some) ∙ rw (sym e, slot_in_part) refl)) ∙ sym (kept_other ring n i some)))

    -- The kept words after place n counts: bit n mod 64 is put in where the new slot leads.
    pub kept_turn : (at : ℕ) → at ≡ word_place w (slot_of ring (n + 1) w code)
        → set (kept_of ring n) at (put_word (get_or (kept_of ring n) at 0) (n % word_bits) 1) ≡ kept_of ring (n + 1)
    unfolding kept_of
    kept_turn at is =
        let within : at < kept_count = rw is (word_place_lt (slot_of ring (n + 1) w code) w slot_in_part most) in
        let before : get_or (kept_of ring n) at 0 ≡ part_word ring n w code = list_of_at kept_count (kept_word ring n) at within ∙ rw is kept_before in
        let after : kept_word ring (n + 1) at ≡ part_word ring (n + 1) w code = rw is (kept_reads ring (n + 1) w code most) in
        vector_of_set kept_count (kept_word ring n) (kept_word ring (n + 1)) at _ within (rw before (sym (part_own ring n w code part edge)) ∙ sym after)
        (λ i h other. sym (kept_stays i (λ e. other (e ∙ sym is))))

    -- The slots after place n counts: the slot of its part and code is the new one.
    pub slots_turn : code < byte_codes → (at slot : ℕ) → at ≡ code + w * byte_codes → slot ≡ slot_of ring (n + 1) w code → set (slots_of ring n) at slot ≡ slots_of ring (n + 1)
    unfolding slots_of
    slots_turn is_code at slot is new =
        let at_w : at / byte_codes ≡ w = omega arith in
        let at_code : at % byte_codes ≡ code = omega arith in
        vector_of_set slot_count _ _ at slot (omega arith) (rw (at_w, at_code) new)
        (λ i h other. sym (slot_other ring n (i / byte_codes) (i % byte_codes) (λ e f. other (omega arith))))
