-- The slot of a code in a part of 64 places: the lowest place of the part that has the code, or `no_slot`, which is no place of the part. When place n is added,
-- only the slot of its own part and code can change: it becomes n if there was none, and else stays.
use mathlib.Core.Path.{◌≡◌, refl, ◌∙◌}
use mathlib.Core.Bool.{true, false, cond}
use mathlib.Core.List.{List}
use mathlib.Core.Logic.{dite}
use Prim.Native.Nat.{ℕ, ◌+◌, ◌*◌, ◌/◌, ◌≤◌, ◌<◌}
use native.Mathlib.Decide.{dec_lt}
use native.Mathlib.Omega.{arith}
use lib.ListN.{get_or}
use lib.Dec.{eqb}
use borrow.Author.Tests.{lt-ltb, le-ltb, eq-eqb, ne_eqb}
use Rattle.vectors.specs.Bits.{word_bits}
use Rattle.occurrences.specs.EdgeVectors.{last_part, empty_word}
use Rattle.occurrences.specs.Storing.{has_code, no_slot, slot_of}
use Rattle.occurrences.proofs.LowestPlace.{IsLowest, one_passes, no_one_passes, lowest_is, lowest_unique, lowest_same}
use Rattle.occurrences.proofs.PlacesOfCode.{has_code_is, has_code_past, has_code_new, has_code_same}

-- In every part but the last, `no_slot` is the place of the empty word.
pub no_slot_early : (w : ℕ) → w < last_part → no_slot w ≡ empty_word
unfolding no_slot
no_slot_early w h = rw (lt-ltb w last_part h) refl

-- In the last part it is the place before that.
pub no_slot_last : (w : ℕ) → last_part ≤ w → no_slot w + 1 ≡ empty_word
unfolding no_slot
no_slot_last w h = rw (le-ltb w last_part h) refl

-- `no_slot w` is no place of part w.
pub no_slot_outside : (w p : ℕ) → w ≤ last_part → p / word_bits ≡ w → p ≡ no_slot w → ⊥
no_slot_outside w p h part is = dite (dec_lt w last_part)
    (λ early. omega (arith, no_slot_early w early))
    (λ last. omega (arith, no_slot_last w (omega (arith, last))))

module _ (ring : List ℕ) where
  -- What the slot of a code in part w is, among the ring's first n places.
  abbrev pub IsSlot : ℕ → ℕ → ℕ → ℕ → Type 0
  IsSlot n w code x = IsLowest (has_code ring n code) (no_slot w) (word_bits * w) word_bits x

  -- `slot_of` is the slot.
  pub slot_is : (n w code : ℕ) → IsSlot n w code (slot_of ring n w code)
  unfolding slot_of
  slot_is n w code = lowest_is (has_code ring n code) (no_slot w) (word_bits * w) word_bits

  -- What is the slot is `slot_of`.
  pub slot_unique : (n w code x : ℕ) → IsSlot n w code x → slot_of ring n w code ≡ x
  slot_unique n w code x is = lowest_unique (slot_is n w code) is

  -- Before any place counts, no part has a code.
  pub slot_at_first : (w code : ℕ) → slot_of ring 0 w code ≡ no_slot w
  slot_at_first w code = slot_unique 0 w code (no_slot w) (no_one_passes refl (λ q l h. has_code_past ring 0 code q (omega arith)))

  -- The slots of other parts and codes than those of place n stay.
  pub slot_other : (n w code : ℕ) → (n / word_bits ≡ w → get_or ring n 0 ≡ code → ⊥) → slot_of ring (n + 1) w code ≡ slot_of ring n w code
  unfolding slot_of
  slot_other n w code other = lowest_same (has_code ring (n + 1) code) (has_code ring n code) (no_slot w) (word_bits * w) word_bits
      (λ q l h. has_code_same ring n code q (λ e. other (omega arith)))

  module _ (n w code : ℕ) (part : n / word_bits ≡ w) (edge : get_or ring n 0 ≡ code) where
    -- If the part of place n has had its code, the slot stays.
    pub slot_kept : (x : ℕ) → word_bits * w ≤ x → x < word_bits * w + word_bits → has_code ring n code x ≡ true
        → ((q : ℕ) → word_bits * w ≤ q → q < x → has_code ring n code q ≡ false) → slot_of ring (n + 1) w code ≡ x
    slot_kept x l h has before =
        let below : x < n = (has_code_is ring n code x has).0 in
        slot_unique (n + 1) w code x (one_passes l h (has_code_same ring n code x (λ e _. omega arith) ∙ has)
        (λ q from to. has_code_same ring n code q (λ e _. omega arith) ∙ before q from to))

    -- If it has not, place n becomes the slot.
    pub slot_new : ((q : ℕ) → word_bits * w ≤ q → q < word_bits * w + word_bits → has_code ring n code q ≡ false) → slot_of ring (n + 1) w code ≡ n
    slot_new none = slot_unique (n + 1) w code n (one_passes (omega arith) (omega arith) (rw edge at (has_code_new ring n))
        (λ q from to. has_code_same ring n code q (λ e _. omega arith) ∙ none q from (omega arith)))

    -- The slot of place n's own part and code, as the code makes it: n if there was none, and else the same.
    pub slot_own : w ≤ last_part → slot_of ring (n + 1) w code ≡ cond (eqb (slot_of ring n w code) (no_slot w)) n (slot_of ring n w code)
    slot_own h = go (slot_of ring n w code) (slot_is n w code)
      where
        go : (x : ℕ) → IsSlot n w code x → slot_of ring (n + 1) w code ≡ cond (eqb x (no_slot w)) n x
        go x (one_passes from to has before) =
            rw (ne_eqb x (no_slot w) (no_slot_outside w x h (omega arith))) (slot_kept x from to has before)
        go x (no_one_passes is none) = rw (eq-eqb x (no_slot w) is) (slot_new none)
