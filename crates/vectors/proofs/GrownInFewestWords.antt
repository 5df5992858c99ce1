-- If a vector of m bits is kept in the fewest words that hold them, growing it word by word (`grown_words`) is growing it (`grown`). Every word but the last is
-- shifted with its carry. Word 0 comes into the last word, with its bit 0 at bit m − 1; what comes to stand above bit m − 1 is gone after the AND, since an
-- occurrence vector has no bit there (`and_first_only`). The words behind are 0 before and after.
use mathlib.Core.Path.{◌≡◌, refl, sym, ◌∙◌}
use mathlib.Core.List.{List}
use mathlib.Core.Logic.{dite}
use Prim.Native.Nat.{ℕ, ◌+◌, ◌-◌, ◌*◌, ◌/◌, ◌%◌, ◌^◌, ◌≤◌, ◌<◌, min}
use native.Mathlib.Decide.{dec_lt}
use native.Mathlib.Omega.{arith}
use native.Mathlib.Nat.{mod-lt}
use lib.ListN.{get_or}
use lib.Seq.{ext_get_or}
use lib.Bits.{or_zero_r}
use Rattle.vectors.specs.Bits.{word_bits, word_count, Vector, bit}
use Rattle.vectors.specs.Rotating.{WithinBits}
use Rattle.vectors.specs.Holding.{grown, Grown}
use Rattle.vectors.specs.ByValue.{vector_words, vector_bits, HeldVector, last_bit_place, grown_words}
use Rattle.vectors.proofs.WordBits.{and_first_only}
use Rattle.vectors.proofs.NoBitIsSet.{within_spare, bit_unset}
use Rattle.vectors.proofs.HeldVectorGrows.{grown_length, grown_word_inner, grown_word_last, grown_is}
use Rattle.vectors.proofs.GrownWords.{carry_next, carry_last, grown_words_word, grown_words_past, grown_words_length}

module _ (m count : ℕ) (occurs held : List ℕ) (some : 0 < m) (most : m ≤ vector_bits) (few : count ≡ word_count m) (is : HeldVector m held)
    (vector : Vector occurs) (inside : WithinBits m occurs) where
  -- The held vector's words from `count` on are 0.
  held_spare : (w : ℕ) → count ≤ w → get_or held w 0 ≡ 0
  held_spare w h = within_spare m held is.words is.within w (omega arith)

  -- The two agree in a word of the first `count` that does not hold bit m − 1.
  word_inner : (w : ℕ) → w + 1 < count → get_or (grown_words m count occurs held) w 0 ≡ get_or (grown m occurs held) w 0
  word_inner w h =
      let all : min count vector_words ≡ count = omega arith in
      grown_words_word m count occurs held w (omega arith)
      ∙ rw (all, carry_next m count held w h) (sym (grown_word_inner m occurs held w (omega arith) (λ e. omega arith)))

  -- In the word that holds bit m − 1 the occurrence vector has no bit above it.
  occurs_low : (w j : ℕ) → w + 1 ≡ count → (m - 1) % word_bits < j → bit (get_or occurs w 0) j ≡ 0
  occurs_low w j h above = bit_unset occurs vector w j (λ l. inside.rest (word_bits * w + j) (omega arith))

  -- The two agree in the word that holds bit m − 1.
  word_last : (w : ℕ) → w + 1 ≡ count → get_or (grown_words m count occurs held) w 0 ≡ get_or (grown m occurs held) w 0
  word_last w h =
      let all : min count vector_words ≡ count = omega arith in
      let place : last_bit_place m ≡ (m - 1) % word_bits = omega arith in
      grown_words_word m count occurs held w (omega arith)
      ∙ rw (all, carry_last m count held w (omega arith), place)
      (and_first_only (get_or held w 0 / 2 ^ 1) (get_or held 0 0) (get_or occurs w 0) ((m - 1) % word_bits) word_bits (mod-lt (m - 1) (omega arith))
      (λ j above. occurs_low w j h above)
      ∙ sym (grown_word_last m occurs held w (omega arith) (omega arith)
      ∙ rw (held_spare (w + 1) (omega arith), or_zero_r (get_or held w 0 / 2 ^ 1)) refl))

  -- The two agree in the words behind.
  word_spare : (w : ℕ) → count ≤ w → w < vector_words → get_or (grown_words m count occurs held) w 0 ≡ get_or (grown m occurs held) w 0
  word_spare w h l =
      grown_words_past m count occurs held w (omega arith)
      ∙ sym (grown_word_inner m occurs held w (omega arith) (λ e. omega arith) ∙ rw (held_spare w h, held_spare (w + 1) (omega arith)) refl)

  -- The vector grown word by word is the grown vector.
  grown_words_are : grown_words m count occurs held ≡ grown m occurs held
  grown_words_are = ext_get_or 0 (grown_words m count occurs held) (grown m occurs held)
      (grown_words_length m count occurs held ∙ (sym is.size ∙ sym (grown_length m occurs held)))
      (λ w h. dite (dec_lt (w + 1) count) (word_inner w)
      (λ not_inner. dite (dec_lt w count) (λ last. word_last w (omega (arith, not_inner)))
      (λ past. word_spare w (omega (arith, past)) (omega (arith, grown_words_length m count occurs held)))))

  -- If a vector of 1 to 256 bits is kept in the fewest words that hold them and grown word by word, by an occurrence vector of as many bits, bit r below m is set
  -- exactly when bit (r + 1) mod m was and the edge occurs at r, and no bit from m on is set.
  pub grown_words_is : Grown m occurs held (grown_words m count occurs held)
  grown_words_is = rw grown_words_are (grown_is m occurs held is.words some (omega (arith, is.size)) is.within)
