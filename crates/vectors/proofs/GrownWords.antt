-- The words of the held vector grown by one edge, as the code makes them. A word below the count is shifted, joined with what comes in, and AND the occurrence
-- vector's word; the others are 0. Each case of the definitions is one equation here, so that no later proof unfolds them.
use mathlib.Core.Path.{◌≡◌, refl, ◌∙◌}
use mathlib.Core.List.{List, [], ◌∷◌}
use mathlib.Core.Logic.{dite}
use Prim.Native.Nat.{ℕ, ◌+◌, ◌-◌, ◌*◌, ◌/◌, ◌%◌, ◌^◌, ◌≤◌, ◌<◌, min}
use native.Mathlib.Decide.{dec_lt}
use native.Mathlib.Omega.{arith}
use lib.ListN.{length, get_or}
use lib.Bits.{bit_and, bit_or, and_le_r}
use borrow.Author.Tests.{lt-ltb, le-ltb}
use Rattle.vectors.specs.Bits.{word_bits, Vector}
use Rattle.lists.specs.ByPlace.{list_of}
use Rattle.vectors.specs.ByValue.{vector_words, last_bit_place, carry_into, grown_word, grown_words}
use Rattle.lists.proofs.ByPlace.{list_of_length, list_of_at, list_of_past}

module _ (m count : ℕ) (held : List ℕ) (w : ℕ) where
  -- What comes into a word that is not the last is the next word's lowest bit, at the top.
  pub carry_next : w + 1 < count → carry_into m count held w ≡ get_or held (w + 1) 0 * 2 ^ (word_bits - 1) % 2 ^ word_bits
  unfolding carry_into
  carry_next h = rw (lt-ltb (w + 1) count h) refl

  -- What comes into the last word is word 0, with its bit 0 at the place of bit m − 1.
  pub carry_last : count ≤ w + 1 → carry_into m count held w ≡ get_or held 0 0 * 2 ^ last_bit_place m % 2 ^ word_bits
  unfolding carry_into
  carry_last h = rw (le-ltb (w + 1) count h) refl

module _ (m count : ℕ) (occurs held : List ℕ) (w : ℕ) where
  -- A word below the count is shifted, joined with what comes in, and AND the occurrence vector's word.
  pub grown_word_below : w < count
      → grown_word m count occurs held w ≡ bit_and (bit_or (get_or held w 0 / 2 ^ 1) (carry_into m count held w)) (get_or occurs w 0)
  unfolding grown_word
  grown_word_below h = rw (lt-ltb w count h) refl

  -- A word from the count on is 0.
  pub grown_word_past : count ≤ w → grown_word m count occurs held w ≡ 0
  unfolding grown_word
  grown_word_past h = rw (le-ltb w count h) refl

module _ (m count : ℕ) (occurs held : List ℕ) where
  -- The list of the four grown words is the grown vector.
  pub grown_of_words : (words a b c d : ℕ) → words ≡ min count vector_words → a ≡ grown_word m words occurs held 0 → b ≡ grown_word m words occurs held 1
      → c ≡ grown_word m words occurs held 2 → d ≡ grown_word m words occurs held 3 → a ∷ b ∷ c ∷ d ∷ [] ≡ grown_words m count occurs held
  unfolding grown_words list_of
  grown_of_words words a b c d is p q r s = rw (p, q, r, s, is) refl

  -- In the grown vector, a word below the count is shifted, joined with what comes in, and AND the occurrence vector's word.
  pub grown_words_word : (w : ℕ) → w < min count vector_words
      → get_or (grown_words m count occurs held) w 0
      ≡ bit_and (bit_or (get_or held w 0 / 2 ^ 1) (carry_into m (min count vector_words) held w)) (get_or occurs w 0)
  unfolding grown_words
  grown_words_word w h = list_of_at vector_words (grown_word m (min count vector_words) occurs held) w (omega arith)
      ∙ grown_word_below m (min count vector_words) occurs held w h

  -- In the grown vector, a word from the count on is 0.
  pub grown_words_past : (w : ℕ) → min count vector_words ≤ w → get_or (grown_words m count occurs held) w 0 ≡ 0
  unfolding grown_words
  grown_words_past w h = dite (dec_lt w vector_words)
      (λ l. list_of_at vector_words (grown_word m (min count vector_words) occurs held) w l ∙ grown_word_past m (min count vector_words) occurs held w h)
      (λ past. list_of_past vector_words (grown_word m (min count vector_words) occurs held) w (omega (arith, past)))

  -- The grown vector has `vector_words` words.
  pub grown_words_length : length (grown_words m count occurs held) ≡ vector_words
  unfolding grown_words
  grown_words_length = list_of_length vector_words (grown_word m (min count vector_words) occurs held)

  -- The words of the grown vector are machine words, if the occurrence vector's are.
  pub grown_words_vector : Vector occurs → Vector (grown_words m count occurs held)
  grown_words_vector vector = record {
    word_lt = λ w. dite (dec_lt w (min count vector_words))
        (λ h. omega (
          arith,
          grown_words_word w h,
          and_le_r (bit_or (get_or held w 0 / 2 ^ 1) (carry_into m (min count vector_words) held w)) (get_or occurs w 0),
          vector.word_lt w,
        ))
        (λ past. omega (arith, grown_words_past w (omega (arith, past))));
  }
