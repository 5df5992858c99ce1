-- A shift down by one, and bit 0 put in at bit m − 1, are a rotation. In the shifted vector bit m − 1 is what bit m was, which was not set; so putting in what
-- was bit 0 there gives exactly that bit. Every other bit below m comes from the next higher one, and from m on no bit is set.
use mathlib.Core.Path.{◌≡◌, refl, sym, ◌∙◌}
use mathlib.Core.List.{List}
use mathlib.Core.Logic.{dite}
use Prim.Native.Nat.{ℕ, ◌+◌, ◌-◌, ◌*◌, ◌/◌, ◌%◌, ◌≤◌, ◌<◌}
use native.Mathlib.Nat.{mod_self, mod-eq_of_lt}
use native.Mathlib.Decide.{dec_lt}
use native.Mathlib.Omega.{arith}
use lib.ListN.{length, get_or, length-set}
use lib.Seq.{get_or-set_same, get_or-set_other}
use lib.Dec.{eqb}
use Rattle.vectors.specs.Bits.{word_bits, Vector, bit, is_set, put_word, put_bit, PutBit}
use Rattle.vectors.specs.Rotating.{shifted_word, shifted, Shifted, WithinBits, rotated, Rotated}
use Rattle.vectors.proofs.WordBits.{bit_lt}
use Rattle.vectors.proofs.VectorBits.{is_set_word}
use Rattle.vectors.proofs.CarryBetweenWords.{shifted_is, shifted_length, shifted_word_lem}
use Rattle.vectors.proofs.OneBitPut.{put_is}

module _ (m b : ℕ) (old mid new : List ℕ) (some : 0 < m) (within : WithinBits m old) (shift : Shifted old mid) (wrap : PutBit mid (m - 1) b new)
    (first : eqb b 1 ≡ is_set old 0) where
  -- A bit below m − 1 comes from the next higher one.
  below_last : (r : ℕ) → r + 1 < m → is_set new r ≡ is_set old ((r + 1) % m)
  below_last r h = wrap.others r (λ e. omega arith) ∙ (shift.each r ∙ sym (rw (mod-eq_of_lt h) refl))

  -- Bit m − 1 comes from bit 0.
  at_last : is_set new (m - 1) ≡ is_set old 0
  at_last =
      let e : m - 1 + 1 ≡ m = omega arith in
      wrap.there ∙ rw (shift.each (m - 1), e, within.rest m (omega arith)) first

  -- A vector shifted, with what was bit 0 then put in at bit m − 1, is rotated, however it is computed.
  rotated_of : Rotated m old new
  rotated_of = record {
    next = λ r h. dite (dec_lt (r + 1) m) (below_last r)
        (λ last. let e : r ≡ m - 1 = omega (arith, last) in let f : r + 1 ≡ m = omega (arith, last) in
        rw (f, mod_self m, e) at_last);
    rest = λ i h. wrap.others i (λ e. omega arith) ∙ (shift.each i ∙ within.rest (i + 1) (omega arith));
  }

-- The rotated vector has as many words as before.
pub rotated_length : (m : ℕ) (ws : List ℕ) → length (rotated m ws) ≡ length ws
unfolding rotated put_bit
rotated_length m ws = simp length-set (shifted_length ws)

-- For m of 1 or more, `rotated` rotates a vector of m bits whose words have room for them: bit r below m is what bit (r + 1) mod m was, and no bit from m on is
-- set.
pub rotated_is : (m : ℕ) (ws : List ℕ) → Vector ws → 0 < m → m ≤ word_bits * length ws → WithinBits m ws → Rotated m ws (rotated m ws)
unfolding rotated
rotated_is m ws vector some room within =
    rotated_of m (bit (get_or ws 0 0) 0) ws (shifted ws) (put_bit (shifted ws) (m - 1) (bit (get_or ws 0 0) 0)) some within (shifted_is ws vector)
    (put_is (shifted ws) (m - 1) (bit (get_or ws 0 0) 0) (bit_lt (get_or ws 0 0) 0) (omega (arith, shifted_length ws)))
    (sym (is_set_word ws 0 0 0 refl refl))

module _ (m w : ℕ) (ws : List ℕ) (h : w < length ws) where
  -- A word of the rotated vector that does not hold bit m − 1 is only shifted.
  pub rotated_word_inner : (w ≡ (m - 1) / word_bits → ⊥) → get_or (rotated m ws) w 0 ≡ shifted_word (get_or ws w 0) (get_or ws (w + 1) 0)
  unfolding rotated put_bit
  rotated_word_inner inner =
      let new : ℕ = put_word (get_or (shifted ws) ((m - 1) / word_bits) 0) ((m - 1) % word_bits) (bit (get_or ws 0 0) 0) in
      get_or-set_other (shifted ws) ((m - 1) / word_bits) w new 0 inner ∙ shifted_word_lem ws w h

  -- The word of the rotated vector that holds bit m − 1 is shifted and has what was bit 0 put in.
  pub rotated_word_last : w ≡ (m - 1) / word_bits
      → get_or (rotated m ws) w 0 ≡ put_word (shifted_word (get_or ws w 0) (get_or ws (w + 1) 0)) ((m - 1) % word_bits) (bit (get_or ws 0 0) 0)
  unfolding rotated put_bit
  rotated_word_last e =
      let new : ℕ = put_word (get_or (shifted ws) w 0) ((m - 1) % word_bits) (bit (get_or ws 0 0) 0) in
      rw (sym e, get_or-set_same (shifted ws) w new 0 (omega (arith, shifted_length ws)), shifted_word_lem ws w h) refl
