-- What a caller of `hold` and `vector_of` cites: with the slots and kept words of a ring and the word count of its length, a code's vector is its occurrence vector, and
-- with `grown` of crates/vectors it makes one turn of the loop that reads a window. The proofs are in the other modules; who uses this one need not look at slots
-- and words.
use mathlib.Core.Path.{◌≡◌, refl, sym, ◌∙◌}
use mathlib.Core.Bool.{◌&&◌}
use mathlib.Core.List.{List}
use mathlib.Core.Logic.{dite}
use Prim.Native.Nat.{ℕ, ◌+◌, ◌%◌, ◌≤◌, ◌<◌}
use native.Mathlib.Decide.{dec_lt}
use native.Mathlib.Omega.{arith}
use lib.ListN.{length, get_or}
use lib.Seq.{take_all}
use lib.Dec.{eqb}
use borrow.Author.Tests.{ne_eqb}
use Rattle.vectors.specs.Bits.{word_bits, word_count, Vector, is_set, NoBit}
use Rattle.vectors.specs.Rotating.{WithinBits}
use Rattle.vectors.specs.Holding.{Grown}
use Rattle.vectors.specs.ByValue.{vector_bits, HeldVector, grown_words}
use Rattle.vectors.proofs.GrownInFewestWords.{grown_words_is}
use Rattle.vectors.proofs.HeldVectors.{grown_held}
use Rattle.occurrences.specs.declared.table.EdgeVectors.{EdgeVectors}
use Rattle.occurrences.specs.EdgeVectors.{Occurs, vector_at}
use Rattle.occurrences.specs.Storing.{counted_places, Occurrences}
use Rattle.occurrences.proofs.ArraysOfRing.{kept_vector, whole_vector, kept_for_one, kept_for_parts}
use Rattle.occurrences.proofs.VectorsRead.{read_vector}

module _ (ring : List ℕ) (table : EdgeVectors) (code : ℕ) (is : Occurrences ring table) where
  -- For a ring of at most 256 edges, with the word count of its length, `vector_of` returns the code's occurrence vector.
  pub vector_occurs : length ring ≤ vector_bits → Occurs ring code (vector_at table code (word_count (length ring)))
  vector_occurs most = rw (take_all vector_bits ring most) at (is.each.each code)

  -- For a ring of at most 256 edges and a code that it does not have: with the word count of its length, no bit is set in what `vector_of` returns.
  pub absent_no_bit : length ring ≤ vector_bits → ((r : ℕ) → r < length ring → get_or ring r 0 ≡ code → ⊥) → NoBit (vector_at table code (word_count (length ring)))
  absent_no_bit most lacks = record {
    none = λ i. dite (dec_lt i (length ring)) (λ h. (vector_occurs most).each i h ∙ ne_eqb (get_or ring i 0) code (lacks i h))
        (λ past. (vector_occurs most).rest i (omega (arith, past)));
  }

  -- The kept words are machine words.
  kept_words : Vector table.kept
  kept_words = dite (dec_lt word_bits (length ring))
      (λ many. rw (is.kept_are, sym (kept_for_parts ring many)) (kept_vector ring (counted_places ring)))
      (λ few. rw (is.kept_are, sym (kept_for_one ring (omega (arith, few)))) (whole_vector ring (counted_places ring)))

-- One turn of the loop that reads a window: `new` is again a vector of m bits, and its bit r is set exactly when bit (r + 1) mod m of `held` was set and the
-- ring has the edge code at place r.
pub record GrownByEdge (m : ℕ) (ring : List ℕ) (code : ℕ) (held new : List ℕ) : Type 0 where
  pub vector : HeldVector m new
  pub each : (r : ℕ) → r < m → is_set new r ≡ (is_set held ((r + 1) % m) && eqb (get_or ring r 0) code)

-- What `hold`, `vector_of` and `grown` return makes one turn of the loop that reads a window (`GrownByEdge`), for a ring of 1 to 256 edges and the fewest
-- words that hold as many bits.
pub grown_by_edge : (m count code : ℕ) (ring : List ℕ) (table : EdgeVectors) (occurs held new : List ℕ) → m ≡ length ring → 0 < m → m ≤ vector_bits → count ≡ word_count m
    → Occurrences ring table → HeldVector m held → occurs ≡ vector_at table code count → new ≡ grown_words m count occurs held
    → GrownByEdge m ring code held new
grown_by_edge m count code ring table occurs held new whole some most few of_ring is_held_lem is_occurs is_new =
    let words : Vector occurs = rw is_occurs (read_vector table code count (kept_words ring table code of_ring)) in
    let edge : Occurs ring code occurs = rw (is_occurs, few, whole) (vector_occurs ring table code of_ring (omega arith)) in
    let inside : WithinBits m occurs = record { rest = λ i h. edge.rest i (omega arith) } in
    let turn : Grown m occurs held new = rw is_new (grown_words_is m count occurs held some most few is_held_lem words inside) in
    record {
      vector = rw is_new (grown_held m count occurs held some most few is_held_lem words inside);
      each = λ r h. turn.each r h ∙ rw (edge.each r (omega arith)) refl;
    }
