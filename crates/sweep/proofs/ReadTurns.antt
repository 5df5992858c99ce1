-- The loop of `read_words`, with any table. Before each turn, reading the edges left from here gives the same result as reading the whole window (`StillToRead`). Each
-- edge read is one look, so looks and edges left add up to m, and at least one edge is read.
use Prim.Native.Nat.{ℕ, zero, suc, ◌+◌, ◌-◌, ◌≤◌, ◌<◌}
use mathlib.Core.Path.{◌≡◌, refl, sym, ap, ◌∙◌}
use mathlib.Core.Bool.{Bool, true, false}
use mathlib.Core.List.{List, [], ◌∷◌, ◌++◌}
use Rattle.std.specs.Prelude.{None, Some}
use native.Mathlib.Omega.{arith}
use lib.ListN.{length, get_or, take}
use lib.Seq.{take_all}
use Rattle.std.proofs.lemmas.List.{take_at, get_or_at, take-take, get_or-take, length-append}
use Rattle.lists.proofs.Cases.{by_test}
use Rattle.meaning.specs.Meanings.{is_mark}
use Rattle.meaning.specs.Rules.{stops_at}
use Rattle.vectors.specs.Bits.{first_bits, no_bit}
use Rattle.vectors.specs.ByValue.{vector_words, grown_words}
use Rattle.occurrences.specs.declared.table.EdgeVectors.{EdgeVectors}
use Rattle.occurrences.specs.EdgeVectors.{vector_at}
use Rattle.sweep.specs.declared.reading.WindowRead.{WindowRead}
use Rattle.sweep.specs.Reads.{unread, held_with, read_on, read_with}

-- The invariant before a turn, with the edges of `rest`, the window's first, left to read. `still` says that reading them gives the result of the whole window.
pub record StillToRead (table : EdgeVectors) (window : List ℕ) (k words : ℕ) (held rest : List ℕ) (breaks looks : ℕ) : Type 0 where
  pub rest_is : rest ≡ take (length rest) window
  pub looks_are : looks + length rest ≡ length window
  pub breaks_le : breaks ≤ looks
  pub still : read_on table window k words (length rest) held breaks looks ≡ read_with table window k words

-- The invariant holds before the first turn.
pub to_read_all : (table : EdgeVectors) (window : List ℕ) (k words : ℕ) → StillToRead table window k words (first_bits (length window) vector_words) window 0 0
to_read_all table window k words =
    record { rest_is = sym (take_all (length window) window (omega arith)); looks_are = omega arith; breaks_le = omega arith; still = refl }

module _ {table : EdgeVectors} {window : List ℕ} {k words : ℕ} {held rest : List ℕ} {breaks looks : ℕ} (known : StillToRead table window k words held rest breaks looks) where
  -- If no edge is left, the contract is met.
  pub to_read_none : length rest ≡ 0 → record { looks = looks; stopped_at = None } ≡ read_with table window k words
  unfolding read_on
  to_read_none none = rw none at known.still

  -- The last of the edges left is read, and the held vector grown by its occurrence vector.
  module _ (before : List ℕ) (edge left : ℕ) (came : rest ≡ before ++ (edge ∷ [])) (left_is : left ≡ length before) {occurs new : List ℕ}
      (of_edge : occurs ≡ vector_at table edge words) (is_grown : new ≡ grown_words (length window) words occurs held) where
    size : length rest ≡ suc left
    size = ap length came ∙ simp length-append (omega arith)

    before_is : before ≡ take (length before) window
    before_is =
        sym (take_at before (edge ∷ []) (length before) refl) ∙ ap (take (length before)) (sym came ∙ known.rest_is) ∙ take-take (length before) (length rest) window (omega (arith, size))

    edge_is : get_or window left 0 ≡ edge
    edge_is =
        sym (get_or-take (length rest) window left 0 (omega (arith, size))) ∙ ap (λ (xs : List ℕ). get_or xs left 0) (sym known.rest_is ∙ came)
        ∙ get_or_at before edge [] 0 left (sym left_is)

    new_is : held_with table window words left held ≡ new
    new_is = sym (is_grown ∙ ap (λ (v : List ℕ). grown_words (length window) words v held) (of_edge ∙ ap (λ (e : ℕ). vector_at table e words) (sym edge_is)))

    from_here : read_on table window k words (suc left) held breaks looks ≡ read_with table window k words
    from_here = ap (λ (n : ℕ). read_on table window k words n held breaks looks) (sym size) ∙ known.still

    -- If no bit is set, the edge is a break or a mark.
    module _ (none : no_bit new words ≡ true) {stops : Bool} (says : stops ≡ stops_at k (breaks + 1) (is_mark edge)) where
      says_here : stops_at k (breaks + 1) (is_mark (get_or window left 0)) ≡ stops
      says_here = ap (λ (e : ℕ). stops_at k (breaks + 1) (is_mark e)) edge_is ∙ sym says

      -- If reading stops there, returning meets the contract.
      pub to_read_stops : stops ≡ true → record { looks = looks + 1; stopped_at = Some left } ≡ read_with table window k words
      unfolding read_on
      to_read_stops stop = rw (new_is, none, says_here ∙ stop) at from_here

      -- If not, it is one of the first k breaks, and the invariant holds with every bit set again.
      pub to_read_empties : stops ≡ false → StillToRead table window k words (first_bits (length window) vector_words) before (breaks + 1) (looks + 1)
      unfolding read_on
      to_read_empties goes_on = record {
        rest_is = before_is;
        looks_are = omega (arith, known.looks_are, size);
        breaks_le = omega (arith, known.breaks_le);
        still = rw (← left_is) (rw (new_is, none, says_here ∙ goes_on) at from_here);
      }

    -- If the edge is no break, the invariant holds with the grown vector.
    pub to_read_grows : no_bit new words ≡ false → StillToRead table window k words new before breaks (looks + 1)
    unfolding read_on
    to_read_grows some = record {
      rest_is = before_is;
      looks_are = omega (arith, known.looks_are, size);
      breaks_le = omega (arith, known.breaks_le);
      still = rw (← left_is) (rw (new_is, some) at from_here);
    }

module _ (table : EdgeVectors) (window : List ℕ) (k words : ℕ) where
  abbrev m : ℕ
  m = length window

  abbrev full : List ℕ
  full = first_bits m vector_words

  -- What holds for the result r of reading on with `left` edges unread: each edge read is one look, and if an edge is left, at least one is read.
  record ReadGoes (left looks : ℕ) (r : WindowRead) : Type 0 where
    pub looks_are : r.looks + unread r ≡ looks + left
    pub left_le : unread r ≤ left - 1

  read_goes : (left : ℕ) (held : List ℕ) (breaks looks : ℕ) → ReadGoes left looks (read_on table window k words left held breaks looks)
  unfolding read_on
  read_goes zero held breaks looks = record { looks_are = refl; left_le = omega arith }
  read_goes (suc left) held breaks looks =
      let emptied = read_goes left full (breaks + 1) (looks + 1) in
      let grown = read_goes left (held_with table window words left held) breaks (looks + 1) in
      by_test (ReadGoes (suc left) looks) (no_bit (held_with table window words left held) words)
      (λ _. by_test (ReadGoes (suc left) looks) (stops_at k (breaks + 1) (is_mark (get_or window left 0)))
      (λ _. record { looks_are = omega arith; left_le = omega arith })
      (λ _. record { looks_are = omega (arith, emptied.looks_are); left_le = omega (arith, emptied.left_le) }))
      (λ _. record { looks_are = omega (arith, grown.looks_are); left_le = omega (arith, grown.left_le) })

  -- Looks and edges left unread add up to m.
  pub read_sum : (read_with table window k words).looks + unread (read_with table window k words) ≡ m
  read_sum = (read_goes m full 0 0).looks_are ∙ omega arith

  -- If the window has an edge, at least one edge is read.
  pub read_some : 0 < m → unread (read_with table window k words) < m
  read_some some = omega (arith, (read_goes m full 0 0).left_le)
