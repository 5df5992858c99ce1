-- A window read with the ring's own vectors is read by rules 1 to 3. By induction on the edges left: the bits of the held vector stand for the held stretch
-- (`WindowLoop` of crates/meaning), and the vector grown by an edge stands for the grown stretch (`grown_by_edge` of crates/occurrences). So no bit is set exactly at a
-- break or at a mark, which the ring does not hold. This proof uses the vectors by their bits only; the words are a matter of crates/vectors and crates/occurrences.
use Prim.Native.Nat.{ℕ, zero, suc, ◌+◌, ◌≤◌, ◌<◌}
use mathlib.Core.Path.{◌≡◌, refl, sym, ap₂, subst, ◌∙◌}
use mathlib.Core.Bool.{Bool, true, false, ◌||◌, or-true, or-false, true≢false}
use mathlib.Core.List.{List}
use native.Mathlib.Nat.{zero-add}
use native.Mathlib.Numerals.{add-one}
use Rattle.std.specs.Prelude.{Option, None, Some}
use Rattle.std.specs.Option.{is_some}
use native.Mathlib.Omega.{arith}
use lib.Dec.{ltb}
use lib.ListN.{length, get_or}
use borrow.Author.Tests.{le-ltb, ltb-true, ltb-false}
use Rattle.meaning.specs.Counting.{some_below}
use Rattle.meaning.specs.Meanings.{window_edge, is_mark}
use Rattle.meaning.specs.Rules.{stops_at}
use Rattle.lists.proofs.Cases.{by_test, not_passed}
use Rattle.meaning.proofs.Some.{some_yes, some_by}
use Rattle.meaning.proofs.WindowLoop.{AllSet, GrownBy, WindowLoop, ReadTo, window_start, window_end, window_stopped, window_grows, window_marked, window_breaks}
use Rattle.vectors.specs.Bits.{word_count, is_set, first_bits, no_bit}
use Rattle.vectors.specs.ByValue.{vector_words, vector_bits, HeldVector}
use Rattle.vectors.proofs.HeldVectors.{first_held, first_set, no_bit_iff_lem, no_bit_no_lem}
use Rattle.occurrences.specs.declared.table.EdgeVectors.{EdgeVectors}
use Rattle.occurrences.specs.EdgeVectors.{vector_at}
use Rattle.occurrences.proofs.VectorsOfRing.{GrownByEdge, grown_by_edge}
use Rattle.sweep.specs.Reads.{unread_from, held_with, read_on, read_by}
use Rattle.sweep.specs.ReadingRules.{OwnVectors, IsWindowRead}

-- What holds with `left` edges unread: there are at most k breaks, each edge read was one look, and the vector stands for the stretch.
record StandsFor (ring window : List ℕ) (k : ℕ) (held : List ℕ) (left breaks looks : ℕ) : Type 0 where
  pub few : breaks ≤ k
  pub looks_are : looks + left ≡ length ring
  pub vector : HeldVector (length window) held
  pub reading : WindowLoop ring window k 0 left breaks (is_set held)

-- If a disjunction of two tests is false, both tests are false.
or_fails : (a b : Bool) → (a || b) ≡ false → (a ≡ false) × (b ≡ false)
or_fails true b e = absurd (true≢false e)
or_fails false b e = (refl, e)

module _ (ring window : List ℕ) (table : EdgeVectors) (k : ℕ) (own : OwnVectors ring table) (long : length window ≡ length ring) where
  abbrev m : ℕ
  m = length window

  abbrev words : ℕ
  words = word_count m

  -- The vector with every bit set.
  abbrev full : List ℕ
  full = first_bits m vector_words

  some_edge : 0 < m
  some_edge = omega (arith, own.some_edge)

  most : m ≤ vector_bits
  most = omega (arith, own.most)

  full_set : AllSet ring (is_set full)
  unfolding AllSet
  full_set r l = first_set m most r (omega arith)

  -- Where reading ends by the rules, this is its result.
  read_to : (left breaks looks : ℕ) (marked : Bool) (at : Option ℕ) → looks + left ≡ length ring → unread_from at ≡ left → is_some at ≡ stops_at k breaks marked → ReadTo ring window k 0 left breaks marked
      → IsWindowRead ring window k (record { looks = looks; stopped_at = at })
  read_to left breaks looks marked at all left_at stops to =
      record { read_is = omega (arith, to.left_is); left_is = omega (arith, left_at, all); stopped_is = stops ∙ ap₂ (stops_at k) (sym to.breaks_is) (sym to.mark_is) }

  module _ (left : ℕ) (held : List ℕ) (breaks looks : ℕ) (h : StandsFor ring window k held (suc left) breaks looks) where
    -- The held vector grown by the window's edge at `left`.
    abbrev new : List ℕ
    new = held_with table window words left held

    abbrev edge : ℕ
    edge = get_or window left 0

    grew : GrownByEdge m ring edge held new
    grew =
        grown_by_edge m words edge ring table (vector_at table edge words) held new long some_edge most refl own.occurs h.vector refl refl

    grown_by : GrownBy ring (window_edge window 0 left) (is_set held) (is_set new)
    unfolding GrownBy
    grown_by r l = rw (← long, zero-add left) (grew.each r (omega arith))

    -- If some bit is set, the edge is no break, and the new vector stands for the grown stretch.
    grows : no_bit new words ≡ false → StandsFor ring window k new left breaks (looks + 1)
    grows e =
        let one = no_bit_no_lem m words new refl grew.vector e in
        record {
          few = h.few;
          looks_are = omega (arith, h.looks_are);
          vector = grew.vector;
          reading =
              window_grows ring window k 0 left breaks (is_set held) (is_set new) own.no_mark h.few grown_by h.reading
              (some_by (is_set new) (length ring) one.0 (omega (arith, one.1)) one.2);
        }

    none_set : no_bit new words ≡ true → some_below (is_set new) (length ring) ≡ false
    none_set e =
        sym
        (not_passed (some_below (is_set new) (length ring))
        (λ q.
        let one = some_yes (is_set new) (length ring) q in
        true≢false (sym one.2 ∙ (no_bit_iff_lem m words new refl grew.vector).0 e one.0 (omega (arith, one.1)))))

    -- The window's edge as the rules name it.
    edge_is : {t : Bool} → is_mark edge ≡ t → is_mark (window_edge window 0 left) ≡ t
    edge_is e = rw (zero-add left) e

    -- The result where reading stops at the edge.
    abbrev Stops : Type 0
    Stops = IsWindowRead ring window k (record { looks = looks + 1; stopped_at = Some left })

    -- If the edge is a mark, reading stops, without a break.
    leaves : is_mark edge ≡ true → Stops
    leaves is =
        read_to left breaks (looks + 1) true (Some left) (omega (arith, h.looks_are)) refl (sym (or-true (ltb k breaks)))
        (window_marked ring window k 0 left breaks (is_set held) (is_set new) own.no_mark h.few grown_by h.reading (edge_is is))

    module _ (e : no_bit new words ≡ true) where
      -- If no bit is set and the edge is no mark, it is a break.
      broken : is_mark edge ≡ false → WindowLoop ring window k 0 left (breaks + 1) (is_set full)
      broken unmarked =
          rw add-one (window_breaks ring window k 0 left breaks (is_set held) (is_set new) own.no_mark h.few grown_by h.reading (edge_is unmarked) (none_set e) (is_set full) full_set)

      -- If it is at most break k, every bit is set again, for the empty stretch.
      empties : stops_at k (breaks + 1) (is_mark edge) ≡ false → StandsFor ring window k full left (breaks + 1) (looks + 1)
      empties goes_on =
          let both = or_fails (ltb k (breaks + 1)) (is_mark edge) goes_on in
          record { few = ltb-false k (breaks + 1) both.0; looks_are = omega (arith, h.looks_are); vector = first_held m most; reading = broken both.1 }

      -- If it is a mark or break k + 1, reading stops, as the rules say.
      stops : stops_at k (breaks + 1) (is_mark edge) ≡ true → Stops
      stops stop = go (is_mark edge) refl
        where
          go : (t : Bool) → is_mark edge ≡ t → Stops
          go true is = leaves is
          go false unmarked =
              let many : ltb k (breaks + 1) ≡ true = sym (or-false _) ∙ (rw unmarked at stop) in
              read_to left (breaks + 1) (looks + 1) false (Some left) (omega (arith, h.looks_are)) refl (sym (or-false _ ∙ many))
              (window_stopped ring window k 0 left (breaks + 1) (is_set full) (ltb-true k (breaks + 1) many) (broken unmarked))

  -- Reading the edges before place `left`, with a vector that stands for the stretch, follows the rules.
  read_on_lem : (left : ℕ) (held : List ℕ) (breaks looks : ℕ) → StandsFor ring window k held left breaks looks
      → IsWindowRead ring window k (read_on table window k words left held breaks looks)
  unfolding read_on
  read_on_lem zero held breaks looks h =
      read_to 0 breaks looks false None h.looks_are refl (rw (le-ltb k breaks h.few) refl) (window_end ring window k 0 breaks (is_set held) h.reading)
  read_on_lem (suc left) held breaks looks h =
      by_test (IsWindowRead ring window k) (no_bit (new left held breaks looks h) words)
      (λ none. by_test (IsWindowRead ring window k) (stops_at k (breaks + 1) (is_mark (get_or window left 0)))
      (λ stop. stops left held breaks looks h none stop)
      (λ goes_on. read_on_lem left full (breaks + 1) (looks + 1) (empties left held breaks looks h none goes_on)))
      (λ some. read_on_lem left (new left held breaks looks h) breaks (looks + 1) (grows left held breaks looks h some))

  -- A window of m edges, read with the ring's own vectors, is read by rules 1 to 3. (Before the first edge every bit is set, because the empty stretch is the
  -- beginning of every rotation.)
  pub read_by_rules : IsWindowRead ring window k (read_by table window k)
  read_by_rules =
      read_on_lem m full 0 0 (record {
        few = omega arith;
        looks_are = omega arith;
        vector = first_held m most;
        reading = subst (λ (left : ℕ). WindowLoop ring window k 0 left 0 (is_set full)) (sym long) (window_start ring window k 0 (is_set full) full_set);
      })
