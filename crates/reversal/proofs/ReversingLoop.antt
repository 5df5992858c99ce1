-- The loop of `reverse`. It goes over the ring's edges from the last on, at most 256 of them, each with its number q (`turn_is`). Turn q stores the reversed code at
-- place q, into an array of zeros. From place m on the array keeps its zeros, and `get_or` of the reversed ring gives 0 there too.
use Prim.Native.Nat.{ℕ, ◌+◌, ◌-◌, ◌≤◌, ◌<◌, min}
use mathlib.Core.Path.{◌≡◌, sym, ap, ◌∙◌}
use mathlib.Core.List.{List, reverse}
use mathlib.Core.Logic.{dite}
use native.Mathlib.Decide.{dec_lt}
use native.Mathlib.Nat.{zero-add}
use native.Mathlib.Omega.{arith}
use lib.ListN.{length, get_or, set, take, replicate, length-replicate, get_or-replicate}
use Rattle.std.specs.List.{enumerate_from}
use Rattle.std.proofs.lemmas.List.{get_or-take, get_or-reverse, length-take, length-reverse}
use Rattle.std.proofs.lemmas.Grind.{get_or_default_zero}
use Rattle.std.proofs.lemmas.List.FromFn.{get_or-enumerate_from, length-enumerate_from}
use Rattle.lists.specs.ByPlace.{StoredFirst}
use Rattle.lists.proofs.ByPlace.{list_of_is}
use Rattle.lists.proofs.StoreLoop.{stored_turn}
use Rattle.reversal.specs.Reversing.{reversed_code, reversed_ring, most_reversed, IsReversedCode, IsReversed}
use Rattle.reversal.proofs.RingTwice.{reversed_at, reversed_past}

-- What the loop goes over: the ring's edges from the last on, at most 256, each with its number.
abbrev pub last_first : List ℕ → List (ℕ × ℕ)
last_first ring = enumerate_from 0 (take most_reversed (reverse ring))

-- What turn n has: its number, and the ring's edge at m − 1 − n.
pub record Turn (ring : List ℕ) (n q edge : ℕ) : Type 0 where
  pub number : q ≡ n
  pub in_array : n < most_reversed
  pub in_ring : n < length ring
  pub edge_is : edge ≡ get_or ring (length ring - 1 - n) 0

module _ (ring : List ℕ) where
  -- There are as many turns as the ring has edges, and at most 256.
  pub turns_are : length (last_first ring) ≡ min most_reversed (length ring)
  turns_are = length-enumerate_from 0 (take most_reversed (reverse ring)) ∙ length-take most_reversed (reverse ring) ∙ ap (min most_reversed) (length-reverse ring)

  -- The edge of turn n.
  edge_at : {n : ℕ} (edge : ℕ) → n < most_reversed → n < length ring → length ring - 1 - n < length ring
      → get_or (take most_reversed (reverse ring)) n edge ≡ get_or ring (length ring - 1 - n) 0
  edge_at {n} edge in_array in_ring place =
      get_or-take most_reversed (reverse ring) n edge in_array ∙ get_or-reverse ring n edge in_ring ∙ get_or_default_zero ring (length ring - 1 - n) edge place

  -- Turn n.
  pub turn_is : {n q edge : ℕ} → (n < length (last_first ring)) × ((q, edge) ≡ get_or (last_first ring) n (q, edge)) → Turn ring n q edge
  turn_is {n} {q} {edge} turn =
      let pair = turn.1 ∙ get_or-enumerate_from 0 (take most_reversed (reverse ring)) n (q, edge)
      (omega (arith, length-enumerate_from 0 (take most_reversed (reverse ring)), turn.0)) in
      record {
        number = ap (λ (p : ℕ × ℕ). p.0) pair ∙ zero-add n;
        in_array = omega (arith, turns_are, turn.0);
        in_ring = omega (arith, turns_are, turn.0);
        edge_is = ap (λ (p : ℕ × ℕ). p.1) pair ∙ edge_at edge (omega (arith, turns_are, turn.0)) (omega (arith, turns_are, turn.0)) (omega (arith, turns_are, turn.0));
      }

  -- The invariant before turn q: the first q places have the reversed ring's edges, and the others are still 0.
  abbrev pub ReversedBelow : List ℕ → ℕ → Type 0
  ReversedBelow codes q = StoredFirst q (λ p. get_or (reversed_ring ring) p 0) (replicate most_reversed 0) codes

  -- A turn stores the reversed code of its edge at the place of its number.
  pub reversing_turn : {codes : List ℕ} {n q edge code : ℕ} → ReversedBelow codes n → Turn ring n q edge → IsReversedCode edge code
      → ReversedBelow (set codes q code) (n + 1)
  reversing_turn {codes} {n} {q} {edge} {code} before turn reversed =
      rw turn.number (stored_turn before (omega (arith, turn.in_array, length-replicate {A = ℕ} most_reversed 0))
      (reversed.is ∙ ap reversed_code turn.edge_is ∙ sym (reversed_at ring n turn.in_ring)))

  -- After the last turn the contract of `reverse` is met.
  pub reversing_end : {codes : List ℕ} {n : ℕ} → ReversedBelow codes n → n ≡ length (last_first ring) → IsReversed ring codes
  reversing_end {codes} {n} stored all = record {
    is = list_of_is codes most_reversed (λ p. get_or (reversed_ring ring) p 0) (stored.size ∙ length-replicate {A = ℕ} most_reversed 0)
        (λ p l. dite (dec_lt p n)
        (stored.first p)
        (λ behind.
        let past : length ring ≤ p = omega (arith, turns_are, behind) in
        stored.rest p (omega (arith, behind)) ∙ get_or-replicate most_reversed p 0 0 l ∙ sym (reversed_past ring p past)));
  }
