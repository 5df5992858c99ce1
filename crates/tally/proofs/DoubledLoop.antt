-- `double` copies the ring to the first m places and to the next m; past 2·m nothing is stored. So the edge at s is the ring's at s mod m: for s below m this is s,
-- and for s from m on it is s − m.
use Prim.Native.Nat.{ℕ, ◌+◌, ◌-◌, ◌*◌, ◌%◌, ◌≤◌, ◌<◌}
use mathlib.Core.Path.{◌≡◌, refl, sym, ap, ◌∙◌}
use mathlib.Core.List.{List, ◌++◌}
use mathlib.Core.Logic.{dite}
use native.Mathlib.Nat.{mod-eq_of_lt, add-mod_left}
use native.Mathlib.Decide.{dec_lt}
use native.Mathlib.Omega.{arith}
use lib.Dec.{ltb}
use lib.ListN.{length, drop, get_or, replicate, length-replicate, get_or-replicate}
use borrow.Author.Tests.{ltb-true, ltb-false, lt-ltb, le-leb, lt-leb}
use borrow.Rule.Slice.PartMut.{put_mid, post_of}
use Rattle.std.proofs.Common.{rules}
use Rattle.std.proofs.lemmas.List.{places, take_at, drop_at, length-append, length-drop, get_or-drop, get_or-append_right}
use Rattle.lists.proofs.Cases.{by_test}
use Rattle.tally.specs.Counts.{most_counts, doubled_edge, IsDoubled}
use Rattle.lists.proofs.ByPlace.{list_of_is, list_of_at, list_of_length}

-- The edges of both rings are stored, and past 2·m all is 0.
pub record Doubling (ring doubled : List ℕ) : Type 0 where
  pub size : length doubled ≡ 2 * most_counts
  pub first : (s : ℕ) → s < length ring → get_or doubled s 0 ≡ get_or ring s 0
  pub second : (s : ℕ) → s < length ring → get_or doubled (length ring + s) 0 ≡ get_or ring s 0
  pub past : (s : ℕ) → 2 * length ring ≤ s → s < 2 * most_counts → get_or doubled s 0 ≡ 0

module _ (ring : List ℕ) where
  abbrev m : ℕ
  m = length ring

  -- For a ring of more than 256 edges, all zeros meet the contract of `double`.
  pub not_doubled : most_counts < m → IsDoubled ring (replicate (2 * most_counts) 0)
  unfolding doubled_edge
  not_doubled long = record {
    is = list_of_is (replicate (2 * most_counts) 0) (2 * most_counts) (doubled_edge ring) (length-replicate {A = ℕ} (2 * most_counts) 0)
        (λ p l. get_or-replicate (2 * most_counts) p 0 0 l ∙ rw (lt-leb m most_counts long) refl);
  }

  module _ (most : m ≤ most_counts) where
    -- The ring copied to the first m places and to the next m, over zeros.
    pub doubling_copied : {first second : List ℕ} → first ≡ ring → second ≡ ring
        → Doubling ring (put_mid m (2 * m - m) (first ++ post_of 0 m (replicate (2 * most_counts) 0)) second)
    doubling_copied one two =
        let zeros = replicate {A = ℕ} (2 * most_counts) 0 in
        let behind = post_of 0 m zeros in
        let tail = drop (2 * m - m) behind in
        let size : length (ring ++ (ring ++ tail)) ≡ 2 * most_counts = omega (arith, length-append ring (ring ++ tail), length-append ring tail, length-drop (2 * m - m) behind, length-drop m zeros, length-replicate {A = ℕ} (2 * most_counts) 0) in
        rw (one, two, take_at ring behind m refl, drop_at ring behind m refl) (record {
          size = size;
          first = λ s l. search (rules, places);
          second = λ s l. search (rules, places);
          past = λ s l below.
              get_or-append_right ring (ring ++ tail) m s 0 refl (omega arith) ∙ get_or-append_right ring tail m (s - m) 0 refl (omega arith)
              ∙ get_or-drop (2 * m - m) behind (s - m - m) 0
              ∙ get_or-drop m zeros (2 * m - m + (s - m - m)) 0
              ∙ get_or-replicate (2 * most_counts) (m + (2 * m - m + (s - m - m))) 0 0 (omega arith);
        })

    -- So the edge at s is the ring's at s mod m.
    edge_in : (doubled : List ℕ) → Doubling ring doubled → (s : ℕ) → s < 2 * m → get_or doubled s 0 ≡ get_or ring (s % m) 0
    edge_in doubled known s l = dite (dec_lt s m)
        (λ in_first. rw (mod-eq_of_lt in_first) (known.first s (omega arith)))
        (λ behind.
        let q : ℕ = s - m in
        let whole : s ≡ m + q = omega (arith, behind) in
        let in_second : q < m = omega (arith, behind) in
        ap (λ (t : ℕ). get_or doubled t 0) whole ∙ known.second q (omega arith)
        ∙ ap (λ (t : ℕ). get_or ring t 0) (sym (ap (λ (t : ℕ). t % m) whole ∙ add-mod_left m q ∙ mod-eq_of_lt in_second)))

    -- So the contract of `double` is met.
    pub doubling_end : (doubled : List ℕ) → Doubling ring doubled → IsDoubled ring doubled
    unfolding doubled_edge
    doubling_end doubled known = record {
      is = list_of_is doubled (2 * most_counts) (doubled_edge ring) known.size
          (λ s l. rw (le-leb m most_counts most)
          (by_test (λ (x : ℕ). get_or doubled s 0 ≡ x) (ltb s (2 * m))
          (λ e. edge_in doubled known s (ltb-true s (2 * m) e))
          (λ e. known.past s (ltb-false s (2 * m) e) l)));
    }

    -- A doubled ring has at place s, for s below 2·m, the ring's edge at s mod m.
    pub doubled_edge_lem : (doubled : List ℕ) → IsDoubled ring doubled → (s : ℕ) → s < 2 * m → get_or doubled s 0 ≡ get_or ring (s % m) 0
    unfolding doubled_edge
    doubled_edge_lem doubled twice s l =
        ap (λ (xs : List ℕ). get_or xs s 0) twice.is ∙ list_of_at (2 * most_counts) (doubled_edge ring) s (omega arith)
        ∙ rw (le-leb m most_counts most, lt-ltb s (2 * m) l) refl

  -- A doubled ring has 512 places, whatever the ring.
  pub doubled_length : (doubled : List ℕ) → IsDoubled ring doubled → length doubled ≡ 2 * most_counts
  doubled_length doubled twice = ap length twice.is ∙ list_of_length (2 * most_counts) (doubled_edge ring)
