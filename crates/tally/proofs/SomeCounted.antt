-- `count_run` counts some neighbouring edges, one or four. They are compared with the doubled ring, from the ring place on that rotation 0 has over the first;
-- `place_under_is` proves that `to_ring` gives that place. What they add to the count of rotation r is what the number of differing places grows by
-- (`run_counted_lem`).
use Prim.Native.Nat.{ℕ, ◌+◌, ◌*◌, ◌%◌, ◌≤◌, ◌<◌}
use mathlib.Core.Path.{◌≡◌, refl, sym, ap, ◌∙◌}
use mathlib.Core.Bool.{Bool}
use mathlib.Core.List.{List}
use native.Mathlib.Nat.{zero-add, add-zero, mul_comm, mod-eq_of_lt}
use native.Mathlib.Numerals.{add-one}
use native.Mathlib.Omega.{arith}
use lib.ListN.{length, get_or}
use Rattle.std.specs.List.{between}
use Rattle.std.proofs.lemmas.List.Edits.{get_or-between}
use Rattle.meaning.specs.Counting.{one_if, count}
use Rattle.meaning.specs.Meanings.{unequal}
use Rattle.meaning.proofs.Count.{count_last, count_same, count_shift, one_if_le}
use Rattle.answers.specs.Places.{IsRingPlace}
use Rattle.answers.specs.declared.places.RingPlace.{RingPlace}
use Rattle.answers.specs.declared.places.LinePlace.{LinePlace}
use Rattle.answers.proofs.PlacesUndo.{ring_place_is}
use Rattle.lists.specs.ByPlace.{StoredFirst}
use Rattle.tally.specs.Marks.{past_after, past_mark, IsPastMark}
use Rattle.tally.specs.Counts.{differs_there, IsComparison, differs_over, run_counted, CanCountOn, IsCountedOn}
use Rattle.tally.proofs.PastMark.{past_next}

-- For the window's place q and rotation 0, `to_ring` gives ring place q.
pub place_under_is : (place start : LinePlace) (under : RingPlace) (m q : ℕ) → place.0 ≡ start.0 + q → q < m
    → IsRingPlace place start (record { 0 = 0 }) m under → under.0 ≡ q
place_under_is place start under m q along h converted =
    ap (λ (p : RingPlace). p.0) converted.is
    ∙ ring_place_is start (record { 0 = 0 }) m (omega arith) place q along
    ∙ ap (λ (n : ℕ). n % m) (zero-add q)
    ∙ mod-eq_of_lt h

-- A comparison is at most 1.
pub comparison_le : {a b d : ℕ} → IsComparison a b d → d ≤ 1
comparison_le {a} {b} one = omega (arith, one.is, one_if_le (unequal a b))

-- One comparison more: what it adds is what the number of differing edges grows by.
pub compared_next : (p : ℕ → Bool) (e : ℕ) {differ one : ℕ} → differ ≡ count p 0 e → one ≡ one_if (p e) → differ + one ≡ count p 0 (e + 1)
compared_next p e known is =
    omega (arith, known, is, ap (count p 0) (add-one e), count_last p 0 e, ap (λ (s : ℕ). one_if (p s)) (zero-add e))

-- One edge more is asked whether it is a mark: the one at p, just before `next`.
pub past_on : (window : List ℕ) {past past' : ℕ} (p next : ℕ) → next ≡ p + 1 → past ≡ past_mark window 0 p → IsPastMark (get_or window p 0) past next past'
    → past' ≡ past_mark window 0 next
past_on window p next follows known asked =
    asked.is ∙ ap (λ (x : ℕ). past_after (get_or window p 0) x next) known
    ∙ rw follows (past_next window 0 p p (sym (zero-add p)) ∙ ap (past_mark window 0) (sym (add-one p)))

module _ {doubled window old : List ℕ} {last q end past : ℕ} (can : CanCountOn doubled window old last q end past) where
  -- `to_ring` gives ring place q for the window's place q and rotation 0.
  pub placed_at : {under : RingPlace} → IsRingPlace (record { 0 = q }) (record { 0 = 0 }) (record { 0 = 0 }) (length window) under → under.0 ≡ q
  placed_at converted = place_under_is _ _ _ _ _ (sym (zero-add _)) (omega (arith, can.has_edge, can.end_le)) converted

-- Read as n edges of their own from place 0 on, the window's edges at q differ from a rotation's where the window does.
run_differs : (doubled window : List ℕ) (q n r : ℕ) → count (differs_over doubled (between q (q + n) window) q r) 0 n ≡ count (differs_there doubled window r) q n
run_differs doubled window q n r =
    let there : (ℕ → Bool) = differs_there doubled window r in
    count_same (differs_over doubled (between q (q + n) window) q r) (λ x. there (q + x)) 0 n
    (λ x _ l. ap (λ (e : ℕ). unequal e (get_or doubled (q + x + r) 0)) (get_or-between window q (q + n) x 0 (omega arith)))
    ∙ count_shift (λ x. there (q + x)) there q (λ x. refl) 0 n
    ∙ ap (λ (a : ℕ). count there a n) (add-zero q)

-- The n edges at q are counted for every rotation.
pub run_counted_lem : (doubled window old new : List ℕ) {last q n past place looks past' : ℕ} → CanCountOn doubled window old last q (q + n) past → place ≡ q
    → StoredFirst (length window) (run_counted doubled old place (between q (q + n) window) n) old new × (looks ≡ length window * n)
    → past' ≡ past_mark window 0 (q + n) → IsCountedOn doubled window q (q + n) old new (record { edges = n; looks = looks; past = past' })
run_counted_lem doubled window old new {q = q} {n = n} can placed counted asked = record {
  some = omega (arith, can.has_edge);
  within = omega arith;
  stored = record {
    size = counted.0.size;
    first = λ r l. counted.0.first r l ∙ rw placed (ap (λ (c : ℕ). get_or old r 0 + c) (run_differs doubled window q n r));
    rest = counted.0.rest;
  };
  looks_are = counted.1 ∙ mul_comm (length window) n;
  past_is = asked;
}
