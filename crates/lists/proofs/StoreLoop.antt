-- A loop that stores f r at place r of a list in turn r, for r from 0 on. Before turn r the first r places have f and the others are as they were:
-- `StoredFirst r` is the loop's invariant, and `StoredFirst m` is what m turns have done.
use Prim.Native.Nat.{ℕ, ◌+◌, ◌≤◌, ◌<◌}
use mathlib.Core.Path.{◌≡◌, refl, ◌∙◌}
use mathlib.Core.List.{List}
use mathlib.Core.Logic.{dite}
use native.Mathlib.Decide.{ℕ_discrete}
use native.Mathlib.Omega.{arith}
use lib.Dec.{ltb}
use lib.ListN.{length, get_or, set, length-set}
use lib.Seq.{get_or-set_same, get_or-set_other}
use borrow.Author.Tests.{ltb-true, ltb-false, lt-ltb}
use Rattle.lists.specs.ByPlace.{list_of, stored_first, StoredFirst}
use Rattle.lists.proofs.Cases.{by_test}
use Rattle.lists.proofs.ByPlace.{list_of_length, list_of_at, list_of_is}

module _ {f : ℕ → ℕ} {old : List ℕ} where
  -- Before the first turn nothing is stored.
  pub stored_start : StoredFirst 0 f old old
  stored_start = record { size = refl; first = λ p l. absurd (omega arith); rest = λ p l. refl }

  -- Turn r stores f r at place r.
  pub stored_turn : {xs : List ℕ} {r v : ℕ} → StoredFirst r f old xs → r < length old → v ≡ f r → StoredFirst (r + 1) f old (set xs r v)
  stored_turn {xs} {r} {v} before below is = record {
    size = length-set xs r v ∙ before.size;
    first = λ p l. dite (ℕ_discrete p r)
        (λ here. rw here (get_or-set_same xs r v 0 (omega (arith, before.size)) ∙ is))
        (λ other. get_or-set_other xs r p v 0 other ∙ before.first p (omega (arith, other)));
    rest = λ p l. get_or-set_other xs r p v 0 (λ e. omega arith) ∙ before.rest p (omega arith);
  }

  -- When r has reached m, the first m places have f.
  pub stored_end : {xs : List ℕ} {r m : ℕ} → StoredFirst r f old xs → r ≡ m → StoredFirst m f old xs
  stored_end stored all = rw all at stored

  -- A list that satisfies `StoredFirst m f old` is `stored_first m f old`.
  pub stored_is : {xs : List ℕ} {m : ℕ} → StoredFirst m f old xs → xs ≡ stored_first m f old
  unfolding stored_first
  stored_is {xs} {m} stored =
      list_of_is xs (length old) _ stored.size
      (λ p l. by_test (λ (x : ℕ). get_or xs p 0 ≡ x) (ltb p m) (λ e. stored.first p (ltb-true p m e)) (λ e. stored.rest p (ltb-false p m e)))

  -- A list that satisfies `StoredFirst m f old` is `list_of m f`, if it has m places only.
  pub stored_all : {xs : List ℕ} {m : ℕ} → StoredFirst m f old xs → length old ≡ m → xs ≡ list_of m f
  stored_all {xs} {m} stored size = list_of_is xs m f (stored.size ∙ size) stored.first

module _ (m : ℕ) (f : ℕ → ℕ) (old : List ℕ) where
  -- `stored_first` keeps the length of the list.
  pub stored_first_length : length (stored_first m f old) ≡ length old
  unfolding stored_first
  stored_first_length = list_of_length (length old) _

  -- `stored_first m f old` has f p at each of its first m places p, if there are that many.
  pub stored_first_at : (p : ℕ) → p < m → m ≤ length old → get_or (stored_first m f old) p 0 ≡ f p
  unfolding stored_first
  stored_first_at p l room = list_of_at (length old) _ p (omega arith) ∙ rw (lt-ltb p m l) refl

-- If f and then g are stored at the first m places, and g is h there, the result is the first list with h stored.
pub stored_again : {m : ℕ} {f g h : ℕ → ℕ} {a b c : List ℕ} → StoredFirst m f a b → StoredFirst m g b c → ((p : ℕ) → p < m → g p ≡ h p) → StoredFirst m h a c
stored_again once again is = record {
  size = again.size ∙ once.size;
  first = λ p l. again.first p l ∙ is p l;
  rest = λ p l. again.rest p l ∙ once.rest p l;
}
