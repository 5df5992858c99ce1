-- The lowest place that passes a test, by its facts: it passes, and no place before it does; or no place passes. They determine it. Two tests that
-- agree on all places have the same lowest place.
use mathlib.Core.Path.{◌≡◌, refl, sym, ◌∙◌}
use mathlib.Core.Bool.{Bool, true, false, true≢false}
use mathlib.Core.Logic.{dite}
use Prim.Native.Nat.{ℕ, zero, suc, ◌+◌, ◌≤◌, ◌<◌}
use native.Mathlib.Decide.{dec_lt, ℕ_discrete}
use native.Mathlib.Omega.{arith}
use Rattle.lists.proofs.Cases.{by_test}
use Rattle.occurrences.specs.Storing.{lowest_place}

-- x is the lowest of the `count` places from `from` on that passes the test, or `none` if no one does.
pub data IsLowest (test : ℕ → Bool) (none from count x : ℕ) : Type 0 where
  one_passes : from ≤ x → x < from + count → test x ≡ true → ((q : ℕ) → from ≤ q → q < x → test q ≡ false) → IsLowest test none from count x
  no_one_passes : x ≡ none → ((q : ℕ) → from ≤ q → q < from + count → test q ≡ false) → IsLowest test none from count x

-- A place before them that does not pass changes nothing.
lowest_earlier : (test : ℕ → Bool) (none from count x : ℕ) → test from ≡ false → IsLowest test none (suc from) count x → IsLowest test none from (suc count) x
lowest_earlier test none from count x fails (one_passes a b t before) =
    one_passes (omega arith) (omega arith) t (λ q l h. dite (ℕ_discrete q from) (λ e. rw e fails) (λ other. before q (omega (arith, other)) h))
lowest_earlier test none from count x fails (no_one_passes is before) =
    no_one_passes is (λ q l h. dite (ℕ_discrete q from) (λ e. rw e fails) (λ other. before q (omega (arith, other)) (omega arith)))

-- `lowest_place` is the lowest place.
pub lowest_is : (test : ℕ → Bool) (none from count : ℕ) → IsLowest test none from count (lowest_place test none from count)
unfolding lowest_place
lowest_is test none from zero = no_one_passes refl (λ q l h. absurd (omega arith))
lowest_is test none from (suc count) = by_test (IsLowest test none from (suc count)) (test from)
    (λ e. one_passes (omega arith) (omega arith) e (λ q l h. absurd (omega arith)))
    (λ e. lowest_earlier test none from count (lowest_place test none (suc from) count) e (lowest_is test none (suc from) count))

-- Two lowest places are equal.
pub lowest_unique : {test : ℕ → Bool} {none from count x y : ℕ} → IsLowest test none from count x → IsLowest test none from count y → x ≡ y
lowest_unique {x = x} {y = y} (one_passes a b t before) (one_passes c d u earlier) = dite (dec_lt x y)
    (λ l. absurd (true≢false (sym t ∙ earlier x a l)))
    (λ l. dite (dec_lt y x) (λ h. absurd (true≢false (sym u ∙ before y c h))) (λ h. omega (arith, l, h)))
lowest_unique {x = x} (one_passes a b t before) (no_one_passes is fails) = absurd (true≢false (sym t ∙ fails x a b))
lowest_unique {y = y} (no_one_passes is fails) (one_passes c d u earlier) = absurd (true≢false (sym u ∙ fails y c d))
lowest_unique (no_one_passes is fails) (no_one_passes it also) = is ∙ sym it

-- Two tests that agree on the places have the same lowest place.
pub lowest_same : (f g : ℕ → Bool) (none from count : ℕ) → ((q : ℕ) → from ≤ q → q < from + count → f q ≡ g q)
    → lowest_place f none from count ≡ lowest_place g none from count
unfolding lowest_place
lowest_same f g none from zero same = refl
lowest_same f g none from (suc count) same =
    rw (same from (omega arith) (omega arith), lowest_same f g none (suc from) count (λ q l h. same q (omega arith) (omega arith))) refl
