-- Laws of `count`: a range can be split, shifted and counted backwards, and the count is at most its length. Induction on the length. The count is at least 1
-- exactly where some number passes.
use Prim.Native.Nat.{ℕ, zero, suc, ◌+◌, ◌-◌, ◌≤◌, ◌<◌}
use mathlib.Core.Path.{◌≡◌, refl, sym, ap, ◌∙◌}
use mathlib.Core.Bool.{Bool, true, false}
use native.Mathlib.Nat.{add-zero, zero-add, add-suc, suc-add}
use native.Mathlib.Numerals.{add-one}
use native.Mathlib.Omega.{arith}
use Rattle.meaning.specs.Counting.{one_if, count}

-- The count over x + y numbers is the count over the first x plus the count over the other y.
pub count_split : (p : ℕ → Bool) (a x y : ℕ) → count p a (x + y) ≡ count p a x + count p (a + x) y
unfolding count
count_split p a zero y = rw (zero-add y, add-zero a, zero-add)
count_split p a (suc x) y =
    ap (count p a) (suc-add x y) ∙ ap (λ (n : ℕ). one_if (p a) + n) (count_split p (suc a) x y)
    ∙ rw (suc-add a x, ← add-suc a x) (omega arith)

-- The count over n + 1 numbers is the count over the first n, plus 1 if the last one passes.
pub count_last : (p : ℕ → Bool) (a n : ℕ) → count p a (suc n) ≡ count p a n + one_if (p (a + n))
unfolding count
count_last p a n = ap (count p a) (sym (add-one n)) ∙ count_split p a n 1 ∙ omega arith

-- If p at x is p' at d + x, the count of p over a range is the count of p' over the range d further on.
pub count_shift : (p p' : ℕ → Bool) (d : ℕ) → ((x : ℕ) → p x ≡ p' (d + x)) → (a n : ℕ) → count p a n ≡ count p' (d + a) n
unfolding count
count_shift p p' d h a zero = refl
count_shift p p' d h a (suc n) = rw (h a, count_shift p p' d h (suc a) n, add-suc d a)

-- `one_if` is at most 1.
pub one_if_le : (t : Bool) → one_if t ≤ 1
one_if_le true = omega arith
one_if_le false = omega arith

-- A count is at most the length of its range.
pub count_le : (p : ℕ → Bool) (a n : ℕ) → count p a n ≤ n
unfolding count
count_le p a zero = omega arith
count_le p a (suc n) = omega (arith, one_if_le (p a), count_le p (suc a) n)

-- The count over a part of a range is at most the count over the whole.
pub count_part_le : (p : ℕ → Bool) (a x v y : ℕ) → count p (a + x) v ≤ count p a (x + v + y)
count_part_le p a x v y = omega (arith, count_split p a (x + v) y, count_split p a x v)

-- If a number of the range passes the test, the count is at least 1.
pub count_some : (p : ℕ → Bool) (a n x : ℕ) → a ≤ x → x < a + n → p x ≡ true → 1 ≤ count p a n
unfolding count
count_some p a n x lo hi passes =
    let there : a + (x - a) ≡ x = omega arith in
    let parts : x - a + 1 + (a + n - x - 1) ≡ n = omega arith in
    let here : count p (a + (x - a)) 1 ≡ 1 = rw (there, passes) refl in
    omega (arith, here, count_part_le p a (x - a) 1 (a + n - x - 1), ap (count p a) parts)

-- If no number of the range passes the test, the count is 0.
pub count_none : (p : ℕ → Bool) (a n : ℕ) → ((x : ℕ) → a ≤ x → x < a + n → p x ≡ false) → count p a n ≡ 0
unfolding count
count_none p a zero h = refl
count_none p a (suc n) h =
    let here : one_if (p a) ≡ 0 = ap one_if (h a (omega arith) (omega arith)) in
    omega (arith, here, count_none p (suc a) n (λ x lo hi. h x (omega arith) (omega arith)))

-- If the count is at least 1, some number of the range passes the test.
pub count_has : (p : ℕ → Bool) (a n : ℕ) → 1 ≤ count p a n → (x : ℕ) × (a ≤ x) × (x < a + n) × (p x ≡ true)
unfolding count
count_has p a zero h = absurd (omega arith)
count_has p a (suc n) h = go (p a) refl (count_has p (suc a) n)
  where
    go : (t : Bool) → p a ≡ t → (1 ≤ count p (suc a) n → (x : ℕ) × (suc a ≤ x) × (x < suc a + n) × (p x ≡ true))
        → (x : ℕ) × (a ≤ x) × (x < a + suc n) × (p x ≡ true)
    go true e later = (a, omega arith, omega arith, e)
    go false e later =
        let found = later (omega (arith, h, ap one_if e)) in
        (found.0, omega (arith, found.1), omega (arith, found.2), found.3)

-- Two tests that agree on a range have the same count over it.
pub count_same : (p p' : ℕ → Bool) (a n : ℕ) → ((x : ℕ) → a ≤ x → x < a + n → p x ≡ p' x) → count p a n ≡ count p' a n
unfolding count
count_same p p' a zero h = refl
count_same p p' a (suc n) h =
    rw (h a (omega arith) (omega arith)) (ap (λ (c : ℕ). one_if (p' a) + c) (count_same p p' (suc a) n (λ x lo hi. h x (omega arith) (omega arith))))

-- If p at q is p' at n − 1 − q, for each of n places q, the two counts over these places are the same: they count from either end.
pub count_backwards : (p p' : ℕ → Bool) (n : ℕ) → ((q : ℕ) → q < n → p q ≡ p' (n - 1 - q)) → count p 0 n ≡ count p' 0 n
unfolding count
count_backwards p p' n h = from 0 n (λ q l. ap p (zero-add q) ∙ h q l)
  where
    from : (a n : ℕ) → ((q : ℕ) → q < n → p (a + q) ≡ p' (n - 1 - q)) → count p a n ≡ count p' 0 n
    from a zero same = refl
    from a (suc n) same =
        let last : suc n - 1 - 0 ≡ 0 + n = omega arith in
        let first : p a ≡ p' (0 + n) = ap p (sym (add-zero a)) ∙ same 0 (omega arith) ∙ ap p' last in
        let others : count p (suc a) n ≡ count p' 0 n =
        from (suc a) n
        (λ q l.
        let before : suc n - 1 - suc q ≡ n - 1 - q = omega arith in
        ap p (suc-add a q ∙ sym (add-suc a q)) ∙ same (suc q) (omega arith) ∙ ap p' before) in
        omega (arith, ap one_if first, others, count_last p' 0 n)
