-- The helpers of the meanings, which mention no ring and no line: counting, the lowest number at which a function is least, whether some number below n
-- passes a test, and the first that passes it.
use Rattle.std.specs.Prelude.{ℕ, zero, suc, ◌+◌, Bool, true, false, cond, ◌||◌, ltb}

-- 1 if the test is true, else 0: what it adds to a count.
abbrev pub one_if : Bool → ℕ
one_if true = 1
one_if false = 0

-- How many of the n numbers a, a + 1, .. pass the test.
unfoldable pub count : (ℕ → Bool) → ℕ → ℕ → ℕ
count p a zero = 0
count p a (suc n) = one_if (p a) + count p (suc a) n

-- The lowest of the numbers below n at which f is least (0 where n is 0). A later number is taken only if f is less there.
unfoldable pub lowest : (ℕ → ℕ) → ℕ → ℕ
lowest f zero = 0
lowest f (suc n) = let before : ℕ = lowest f n in cond (ltb (f n) (f before)) n before

-- Whether some number below n passes the test.
unfoldable pub some_below : (ℕ → Bool) → ℕ → Bool
some_below p zero = false
some_below p (suc n) = some_below p n || p n

-- The first of the n numbers a, a + 1, .. that passes the test; a + n if none does.
unfoldable pub first_from : (ℕ → Bool) → ℕ → ℕ → ℕ
first_from p a zero = a
first_from p a (suc n) = let later : ℕ = first_from p (suc a) n in cond (p a) a later

-- The first number below n that passes the test; n if none does.
abbrev pub first_below : (ℕ → Bool) → ℕ → ℕ
first_below p = first_from p 0
