-- Decimal digits by their two equations: a number below 10 is one digit, and any other is the digits of a tenth of it and then its last digit. With
-- them no proof needs the bound that `decimal` recurses on: any bound above the number gives the same digits (`digits_enough`). And a number below 10 to the power of
-- c + 1 has at most c + 1 digits.
use Prim.Native.Nat.{ℕ, zero, suc, ◌/◌, ◌%◌, ◌^◌, ◌≤◌, ◌<◌}
use mathlib.Core.Path.{◌≡◌, sym, ap, ◌∙◌}
use mathlib.Core.List.{List, [], ◌∷◌, ◌++◌}
use mathlib.Core.Logic.{⊎_elim}
use native.Mathlib.Nat.{pow-suc}
use native.Mathlib.Omega.{arith}
use lib.ListN.{length, length-append}
use borrow.Author.Tests.{lt-ltb, le-ltb}
use Rattle.std.specs.Fmt.{decimal as printed}
use Rattle.std.proofs.lemmas.Fmt.{decimal_from_appends, length-decimal-le_succ}
use Rattle.lists.proofs.Cases.{le_or_lt}
use Rattle.reply.specs.Decimal.{digit, digits_within, decimal}

-- one digit
within_one : (most n : ℕ) → n < 10 → digits_within (suc most) n ≡ digit n ∷ []
unfolding digits_within
within_one most n h = simp (lt-ltb n 10 h)

-- one digit more
within_more : (most n : ℕ) → 10 ≤ n → digits_within (suc most) n ≡ digits_within most (n / 10) ++ digit (n % 10) ∷ []
unfolding digits_within
within_more most n h = simp (le-ltb n 10 h)

-- Any two bounds above the number give the same digits.
digits_enough : (a b n : ℕ) → n < a → n < b → digits_within a n ≡ digits_within b n
digits_enough zero b n h k = absurd (omega arith)
digits_enough (suc a) zero n h k = absurd (omega arith)
digits_enough (suc a) (suc b) n h k =
    ⊎_elim
    (λ more.
    within_more a n more
    ∙ ap (λ (l : List ℕ). l ++ digit (n % 10) ∷ []) (digits_enough a b (n / 10) (omega arith) (omega arith))
    ∙ sym (within_more b n more))
    (λ one. within_one a n one ∙ sym (within_one b n one))
    (le_or_lt 10 n)

-- A number below 10 is one digit.
pub decimal_one : (n : ℕ) → n < 10 → decimal n ≡ digit n ∷ []
unfolding decimal
decimal_one n h = within_one n n h

-- A number of 10 or more is the digits of a tenth of it, and its last digit.
pub decimal_more : (n : ℕ) → 10 ≤ n → decimal n ≡ decimal (n / 10) ++ digit (n % 10) ∷ []
unfolding decimal
decimal_more n h =
    within_more n n h ∙ ap (λ (l : List ℕ). l ++ digit (n % 10) ∷ []) (digits_enough n (suc (n / 10)) (n / 10) (omega arith) (omega arith))

-- What the library prints of a number of 64 bits are these digits.
pub decimal_printed : (n : ℕ) → n < 2 ^ 64 → printed n ≡ decimal n
unfolding decimal
decimal_printed n fits =
    sym (decimal_from_appends digits_within (record { one = within_one; more = within_more }) (suc n) n fits (omega (arith, length-decimal-le_succ n fits)))

-- A number below 10 to the power of c + 1 has at most c + 1 digits.
pub decimal_length_le : (c n : ℕ) → n < 10 ^ suc c → length (decimal n) ≤ suc c
decimal_length_le zero n h = rw (decimal_one n (omega arith)) (omega arith)
decimal_length_le (suc c) n h =
    ⊎_elim
    (λ more.
    rw (decimal_more n more)
    (omega (
      arith,
      length-append (decimal (n / 10)) (digit (n % 10) ∷ []),
      decimal_length_le c (n / 10) (omega (arith, pow-suc 10 (suc c))),
    )))
    (λ one. rw (decimal_one n one) (omega arith))
    (le_or_lt 10 n)
