-- `decimal` gives a number's decimal digits, as `IsDecimal` defines them without division: they are digits, read back they give the number, and none is a leading
-- zero. By recursion on a tenth of the number: one more digit behind its digits leaves the first digit as it is.
use Prim.Native.Nat.{ℕ, zero, suc, ◌+◌, ◌-◌, ◌*◌, ◌/◌, ◌%◌, ◌≤◌, ◌<◌}
use mathlib.Core.Path.{◌≡◌, refl, sym, ap, subst, ◌∙◌}
use mathlib.Core.Logic.{⊎_elim}
use mathlib.Core.List.{List, [], ◌∷◌, ◌++◌}
use native.Mathlib.Omega.{arith}
use lib.ListN.{get_or, length-append, get_or-append}
use Rattle.lists.proofs.Cases.{le_or_lt}
use Rattle.reply.specs.Decimal.{digit, decimal, decimal_value, AllDigits, IsDecimal}
use Rattle.reply.proofs.DecimalDigits.{decimal_one, decimal_more}

-- the value with one more digit at the end
value_more : (n : ℕ) (ds : List ℕ) (d : ℕ) → decimal_value n (ds ++ d ∷ []) ≡ decimal_value n ds * 10 + (d - digit 0)
unfolding decimal_value
value_more n [] d = refl
value_more n (e ∷ ds) d = value_more (n * 10 + (e - digit 0)) ds d

-- with one more digit at the end all are digits
digits_more : (ds : List ℕ) (d : ℕ) → d < 10 → AllDigits ds → AllDigits (ds ++ digit d ∷ [])
digits_more [] d h all = ((omega arith, omega arith), tt)
digits_more (e ∷ ds) d h all = (all.0, digits_more ds d h all.1)

-- a number of one digit
one_digit : (n : ℕ) → n < 10 → IsDecimal n (digit n ∷ [])
unfolding decimal_value
one_digit n h = record {
  some_digit = omega arith;
  all_digits = ((omega arith, omega arith), tt);
  value_is = omega arith;
  no_leading_zero = λ e. ap (λ (d : ℕ). d ∷ []) e;
}

-- the digits of a tenth of the number, and its last digit
more_digits : (n : ℕ) (ds : List ℕ) → 10 ≤ n → IsDecimal (n / 10) ds → IsDecimal n (ds ++ digit (n % 10) ∷ [])
unfolding decimal_value
more_digits n ds h tenth =
    let first : get_or (ds ++ digit (n % 10) ∷ []) 0 0 ≡ get_or ds 0 0 = get_or-append ds (digit (n % 10) ∷ []) 0 0 tenth.some_digit in
    let not_zero_lem : get_or ds 0 0 ≡ digit 0 → ⊥ =
    λ e.
    let zero_value : decimal_value 0 ds ≡ 0 = ap (decimal_value 0) (tenth.no_leading_zero e) in
    omega (arith, tenth.value_is) in
    record {
      some_digit = omega (arith, length-append ds (digit (n % 10) ∷ []));
      all_digits = digits_more ds (n % 10) (omega arith) tenth.all_digits;
      value_is = omega (arith, value_more 0 ds (digit (n % 10)), tenth.value_is);
      no_leading_zero = λ e. absurd (not_zero_lem (sym first ∙ e));
    }

-- by recursion on a bound above the number
decimal_within : (most n : ℕ) → n < most → IsDecimal n (decimal n)
decimal_within zero n h = absurd (omega arith)
decimal_within (suc most) n h =
    ⊎_elim
    (λ more. subst (IsDecimal n) (sym (decimal_more n more)) (more_digits n (decimal (n / 10)) more (decimal_within most (n / 10) (omega arith))))
    (λ one. subst (IsDecimal n) (sym (decimal_one n one)) (one_digit n one))
    (le_or_lt 10 n)

-- The bytes of `decimal n` are the decimal digits of n, without leading zeros.
pub decimal_is : (n : ℕ) → IsDecimal n (decimal n)
decimal_is n = decimal_within (suc n) n (omega arith)
