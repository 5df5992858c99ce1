-- Document 01, "The report program": numbers as its output has them, in decimal digits without leading zeros, as bytes of ASCII.
--
--   digit                      the byte of a digit
--   digits_within, decimal     the bytes of a number: at most a given number of digits; all
--   decimal_value, AllDigits   the number that digits give; each byte is a digit
--   IsDecimal                  the bytes of a number without division: digits that give the number, with no leading zero
--
-- `decimal` recurses on a bound for the number of digits. Read instead its two equations `decimal_one` and `decimal_more` of proofs/DecimalDigits.antt, or
-- `decimal_is` of proofs/DecimalReadBack.antt, which gives `IsDecimal`.
use Rattle.std.specs.Prelude.{ℕ, zero, suc, ◌+◌, ◌-◌, ◌*◌, ◌/◌, ◌%◌, ◌≤◌, ◌<◌, ◌≡◌, cond, List, [], ◌∷◌, ◌++◌, ltb, length, get_or}

-- The byte of a digit, 0 to 9: 30 hex for 0, and on from there.
abbrev pub digit : ℕ → ℕ
digit d = 0x30 + d

-- The digits of a number, the last one last. The first argument bounds how many: where it is too small, the leading digits are missing.
unfoldable pub digits_within : ℕ → ℕ → List ℕ
digits_within zero n = []
digits_within (suc most) n =
    let earlier : List ℕ = digits_within most (n / 10) in
    cond (ltb n 10) (digit n ∷ []) (earlier ++ digit (n % 10) ∷ [])

-- A number in decimal digits without leading zeros. (It has at most n + 1 digits.)
unfoldable pub decimal : ℕ → List ℕ
decimal n = digits_within (suc n) n

-- The number that digits give, read one after the other; `n` is the number that the digits before them gave.
unfoldable pub decimal_value : ℕ → List ℕ → ℕ
decimal_value n [] = n
decimal_value n (d ∷ ds) = decimal_value (n * 10 + (d - digit 0)) ds

-- Each byte is that of a digit.
abbrev pub AllDigits : List ℕ → Type 0
AllDigits [] = Unit {0}
AllDigits (d ∷ ds) = ((digit 0 ≤ d) × (d ≤ digit 9)) × AllDigits ds

-- These bytes are the number's decimal digits, and the first is a 0 only if it is the only one.
pub record IsDecimal (n : ℕ) (text : List ℕ) : Type 0 where
  pub some_digit : 0 < length text
  pub all_digits : AllDigits text
  pub value_is : decimal_value 0 text ≡ n
  pub no_leading_zero : get_or text 0 0 ≡ digit 0 → text ≡ digit 0 ∷ []
