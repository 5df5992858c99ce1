-- Lists whose numbers are all below a bound: bytes and 32-bit words. Facts and tests agree by `all_below_iff` of proofs/.
use Rattle.std.specs.Prelude.{ℕ, ◌<◌, ◌^◌, Bool, true, ◌&&◌, List, [], ◌∷◌, ltb, get_or}

-- Every number of the list is below the bound. (`get_or` gives 0 past the list's end, so the bound is above 0.)
pub record AllBelow (bound : ℕ) (numbers : List ℕ) : Type 0 where
  pub each_lt : (i : ℕ) → get_or numbers i 0 < bound

-- Whether every number of the list is below the bound: `AllBelow` as a test, for a bound above 0.
abbrev pub all_below : ℕ → List ℕ → Bool
all_below bound [] = true
all_below bound (number ∷ numbers) = ltb number bound && all_below bound numbers

-- Every number of the list is a byte, "0 to 255".
abbrev pub IsBytes : List ℕ → Type 0
IsBytes = AllBelow (2 ^ 8)

-- Every number of the list fits a 32-bit word.
abbrev pub IsWords : List ℕ → Type 0
IsWords = AllBelow (2 ^ 32)

-- `IsWords` as a test.
abbrev pub is_words : List ℕ → Bool
is_words = all_below (2 ^ 32)
