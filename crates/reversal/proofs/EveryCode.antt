-- A law for every code, by one test that the checker computes. The test compares two lists of 256 numbers: what one function gives for the codes 0 to 255, and
-- what another gives. If the lists are equal, the functions agree at every code.
use Prim.Native.Nat.{ℕ, ◌<◌}
use mathlib.Core.Path.{◌≡◌, sym, ap, ◌∙◌}
use mathlib.Core.List.{List}
use lib.ListN.{get_or}
use Rattle.lists.specs.ByPlace.{list_of}
use Rattle.lists.proofs.ByPlace.{list_of_at}

-- "a table of 256 codes": every byte is a code.
abbrev pub all_codes : ℕ
all_codes = 256

-- If two functions give equal lists for the numbers below n, they agree at each of these numbers.
pub agree_below : (n : ℕ) (f g : ℕ → ℕ) → list_of n f ≡ list_of n g → (p : ℕ) → p < n → f p ≡ g p
agree_below n f g same p l = sym (list_of_at n f p l) ∙ ap (λ (xs : List ℕ). get_or xs p 0) same ∙ list_of_at n g p l
