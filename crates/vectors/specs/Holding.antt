-- What the scan does with vectors. Rule 2: "A stretch is held, empty at first, and grows to the left by each edge read"; "003 decides the fit
-- with one occurrence vector of m bits per edge code, rotated at each edge". No definition here mentions a stretch; that bit r says whether the
-- held stretch is the beginning of rotation r is proved in WindowLoop of crates/meaning.
--     both, Both     AND, bit for bit
--     grown, Grown     the held vector rotated, AND the read edge's occurrence vector
use Rattle.std.specs.Prelude.{◌≡◌, false, ◌&&◌, List, ℕ, ◌+◌, ◌%◌, ◌≤◌, ◌<◌, length, get_or}
use Rattle.std.specs.Int.Bits.{bit_and}
use Rattle.vectors.specs.Bits.{is_set}
use Rattle.lists.specs.ByPlace.{list_of}
use Rattle.vectors.specs.Rotating.{rotated}

-- Two vectors joined by `&`, word by word.
unfoldable pub both : List ℕ → List ℕ → List ℕ
both xs ys = list_of (length xs) (λ w. bit_and (get_or xs w 0) (get_or ys w 0))

-- AND: a bit is set exactly when it is set in both.
pub record Both (xs ys new : List ℕ) : Type 0 where
  pub each : (i : ℕ) → is_set new i ≡ (is_set xs i && is_set ys i)

-- A held vector of m bits grown by one edge: rotated, AND the edge's occurrence vector.
unfoldable pub grown : ℕ → List ℕ → List ℕ → List ℕ
grown m occurs held = both (rotated m held) occurs

-- Grown by one edge: bit r is set exactly when bit (r + 1) mod m was set and the edge occurs at r, and no bit from m on is set.
pub record Grown (m : ℕ) (occurs old new : List ℕ) : Type 0 where
  pub each : (r : ℕ) → r < m → is_set new r ≡ (is_set old ((r + 1) % m) && is_set occurs r)
  pub rest : (i : ℕ) → m ≤ i → is_set new i ≡ false
