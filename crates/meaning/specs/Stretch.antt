-- Document 01, "Meanings": the stretch that fits. `Fits` is the sentence to believe, `fits` is the same as a test, and `fits_iff` of proofs/
-- joins them.
use Rattle.std.specs.Prelude.{ℕ, suc, ◌%◌, ◌≤◌, ◌<◌, ◌≡◌, Bool, true, ◌&&◌, List, [], ◌∷◌, leb, eqb, length, get_or}
use Rattle.meaning.specs.Counting.{some_below}
use Rattle.meaning.specs.Meanings.{rotation_edge}

-- "A stretch of at most m edges fits the ring if it is the beginning of some rotation."
pub record Fits (ring stretch : List ℕ) : Type 0 where
  pub at_most_m : length stretch ≤ length ring
  pub rotation : ℕ
  pub is_rotation : rotation < length ring
  pub begins_it : (q : ℕ) → q < length stretch → get_or stretch q 0 ≡ rotation_edge ring rotation q

-- Whether the stretch is the beginning of rotation r (at most m edges: tested in `fits`): its first edge is the ring's edge at r mod m, and the rest is
-- the beginning of rotation r + 1.
unfoldable pub begins : List ℕ → ℕ → List ℕ → Bool
begins ring r [] = true
begins ring r (x ∷ rest) = eqb x (get_or ring (r % length ring) 0) && begins ring (suc r) rest

-- `Fits` as a test: the stretch has at most m edges, and is the beginning of some rotation.
unfoldable pub fits : List ℕ → List ℕ → Bool
fits ring stretch = leb (length stretch) (length ring) && some_below (λ r. begins ring r stretch) (length ring)
