-- Codes and rings reversed, worked out by hand: the checker computes each from the definitions.
use Rattle.std.specs.Prelude.{◌≡◌, refl, [], ◌∷◌, map}
use Rattle.lists.specs.ByPlace.{list_of}
use Rattle.reversal.specs.Reversing.{reversed_code, reversed_ring, rotated}

-- Class 0: octants 0, 3, 4 and 7 become 4, 7, 0 and 3. Class 1: octant 0 becomes 4. Class 30, the last: octants 3 and 7 become each other. Then codes that are no
-- edges: 248, the first of them, 254, and the mark.
pub code_samples_right :
    map reversed_code (0 ∷ 3 ∷ 4 ∷ 7 ∷ 8 ∷ 243 ∷ 247 ∷ 248 ∷ 254 ∷ 255 ∷ []) ≡ 4 ∷ 7 ∷ 0 ∷ 3 ∷ 12 ∷ 247 ∷ 243 ∷ 248 ∷ 254 ∷ 255 ∷ []
unfolding reversed_code
code_samples_right = refl

-- A ring of four edges, with classes 1 to 4 and octants 0, 2, 4 and 6: walked the other way it has classes 4 to 1 and octants 2, 0, 6 and 4. A ring with a mark,
-- which keeps its code and changes its place. The ring of one edge, and the empty ring.
pub ring_samples_right :
    (reversed_ring (8 ∷ 18 ∷ 28 ∷ 38 ∷ []) ≡ 34 ∷ 24 ∷ 22 ∷ 12 ∷ [])
    × (reversed_ring (255 ∷ 0 ∷ 9 ∷ []) ≡ 13 ∷ 4 ∷ 255 ∷ [])
    × (reversed_ring (7 ∷ []) ≡ 3 ∷ [])
    × (reversed_ring [] ≡ [])
unfolding reversed_ring reversed_code list_of
ring_samples_right = (refl, refl, refl, refl)

-- Rotation 1 of the reversed ring of 8, 18, 28, 38 is the reversed ring of rotation 3, which is 38, 8, 18, 28.
pub rotation_sample_right :
    (rotated 1 (reversed_ring (8 ∷ 18 ∷ 28 ∷ 38 ∷ [])) ≡ 24 ∷ 22 ∷ 12 ∷ 34 ∷ [])
    × (rotated 3 (8 ∷ 18 ∷ 28 ∷ 38 ∷ []) ≡ 38 ∷ 8 ∷ 18 ∷ 28 ∷ [])
    × (reversed_ring (38 ∷ 8 ∷ 18 ∷ 28 ∷ []) ≡ 24 ∷ 22 ∷ 12 ∷ 34 ∷ [])
unfolding rotated reversed_ring reversed_code list_of
rotation_sample_right = (refl, refl, refl)
