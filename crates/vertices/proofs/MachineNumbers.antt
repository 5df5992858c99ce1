-- Signed numbers as the machine reads them. A signed local is read back from its bits: `to_z w (of_z w x)`, which is x where x fits w bits (the kit's `to_z-of_z`). The
-- difference of two numbers of 32 bits is below 2^32 in size, and the difference taken in 64 bits is exact.
use Prim.Native.Nat.{ℕ, zero, suc, ◌-◌, ◌≤◌, ◌<◌, ◌^◌}
use mathlib.Core.Path.{◌≡◌, sym, ap₂, subst, ◌∙◌}
use mathlib.Core.Bool.{Bool, true, false, cond}
use native.Mathlib.Omega.{arith}
use lib.Dec.{ltb}
use lib.IntN.{ℤ, pos, negsuc, sub_ℕ, nat_abs, ◌-ℤ◌}
use mir.Syntax.{w32, w64}
use mir.Val.{SFits, to_z, of_z}
use mir.ValLaws.{to_z-of_z}

-- What a local of 64 bits, and one of 32 bits, reads back.
abbrev pub read64 : ℤ → ℤ
read64 x = to_z w64 (of_z w64 x)

abbrev pub read32 : ℤ → ℤ
read32 x = to_z w32 (of_z w32 x)

-- the size of a number that is one of two
branch_size : (t : Bool) (m k n : ℕ) → m < n → k ≤ n → nat_abs (cond t (negsuc m) (pos k)) ≤ n
branch_size true m k n h l = h
branch_size false m k n h l = l

-- a difference of two naturals is not larger than both
less_size : (a b n : ℕ) → 0 < n → a ≤ n → b ≤ n → nat_abs (sub_ℕ a b) ≤ n
less_size a b n some h l = branch_size (ltb a b) (b - suc a) (a - b) n (omega arith) (omega arith)

-- The difference of two numbers of 32 bits is below 2^32 in size, by their signs: it needs 33 bits, and its bit length is at most 32.
pub difference_size : (x y : ℤ) → SFits w32 x → SFits w32 y → nat_abs (x -ℤ y) < 2 ^ 32
difference_size (pos a) (pos zero) f g = omega (arith, f.sfits)
difference_size (pos a) (pos (suc b)) f g = omega (arith, less_size a (suc b) (2 ^ 31) (omega arith) (omega (arith, f.sfits)) (omega (arith, g.sfits)))
difference_size (pos a) (negsuc b) f g = omega (arith, f.sfits, g.sfits)
difference_size (negsuc a) (pos zero) f g = omega (arith, less_size 0 (suc a) (2 ^ 31) (omega arith) (omega arith) (omega (arith, f.sfits)))
difference_size (negsuc a) (pos (suc b)) f g = omega (arith, f.sfits, g.sfits)
difference_size (negsuc a) (negsuc b) f g = omega (arith, less_size (suc b) (suc a) (2 ^ 31) (omega arith) (omega (arith, g.sfits)) (omega (arith, f.sfits)))

-- a number of a small size fits 64 bits
size_fits : (x : ℤ) → nat_abs x < 2 ^ 32 → SFits w64 x
size_fits (pos n) h = record { sfits = omega arith }
size_fits (negsuc n) h = record { sfits = omega arith }

-- A number of 32 bits fits 64 bits, as it is read back.
pub wide_fits : (x : ℤ) → SFits w32 x → SFits w64 (read32 x)
wide_fits x f = subst (SFits w64) (sym (to_z-of_z w32 x f)) (record { sfits = omega (arith, f.sfits) })

-- Cast to 64 bits it is the same number.
wide_is : (x : ℤ) → SFits w32 x → read64 (read32 x) ≡ x
wide_is x f = to_z-of_z w64 (read32 x) (wide_fits x f) ∙ to_z-of_z w32 x f

-- The difference of the two, each cast to 64 bits, fits 64 bits.
pub read_difference_fits : (x y : ℤ) → SFits w32 x → SFits w32 y → SFits w64 (read64 (read32 x) -ℤ read64 (read32 y))
read_difference_fits x y f g = rw (wide_is x f, wide_is y g) (size_fits (x -ℤ y) (difference_size x y f g))

-- It is the exact difference.
pub read_difference : (x y : ℤ) → SFits w32 x → SFits w32 y → read64 (read64 (read32 x) -ℤ read64 (read32 y)) ≡ x -ℤ y
read_difference x y f g =
    to_z-of_z w64 (read64 (read32 x) -ℤ read64 (read32 y)) (read_difference_fits x y f g) ∙ ap₂ (λ (a b : ℤ). a -ℤ b) (wide_is x f) (wide_is y g)
