-- Signs and sizes of steps, for the contract of a private function of src/steps.rt. The code works out signs and sizes once, and compares sizes only. No public
-- contract uses these definitions.
--
--   is_negative       whether a step is below 0
--   octant_by_sizes   the octant by signs and sizes (equal to `step_octant` by `octant_by_sizes_lem` of proofs/)
use Rattle.std.specs.Prelude.{ℕ, Bool, true, false, cond, ltb, eqb, ℤ, pos, negsuc}

-- Whether a step is below 0.
abbrev pub is_negative : ℤ → Bool
is_negative (pos n) = false
is_negative (negsuc n) = true

-- The octant of steps of the sizes n and e; the first test says whether the step north is negative, the second whether the step east is.
unfoldable pub octant_by_sizes : Bool → ℕ → Bool → ℕ → ℕ
octant_by_sizes false n false e = cond (eqb n 0) 2 (cond (ltb e n) 0 1)
octant_by_sizes true n false e = cond (eqb e 0) 4 (cond (ltb n e) 2 3)
octant_by_sizes true n true e = cond (ltb e n) 4 5
octant_by_sizes false n true e = cond (ltb n e) 6 7
