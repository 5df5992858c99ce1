-- Document 02, ticket 7: the code of an edge, from its steps. "Octant: with dn and de the steps north and east, 0 where dn > 0 and 0 ≤ de < dn, and so on clockwise,
-- each octant holding its first ray and not its last. Length class: the bit length of the larger of |dn| and |de|, less one, with 31 taken as 30."
-- Steps are whole numbers of any size here, so a step never overflows. A pair of steps (0, 0) is no edge: its octant and class mean nothing.
--
--   IsStep                   the steps are not both 0
--   InOctant                 the octant of two steps as a fact, in the document's words
--   in_quarter, octant_in    whether two steps lie in a quarter turn; the octant within it
--   step_octant              the octant of two steps, computed (joined with `InOctant` by `octant_iff` of proofs/)
--   halvings, bit_length     how often a number can be halved; its bit length
--   last_class               30, the last length class
--   larger, class_of_size    the larger of |dn| and |de|; the length class of that size
--   step_class, step_code    the length class and the code of an edge with these steps
--   IsCodeOf                 `step_code` as facts, in the document's words (joined by `code_iff` of proofs/)
use Rattle.std.specs.Prelude.{ℕ, zero, suc, ◌+◌, ◌-◌, ◌/◌, ◌^◌, ◌≤◌, ◌<◌, min, max, Bool, cond, ◌&&◌, eqb, ℤ, pos, neg_ℤ, nat_abs, ◌<ℤ◌, ◌≤ℤ◌}
use Rattle.std.specs.Int.Signed.{lt_z, le_z}
use Rattle.meaning.specs.EdgeCodes.{edge_codes, edge_code, length_class, octant_of}

-- Two steps that are not both 0, as an edge has: its vertices differ.
pub record IsStep (dn de : ℤ) : Type 0 where
  pub some : 0 < nat_abs dn + nat_abs de

-- The octant as a fact. "0 where dn > 0 and 0 ≤ de < dn": from the ray due north up to the ray northeast. Octant 1 goes on from that ray, where dn > 0 and dn ≤ de, up
-- to the ray due east. "and so on clockwise": a quarter turn anticlockwise takes the steps (dn, de) to (de, −dn), and what it brings to octant o was in octant o + 2.
-- (Octants count modulo 8 here; the laws take o below 8.)
abbrev pub InOctant : ℕ → ℤ → ℤ → Type 0
InOctant zero dn de = (pos 0 <ℤ dn) × ((pos 0 ≤ℤ de) × (de <ℤ dn))
InOctant (suc zero) dn de = (pos 0 <ℤ dn) × (dn ≤ℤ de)
InOctant (suc (suc o)) dn de = InOctant o de (neg_ℤ dn)

-- A quarter holds its first ray and not its last. `lead` is the step along its first ray, `side` the step along its last: the quarter from north up to east has lead dn
-- and side de.
abbrev pub in_quarter : ℤ → ℤ → Bool
in_quarter lead side = lt_z (pos 0) lead && le_z (pos 0) side

-- The octant within a quarter; `first` is the quarter's first octant. Before the diagonal, where side < lead, it is `first`, and from the diagonal on the next.
abbrev pub octant_in : ℕ → ℤ → ℤ → ℕ
octant_in first lead side = cond (lt_z side lead) first (suc first)

-- The octant, computed: quarter by quarter, from north, from east, from south, from west. (0, 0) gets 7.
unfoldable pub step_octant : ℤ → ℤ → ℕ
step_octant dn de =
    cond (in_quarter dn de) (octant_in 0 dn de)
    (cond (in_quarter de (neg_ℤ dn)) (octant_in 2 de (neg_ℤ dn))
    (cond (in_quarter (neg_ℤ dn) (neg_ℤ de)) (octant_in 4 (neg_ℤ dn) (neg_ℤ de))
    (octant_in 6 (neg_ℤ de) dn)))

-- How often n can be halved until it is 0, but at most `most` times.
unfoldable pub halvings : ℕ → ℕ → ℕ
halvings zero n = 0
halvings (suc most) n = let once_more : ℕ = suc (halvings most (n / 2)) in cond (eqb n 0) 0 once_more

-- "the bit length": each halving takes a bit off. A number n is 0 after at most n halvings.
unfoldable pub bit_length : ℕ → ℕ
bit_length n = halvings n n

-- "with 31 taken as 30": the last length class.
abbrev pub last_class : ℕ
last_class = 30

-- "the larger of |dn| and |de|".
abbrev pub larger : ℤ → ℤ → ℕ
larger dn de = max (nat_abs dn) (nat_abs de)

-- "the bit length of the larger of |dn| and |de|, less one, with 31 taken as 30". The size of a step between numbers of 32 bits has at most 32 bits, so 31 is
-- the only class above 30 (`difference_size` and `bit_length_most` of proofs/).
abbrev pub class_of_size : ℕ → ℕ
class_of_size size = min last_class (bit_length size - 1)

-- The length class of an edge with these steps.
abbrev pub step_class : ℤ → ℤ → ℕ
step_class dn de = class_of_size (larger dn de)

-- "An edge code is 8·length class + octant" (ticket 6): the code of an edge with these steps.
unfoldable pub step_code : ℤ → ℤ → ℕ
step_code dn de = edge_code (step_class dn de) (step_octant dn de)

-- The code of an edge as facts. It is below 248, so its class is at most 30. Its octant is that of the steps. A class c below 30 says that the larger step has c + 1
-- bits: 2^c ≤ larger < 2^(c+1). Class 30 says that it has 31 bits or more.
pub record IsCodeOf (dn de : ℤ) (code : ℕ) : Type 0 where
  pub is_edge : code < edge_codes
  pub octant_is : InOctant (octant_of code) dn de
  pub size_least : 2 ^ length_class code ≤ larger dn de
  pub size_most : length_class code < last_class → larger dn de < 2 ^ suc (length_class code)
