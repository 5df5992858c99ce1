-- Document 02, ticket 6: what a code says of its edge. "An edge code is 8·length class + octant, classes 0 to 30; codes 248 to 255 aren't edges."
-- The meanings and rules of a search do not use these definitions: those only ask whether two codes are equal. Reversing a ring
-- (crates/reversal) and importing vertices (crates/vertices) use them. Every definition gives a value for all numbers; of a code from 248 on, class and
-- octant mean nothing.
--
--   octants, length_classes   8 octants and 31 length classes
--   edge_codes                248: the codes below it are edges
--   edge_code                 the code of an edge with a length class and an octant
--   length_class, octant_of   the length class and the octant of a code
--   is_edge                   whether a code is that of an edge
use Rattle.std.specs.Prelude.{ℕ, ◌+◌, ◌*◌, ◌/◌, ◌%◌, Bool, ltb}

-- "each octant turns by 4 modulo 8": the octants are 0 to 7.
abbrev pub octants : ℕ
octants = 8

-- "classes 0 to 30": there are 31.
abbrev pub length_classes : ℕ
length_classes = 31

-- "codes 248 to 255 aren't edges": the 248 numbers below are the codes of edges.
abbrev pub edge_codes : ℕ
edge_codes = octants * length_classes

-- "An edge code is 8·length class + octant": the code of a length class and an octant.
abbrev pub edge_code : ℕ → ℕ → ℕ
edge_code class octant = octants * class + octant

-- "8·length class + octant": the length class of a code.
abbrev pub length_class : ℕ → ℕ
length_class code = code / octants

-- "8·length class + octant": the octant of a code.
abbrev pub octant_of : ℕ → ℕ
octant_of code = code % octants

-- "codes 248 to 255 aren't edges": whether a code is that of an edge.
abbrev pub is_edge : ℕ → Bool
is_edge code = ltb code edge_codes
