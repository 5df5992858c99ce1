-- Document 01, "Silence book", and document 02, ticket 4: an address, a silence, the order of records, and which findings a list of silences hides. The order
-- looks at the address alone. The bytes of a silence are in Layout; here are only their numbers, which bound the values.
--
--   cell_bytes, ring_number_bytes, start_bytes, ceiling_bytes   "cell (4 bytes), ring number (2), start (4)", "a two-byte distance"
--   Address, address       cell, ring number, start
--   Silence, silence       an address and a ceiling
--   InRange, AllInRange    the numbers fit their bytes; those of each silence of a list do
--   is_below, Below        "by cell, then ring number, then start", as a test and as a proposition
--   is_above               whether a record is above the one before it, if there is one
--   Ascending              "Records ascend strictly"
--   is_same                whether two addresses are equal
--   covers                 whether a silence hides a finding with this address and this distance
--   hides, Hides           some silence of a list does, as a test and as a proposition
--
-- "Zero is an ordinary cell, ring number and start; no value means 'all'": every test below only compares numbers, and no number is treated specially. Nor is a
-- ceiling of 0: it hides exact copies.
use Rattle.std.specs.Prelude.{ℕ, ◌≤◌, ◌<◌, ◌^◌, ◌≡◌, Bool, true, false, ◌&&◌, ◌||◌, ltb, leb, eqb}
use mathlib.Core.List.{List, [], ◌∷◌, Memᴰ}
use Rattle.std.specs.Prelude.{Option, None, Some}

-- "cell (4 bytes)"
abbrev pub cell_bytes : ℕ
cell_bytes = 4

-- "ring number (2)"
abbrev pub ring_number_bytes : ℕ
ring_number_bytes = 2

-- "start (4)"
abbrev pub start_bytes : ℕ
start_bytes = 4

-- "a two-byte distance" (document 02, ticket 4)
abbrev pub ceiling_bytes : ℕ
ceiling_bytes = 2

-- An address: the cell, the ring number and the start that a silence is for.
pub record Address : Type 0 where
  pub cell : ℕ
  pub ring_number : ℕ
  pub start : ℕ

-- The address with this cell, ring number and start.
abbrev pub address : ℕ → ℕ → ℕ → Address
address cell ring_number start = record { cell = cell; ring_number = ring_number; start = start }

-- A silence: the address that it is for, and its ceiling, the largest distance that it hides there. "A silence gets a ceiling" (document 02, ticket 4).
pub record Silence : Type 0 where
  pub address : Address
  pub ceiling : ℕ

-- The silence with this address and this ceiling.
abbrev pub silence : Address → ℕ → Silence
silence a ceiling = record { address = a; ceiling = ceiling }

-- A silence that a book can hold: "cell (4 bytes), ring number (2), start (4)" and "a two-byte distance".
pub record InRange (s : Silence) : Type 0 where
  pub cell_lt : s.address.cell < 256 ^ cell_bytes
  pub ring_number_lt : s.address.ring_number < 256 ^ ring_number_bytes
  pub start_lt : s.address.start < 256 ^ start_bytes
  pub ceiling_lt : s.ceiling < 256 ^ ceiling_bytes

-- Each silence of a list is in range.
abbrev pub AllInRange : List Silence → Type 0
AllInRange [] = Unit {0}
AllInRange (s ∷ ss) = InRange s × AllInRange ss

-- The order "by cell, then ring number, then start", as a test: whether a is below b (that is, b above a).
unfoldable pub is_below : Address → Address → Bool
is_below a b =
    ltb a.cell b.cell
    || (eqb a.cell b.cell
    && (ltb a.ring_number b.ring_number || (eqb a.ring_number b.ring_number && ltb a.start b.start)))

-- The order "by cell, then ring number, then start" as a proposition: the first of the three numbers in which a and b differ decides.
pub data Below (a b : Address) : Type 0 where
  by_cell : a.cell < b.cell → Below a b
  by_ring_number : a.cell ≡ b.cell → a.ring_number < b.ring_number → Below a b
  by_start : a.cell ≡ b.cell → a.ring_number ≡ b.ring_number → a.start < b.start → Below a b

-- The test of row 7, "a record isn't above the one before it": whether the address `a` is above that of the record before it. The first record has none before
-- it, and passes.
abbrev pub is_above : Option Address → Address → Bool
is_above None a = true
is_above (Some last) a = is_below last a

-- "Records ascend strictly by cell, then ring number, then start": each address is below the next. So "No two records share an address" (document 02,
-- ticket 4), whatever their ceilings are.
unfoldable pub Ascending : List Silence → Type 0
Ascending [] = Unit {0}
Ascending (s ∷ []) = Unit {0}
Ascending (s ∷ t ∷ ss) = Below s.address t.address × Ascending (t ∷ ss)

-- Whether two addresses have the same cell, ring number and start.
unfoldable pub is_same : Address → Address → Bool
is_same a b = eqb a.cell b.cell && (eqb a.ring_number b.ring_number && eqb a.start b.start)

-- "It hides a finding at its address only up to that distance" (document 02, ticket 4): whether this is the silence's address, and the distance at most its
-- ceiling.
unfoldable pub covers : Silence → Address → ℕ → Bool
covers s a distance = is_same s.address a && leb distance s.ceiling

-- Whether some silence of the list hides a finding with this address and this distance. The empty list hides nothing.
unfoldable pub hides : List Silence → Address → ℕ → Bool
hides [] a distance = false
hides (s ∷ ss) a distance = covers s a distance || hides ss a distance

-- Some silence of the list hides a finding with this cell, ring number, start and distance, as a proposition: `silenced_by` is such a silence, and it stands in
-- the list.
pub record Hides (ss : List Silence) (cell ring_number start distance : ℕ) : Type 0 where
  pub silenced_by : Silence
  pub among : Memᴰ silenced_by ss
  pub cell_is : silenced_by.address.cell ≡ cell
  pub ring_number_is : silenced_by.address.ring_number ≡ ring_number
  pub start_is : silenced_by.address.start ≡ start
  pub distance_le : distance ≤ silenced_by.ceiling
