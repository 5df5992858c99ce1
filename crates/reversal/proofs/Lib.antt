-- The laws of this crate, one module for each idea, in the order in which they build on each other. The proofs that the functions meet their contracts cite
-- them; they stand in codes/ and rings/. Read the statements of these first:
--
--   CodeTwice           `code_rule`, `code_kept`    the rule of a reversed code, in numbers
--                       `code_twice`                a code reversed twice is the code: one test over the 256 codes
--   RingTwice           `ring_twice`                a ring reversed twice is the ring
--   ReversedFirst       `reversed_first`            the first m places of the array of `reverse` and `reversed` are the reversed ring
--   TableLaws           `table_rule`, `table_twice`  the same of the table: what `reversed_code` returns
--                       `array_twice`               and of the arrays: what `reversed` returns
--   RotationsReversed   `rotation_reversed`         a rotation of the reversed ring is the reversed ring of a rotation
--                       `distance_reversed`         under rotation r of the reversed ring a window has the distance that the reversed window has under
--                                                   rotation (m − r) mod m of the ring
--
-- That the whole table follows the rule is computed in the proof of `reversed_code`.

-- One test that the checker computes proves a law for every code.
pub mod EveryCode
-- Codes and rings.
pub mod CodeTwice
pub mod RingTwice
-- The loop of `reverse`, and what its callers read off the array.
pub mod ReversingLoop
pub mod ReversedFirst
-- The table and the arrays, by the contracts alone.
pub mod TableLaws
-- Rotations and distances of the reversed ring.
pub mod RotationsReversed
-- Any two answers that meet a contract are equal.
pub mod OneAnswer
