-- The contracts of `put_bytes` and `put_field`, the packer's private functions that write bytes from a byte offset on. No public contract uses them.
--
--   AreBytesPut    the contract of both
--   CanPutField    the precondition of `put_field`
use Rattle.std.specs.Prelude.{ℕ, ◌+◌, ◌≤◌, ◌≡◌, List, length}
use Rattle.lists.specs.Areas.{written_at}
use Rattle.silences.specs.Layout.{packed_length}
use Rattle.silences.specs.Packing.{record_words, silence_of_words}
use Rattle.silences.specs.Faults.{NumbersFit}

-- `bytes` are written into `area` from byte offset `at` on; `next` is the byte offset just past them, `out` the area at exit.
pub record AreBytesPut (at : ℕ) (bytes area : List ℕ) (next : ℕ) (out : List ℕ) : Type 0 where
  pub next_is : next ≡ at + length bytes
  pub area_is : out ≡ written_at at bytes area

-- The precondition of `put_field`: a record has four words, its numbers fit, and there is room for its field at `at`.
pub record CanPutField (at : ℕ) (record_is area : List ℕ) : Type 0 where
  pub four : length record_is ≡ record_words
  pub fits : NumbersFit (silence_of_words record_is)
  pub room : at + packed_length ≤ length area
