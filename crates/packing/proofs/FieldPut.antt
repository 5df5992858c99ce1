-- Writing a field number by number: tag, length, cell, ring number, start, ceiling. Each number begins where the one before it ends, and together their bytes
-- are the field's bytes (`field_of_is`). The bytes that the library gives for a number of two or four bytes are those of `bytes_of`.
use Prim.Native.Nat.{ℕ, ◌+◌, ◌/◌, ◌≤◌}
use mathlib.Core.Path.{◌≡◌, refl, ap, ◌∙◌}
use mathlib.Core.List.{List, [], ◌∷◌, ◌++◌, append_assoc}
use native.Mathlib.Omega.{arith}
use lib.ListN.{length, length-append}
use Rattle.lists.specs.Areas.{written_at}
use Rattle.lists.proofs.Areas.{written_at_append}
use Rattle.fields.specs.Numbers.{bytes_of}
use Rattle.std.specs.Int.{w16, w32, to_be_bytes}
use Rattle.silences.specs.Silences.{Silence}
use Rattle.silences.specs.Layout.{packed_tag, packed_kind, packed_length, value_length, address_value, value_of, field_of}
use Rattle.packing.specs.Putting.{AreBytesPut}
use Rattle.silences.proofs.FieldBytes.{field_of_is, packed_length_lem}

-- If bytes a are written, and then bytes b just past them, a ++ b are written.
pub put_append : {at next last : ℕ} {a b area mid out : List ℕ} → at + length a ≤ length area → AreBytesPut at a area next mid → AreBytesPut next b mid last out
    → AreBytesPut at (a ++ b) area last out
put_append {at} {next} {last} {a} {b} {area} {mid} {out} room first then =
    record {
      next_is = omega (arith, first.next_is, then.next_is, length-append a b);
      area_is = then.area_is
          ∙ (λ i. written_at (first.next_is i) b (first.area_is i))
          ∙ written_at_append at a b area room;
    }

-- A number of two bytes, high byte first.
pub two_bytes : (n : ℕ) → to_be_bytes w16 n ≡ bytes_of 2 n
unfolding bytes_of
two_bytes n = refl

-- A number of four bytes, high byte first.
pub four_bytes : (n : ℕ) → to_be_bytes w32 n ≡ bytes_of 4 n
unfolding bytes_of
four_bytes n =
    let second : n / 65536 ≡ n / 256 / 256 = omega arith in
    let first : n / 16777216 ≡ n / 256 / 256 / 256 = omega arith in
    rw (second, first) refl

module _ (s : Silence) where
  -- the bytes of a field up to its length, up to its cell, and so on
  abbrev head : List ℕ
  head = packed_tag ∷ [] ++ to_be_bytes w16 (value_length packed_kind)

  abbrev to_cell : List ℕ
  to_cell = head ++ to_be_bytes w32 s.address.cell

  abbrev to_ring : List ℕ
  to_ring = to_cell ++ to_be_bytes w16 s.address.ring_number

  abbrev to_start : List ℕ
  to_start = to_ring ++ to_be_bytes w32 s.address.start

  -- a field is its numbers, each in its bytes
  field_numbers : to_start ++ to_be_bytes w16 s.ceiling ≡ field_of s
  unfolding bytes_of value_of address_value
  field_numbers =
      (λ i. (((head ++ four_bytes s.address.cell i) ++ two_bytes s.address.ring_number i) ++ four_bytes s.address.start i) ++ two_bytes s.ceiling i)
      ∙ simp (field_of_is s, append_assoc)

  -- If the six numbers of a field are written one after the other, the field is written.
  pub field_put : {at length_at value_at ring_at start_at ceiling_at next : ℕ} {area a b c d e out : List ℕ} → at + packed_length ≤ length area
      → AreBytesPut at (packed_tag ∷ []) area length_at a → AreBytesPut length_at (to_be_bytes w16 (value_length packed_kind)) a value_at b
      → AreBytesPut value_at (to_be_bytes w32 s.address.cell) b ring_at c → AreBytesPut ring_at (to_be_bytes w16 s.address.ring_number) c start_at d
      → AreBytesPut start_at (to_be_bytes w32 s.address.start) d ceiling_at e → AreBytesPut ceiling_at (to_be_bytes w16 s.ceiling) e next out
      → AreBytesPut at (field_of s) area next out
  field_put {at} {area = area} {out = out} room tag long cell ring start ceiling =
      let all : at + length (to_start ++ to_be_bytes w16 s.ceiling) ≤ length area = omega (arith, room, packed_length_lem s, ap length field_numbers) in
      let start_room : at + length to_start ≤ length area = omega (arith, length-append to_start (to_be_bytes w16 s.ceiling)) in
      let ring_room : at + length to_ring ≤ length area = omega (arith, length-append to_ring (to_be_bytes w32 s.address.start)) in
      let cell_room : at + length to_cell ≤ length area = omega (arith, length-append to_cell (to_be_bytes w16 s.address.ring_number)) in
      let head_room : at + length head ≤ length area = omega (arith, length-append head (to_be_bytes w32 s.address.cell)) in
      let tag_room : at + length (packed_tag ∷ []) ≤ length area = omega (arith, length-append (packed_tag ∷ []) (to_be_bytes w16 (value_length packed_kind))) in
      rw field_numbers at
      (put_append start_room (put_append ring_room (put_append cell_room (put_append head_room (put_append tag_room tag long) cell) ring) start) ceiling)
