-- Numbers that are copied into a part of an area are written into the area from the part's first place on.
use Prim.Native.Nat.{ℕ, ◌+◌, ◌-◌}
use mathlib.Core.Path.{◌≡◌, refl}
use mathlib.Core.List.{List}
use native.Mathlib.Omega.{arith}
use lib.ListN.{length}
use borrow.Rule.Slice.PartMut.{put_mid}
use Rattle.lists.specs.Areas.{written, written_at}

-- If the part has as many places as there are numbers.
pub part_written : (at : ℕ) (numbers area : List ℕ) {end : ℕ} {part : List ℕ} → end ≡ at + length numbers → part ≡ numbers
    → put_mid at (end - at) area part ≡ written_at at numbers area
unfolding written_at written
part_written at numbers area {end} {part} end_is part_is =
    let long : end - at ≡ length numbers = omega arith in
    rw (part_is, long) refl
