-- `EdgeVectors::clear` meets its contract: all slots are stored as those of the earlier parts, then those of the last part (`cleared` of SlotsCleared).
use mathlib.Core.Path.{◌≡◌}
use native.Mathlib.Omega.{arith}
use Prim.Native.Nat.{ℕ}
use borrow.Rule.Slice.PartMut.{mid_of}
use lib.ListN.{length, replicate, length-take, length-drop}
use Rattle.occurrences.specs.EdgeVectors.{byte_codes, empty_word}
use Rattle.occurrences.specs.Storing.{slot_count, kept_count}
use Rattle.occurrences.proofs.SlotsCleared.{cleared}
use Rattle.occurrences.proofs.table.EdgeVectors.clear.Goals as goal

pub returns : goal.returns
returns c =
    let long : length c.args.self.now.slots ≡ slot_count = omega arith in
    let all : c.fill.new.self ≡ replicate slot_count empty_word = rw long at (c.fill.ensures.after (λ y h. h)) in
    let late : length (mid_of 768 byte_codes c.fill.new.self) ≡ byte_codes = omega (arith, length-take {A = ℕ}, length-drop {A = ℕ}) in
    let last : c.fill-2.new.self ≡ replicate byte_codes 191 = rw late at (c.fill-2.ensures.after (λ y h. h)) in
    let words : length c.args.self.now.kept ≡ kept_count = omega arith in
    let kept : c.fill-3.new.self ≡ replicate kept_count 0 = rw words at (c.fill-3.ensures.after (λ y h. h)) in
    record { slots_are = rw (all, last) cleared; kept_are = kept }
