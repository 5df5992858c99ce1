-- The slots that `clear` writes: all are stored as those of the earlier parts; then those of the last part.
use mathlib.Core.Path.{◌≡◌, sym}
use mathlib.Core.Logic.{dite}
use Prim.Native.Nat.{ℕ, ◌+◌, ◌*◌, ◌/◌, ◌≤◌, ◌<◌}
use native.Mathlib.Decide.{dec_lt}
use native.Mathlib.Omega.{arith}
use lib.ListN.{replicate}
use borrow.Rule.Slice.PartMut.{put_mid}
use Rattle.lists.specs.ByPlace.{list_of}
use Rattle.lists.proofs.ByPlace.{list_of_is}
use borrow.Author.Rules.{rules}
use Rattle.std.proofs.lemmas.List.{places}
use Rattle.occurrences.specs.EdgeVectors.{byte_codes, last_part, empty_word}
use Rattle.occurrences.specs.Storing.{slot_count, no_slot, no_slots}
use Rattle.occurrences.proofs.SlotOfPart.{no_slot_early, no_slot_last}

-- A list of x, with y then stored behind the first `early` places.
filled : (early late x y : ℕ) (f : ℕ → ℕ) → ((p : ℕ) → p < early → x ≡ f p) → ((p : ℕ) → early ≤ p → p < early + late → y ≡ f p)
    → put_mid early late (replicate (early + late) x) (replicate late y) ≡ list_of (early + late) f
filled early late x y f first rest =
    list_of_is (put_mid early late (replicate (early + late) x) (replicate late y)) (early + late) f (search (rules, places))
    (λ p h. dite (dec_lt p early) (λ low. let is : x ≡ f p = first p low in grind (arith, places, is))
    (λ high. let is : y ≡ f p = rest p (omega (arith, high)) h in grind (arith, places, is, high)))

-- Every slot is right.
pub cleared : put_mid (byte_codes * last_part) byte_codes (replicate slot_count empty_word) (replicate byte_codes 191) ≡ no_slots
unfolding no_slots
cleared = filled (byte_codes * last_part) byte_codes empty_word 191 (λ i. no_slot (i / byte_codes)) (λ p h. sym (no_slot_early (p / byte_codes) (omega arith)))
    (λ p from to. omega (arith, no_slot_last (p / byte_codes) (omega arith)))
