-- The lent area after packing or unpacking: if the call was accepted, the area begins with the output, and the "room beyond their output" is as it was.
use Prim.Native.Nat.{ℕ, ◌+◌}
use mathlib.Core.Path.{◌≡◌, refl}
use mathlib.Core.List.{List}
use lib.ListN.{length, get_or, take}
use Rattle.lists.proofs.Areas.{written_rest, written_front}
use Rattle.answers.specs.Paper.{Answer, accepted}
use Rattle.silences.specs.Silences.{Silence}
use Rattle.silences.specs.Packing.{area_at_exit}

module _ (output : List Silence → List ℕ) (area : List ℕ) (a : Answer (List Silence)) where
  -- After an accepted call the area begins with the output.
  pub area_front : (ss : List Silence) (n : ℕ) → a ≡ accepted ss → length (output ss) ≡ n → take n (area_at_exit output a area) ≡ output ss
  area_front ss n e l = rw e (written_front (output ss) area refl n l)

  -- After an accepted call every element beyond the output is as it was: calls "leave room beyond their output unwritten".
  pub area_rest : (ss : List Silence) (j : ℕ) → a ≡ accepted ss
      → get_or (area_at_exit output a area) (length (output ss) + j) 0 ≡ get_or area (length (output ss) + j) 0
  area_rest ss j e = rw e (written_rest (output ss) area j)
