-- "P6, P9 and P11 reach the look bound": antt computes both sides.
use Prim.Native.Nat.{ℕ, ◌+◌, ◌-◌, ◌*◌}
use mathlib.Core.Path.{◌≡◌, refl}
use mathlib.Core.List.{List}
use lib.ListN.{length}
use Rattle.meaning.specs.Counting.{some_below}
use Rattle.meaning.specs.Stretch.{begins, fits}
use Rattle.meaning.specs.Rules.{read_edge, read_left, read_window, windows_from, candidates_of}
use Rattle.meaning.specs.Looks.{read_looks, tally_looks, verify_looks, quick_looks}
use Rattle.lists.specs.Texts.{ascii}

-- The looks of the quick scan equal the bound.
abbrev ReachesBound : List ℕ → List ℕ → ℕ → Type 0
ReachesBound ring line k =
    quick_looks ring line k ≡ 3 * length ring * length line - 2 * length ring * length ring + length ring

-- P6, P9 and P11.
bound_reached :
    ReachesBound (ascii "aa") (ascii "aaa") 0
    × ReachesBound (ascii "abc") (ascii "cab") 0
    × ReachesBound (ascii "abcdef") (ascii "bcdfab") 1
unfolding ascii some_below begins fits read_edge read_left read_window windows_from candidates_of read_looks tally_looks verify_looks
bound_reached = (refl, refl, refl)
