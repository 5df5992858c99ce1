-- `AscendingAfter last ss`: the addresses of the silences `ss` ascend, and the first is above `last`, if there is a last one. Reading and packing keep this
-- from record to record. With no last one it is `Ascending` (`ascending_after_iff`). The test for the next record fails exactly where `IsNotAbove` holds
-- (`not_above_iff`).
use mathlib.Core.Logic.{◌↔◌}
use mathlib.Core.Path.{◌≡◌, refl, sym, ap, ◌∙◌}
use mathlib.Core.Bool.{true, false, false≢true}
use mathlib.Core.List.{List, [], ◌∷◌, ◌++◌}
use Rattle.std.specs.Prelude.{Option, None, Some}
use Rattle.silences.specs.Silences.{Address, Silence, is_above, Ascending}
use Rattle.silences.specs.Faults.{IsNotAbove}
use Rattle.silences.proofs.SilenceOrder.{is_below_iff}
use Rattle.silences.proofs.StrictOrder.{not_below_iff}

-- Each address is above the one before it, the first above `last`.
abbrev pub AscendingAfter : Option Address → List Silence → Type 0
AscendingAfter last [] = Unit {0}
AscendingAfter last (s ∷ ss) = (is_above last s.address ≡ true) × AscendingAfter (Some s.address) ss

-- The address of the last of the silences; `last` if there are none.
abbrev pub last_after : Option Address → List Silence → Option Address
last_after last [] = last
last_after last (s ∷ ss) = last_after (Some s.address) ss

-- the silences after the first ascend after it
after_one : (s : Silence) (ss : List Silence) → Ascending (s ∷ ss) → AscendingAfter (Some s.address) ss
unfolding Ascending
after_one s [] a = tt
after_one s (t ∷ ss) a = ((is_below_iff s.address t.address).1 a.0, after_one t ss a.1)

-- and the converse
from_one : (s : Silence) (ss : List Silence) → AscendingAfter (Some s.address) ss → Ascending (s ∷ ss)
unfolding Ascending
from_one s [] a = tt
from_one s (t ∷ ss) a = ((is_below_iff s.address t.address).0 a.0, from_one t ss a.1)

-- Silences ascend exactly when they ascend with no silence before them.
pub ascending_after_iff : (ss : List Silence) → Ascending ss ↔ AscendingAfter None ss
unfolding Ascending
ascending_after_iff [] = (λ a. tt, λ a. tt)
ascending_after_iff (s ∷ ss) = (λ a. (refl, after_one s ss a), λ a. from_one s ss a.1)

-- Ascending silences still ascend with one more at the end, if it is above the last of them.
pub ascends_more : (last : Option Address) (ss : List Silence) (s : Silence) → AscendingAfter last ss → is_above (last_after last ss) s.address ≡ true
    → AscendingAfter last (ss ++ s ∷ [])
ascends_more last [] s a above = (above, tt)
ascends_more last (t ∷ ss) s a above = (a.0, ascends_more (Some t.address) ss s a.1 above)

-- The last address of a list that ends with a silence is that of the silence.
pub last_after_end : (last : Option Address) (ss : List Silence) (s : Silence) → last_after last (ss ++ s ∷ []) ≡ Some s.address
last_after_end last [] s = refl
last_after_end last (t ∷ ss) s = last_after_end (Some t.address) ss s

-- one silence more at the front changes nothing
not_above_cons : (t : Silence) (ss : List Silence) (a : Address) → IsNotAbove ss a → IsNotAbove (t ∷ ss) a
not_above_cons t ss a n =
    record { earlier = t ∷ n.earlier; previous = n.previous; before_it = ap (λ (l : List Silence). t ∷ l) n.before_it; not_above = n.not_above }

-- if the test fails after silences, of which there is at least one, the last of them is not below
not_above_one : (t : Silence) (ss : List Silence) (a : Address) → is_above (last_after (Some t.address) ss) a ≡ false → IsNotAbove (t ∷ ss) a
not_above_one t [] a e = record { earlier = []; previous = t; before_it = refl; not_above = (not_below_iff t.address a).0 e }
not_above_one t (u ∷ ss) a e = not_above_cons t (u ∷ ss) a (not_above_one u ss a e)

-- if the test fails, there is a last silence, and it is not below
not_above_yes : (ss : List Silence) (a : Address) → is_above (last_after None ss) a ≡ false → IsNotAbove ss a
not_above_yes [] a e = absurd (false≢true (sym e))
not_above_yes (t ∷ ss) a e = not_above_one t ss a e

-- The test that the address `a` is above that of the last of `ss` fails exactly when there is a last one and it is not below `a`.
pub not_above_iff : (ss : List Silence) (a : Address) → (is_above (last_after None ss) a ≡ false) ↔ IsNotAbove ss a
not_above_iff ss a = (
  not_above_yes ss a,
  λ n. ap (λ (l : List Silence). is_above (last_after None l) a) n.before_it
      ∙ ap (λ (last : Option Address). is_above last a) (last_after_end None n.earlier n.previous)
      ∙ (not_below_iff n.previous.address a).1 n.not_above,
)
