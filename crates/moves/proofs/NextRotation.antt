-- The next rotation of r is (r + 1) mod m, and `earlier` is its inverse. Every number below m is the next of one below m: 0 of m − 1, any other s of s − 1.
use Prim.Native.Nat.{ℕ, ◌+◌, ◌-◌, ◌%◌, ◌<◌}
use mathlib.Core.Path.{◌≡◌, refl, sym, subst, ◌∙◌, ap}
use mathlib.Core.Logic.{dite}
use native.Mathlib.Nat.{mod-eq_of_lt, mod_self}
use native.Mathlib.Decide.{ℕ_discrete, dec_lt}
use native.Mathlib.Omega.{arith}
use borrow.Author.Tests.{eq-eqb, ne_eqb}
use Rattle.moves.specs.Moves.{earlier}

-- If P holds for the next of every number below m, then P holds for every number below m.
pub every_next : (P : ℕ → Type 0) (m : ℕ) → ((r : ℕ) → r < m → P ((r + 1) % m)) → (s : ℕ) → s < m → P s
every_next P m next s l = dite (ℕ_discrete s 0)
    (λ first.
    let seam : m - 1 + 1 ≡ m = omega arith in
    subst P (ap (λ (n : ℕ). n % m) seam ∙ mod_self m ∙ sym first) (next (m - 1) (omega arith)))
    (λ later.
    let here : s - 1 + 1 ≡ s = omega (arith, later) in
    subst P (ap (λ (n : ℕ). n % m) here ∙ mod-eq_of_lt l) (next (s - 1) (omega arith)))

-- The rotation before 0 is m − 1.
pub earlier_first : (m r : ℕ) → r ≡ 0 → earlier m r ≡ m - 1
unfolding earlier
earlier_first m r first = rw (eq-eqb r 0 first) refl

-- The rotation before r is r − 1, if r is not 0.
pub earlier_later : (m r : ℕ) → (r ≡ 0 → ⊥) → earlier m r ≡ r - 1
unfolding earlier
earlier_later m r later = rw (ne_eqb r 0 later) refl

-- The rotation before one below m is below m.
pub earlier_lt : (m r : ℕ) → r < m → earlier m r < m
earlier_lt m r l = dite (ℕ_discrete r 0) (λ first. omega (arith, earlier_first m r first)) (λ later. omega (arith, earlier_later m r later))

-- The rotation before the next of r is r.
pub earlier_next : (m r : ℕ) → r < m → earlier m ((r + 1) % m) ≡ r
earlier_next m r l = dite (dec_lt (r + 1) m)
    (λ below. rw (mod-eq_of_lt below) (earlier_later m (r + 1) (λ e. omega arith) ∙ omega arith))
    (λ past.
    let seam : r + 1 ≡ m = omega (arith, past) in
    rw (seam, mod_self m) (earlier_first m 0 refl ∙ omega arith))
