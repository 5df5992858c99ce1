-- `list_of n f` has n places and f p at each place p below n (by induction on n). A list with that length and those numbers is `list_of n f`, because two lists
-- of equal length that agree at each place are equal.
use Prim.Native.Nat.{ℕ, zero, suc, ◌≤◌, ◌<◌}
use mathlib.Core.Path.{◌≡◌, refl, sym, ap, ◌∙◌}
use mathlib.Core.List.{List}
use native.Mathlib.Omega.{arith}
use lib.ListN.{length, get_or, get_or-eq_default}
use lib.Seq.{ext_get_or}
use Rattle.lists.specs.ByPlace.{list_of}

-- `list_of n f` has n places.
pub list_of_length : (n : ℕ) (f : ℕ → ℕ) → length (list_of n f) ≡ n
unfolding list_of
list_of_length zero f = refl
list_of_length (suc n) f = ap suc (list_of_length n (λ p. f (suc p)))

-- At each place p below n, `list_of n f` has f p.
pub list_of_at : (n : ℕ) (f : ℕ → ℕ) (p : ℕ) → p < n → get_or (list_of n f) p 0 ≡ f p
unfolding list_of
list_of_at zero f p h = absurd (omega arith)
list_of_at (suc n) f zero h = refl
list_of_at (suc n) f (suc p) h = list_of_at n (λ p. f (suc p)) p (omega arith)

-- From place n on, `get_or` of `list_of n f` gives 0.
pub list_of_past : (n : ℕ) (f : ℕ → ℕ) (p : ℕ) → n ≤ p → get_or (list_of n f) p 0 ≡ 0
list_of_past n f p h = get_or-eq_default (list_of n f) 0 {n = p} (omega (arith, list_of_length n f))

-- A list of n places that has f p at each place p is `list_of n f`.
pub list_of_is : (xs : List ℕ) (n : ℕ) (f : ℕ → ℕ) → length xs ≡ n → ((p : ℕ) → p < n → get_or xs p 0 ≡ f p) → xs ≡ list_of n f
list_of_is xs n f size each =
    ext_get_or 0 xs (list_of n f) (size ∙ sym (list_of_length n f))
    (λ p l. each p (omega arith) ∙ sym (list_of_at n f p (omega arith)))

-- If two functions agree at every place below n, they give the same list.
pub list_of_same : (n : ℕ) {f g : ℕ → ℕ} → ((p : ℕ) → p < n → f p ≡ g p) → list_of n f ≡ list_of n g
list_of_same n {f} {g} same = list_of_is (list_of n f) n g (list_of_length n f) (λ p l. list_of_at n f p l ∙ same p l)
