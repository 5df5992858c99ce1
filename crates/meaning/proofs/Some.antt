-- `some_below p n` is true exactly when some number below n passes the test p. Induction on n.
use Prim.Native.Nat.{ℕ, zero, suc, ◌<◌}
use mathlib.Core.Path.{◌≡◌, refl, sym, ap, ap₂, ◌∙◌}
use mathlib.Core.Bool.{Bool, true, false, ◌||◌, false≢true, true≢false, or-true}
use mathlib.Core.Logic.{⊎_elim}
use native.Mathlib.Nat.{eq-or-lt_of_le, le_of_suc-le-suc}
use native.Mathlib.Omega.{arith}
use Rattle.meaning.specs.Counting.{some_below}

-- If `some_below p n` is true, there is a number below n that passes.
pub some_yes : (p : ℕ → Bool) (n : ℕ) → some_below p n ≡ true → (r : ℕ) × (r < n) × (p r ≡ true)
unfolding some_below
some_yes p zero e = absurd (false≢true e)
some_yes p (suc n) e = go (some_below p n) (p n) refl refl e (λ h. some_yes p n h)
  where
    go : (a b : Bool) → some_below p n ≡ a → p n ≡ b → (a || b) ≡ true
        → (some_below p n ≡ true → (r : ℕ) × (r < n) × (p r ≡ true)) → (r : ℕ) × (r < suc n) × (p r ≡ true)
    go true b ea eb q ih = let t = ih ea in (t.0, omega (arith, t.1), t.2)
    go false b ea eb q ih = (n, omega arith, eb ∙ q)

-- If a number below n passes, `some_below p n` is true.
pub some_by : (p : ℕ → Bool) (n r : ℕ) → r < n → p r ≡ true → some_below p n ≡ true
unfolding some_below
some_by p zero r l e = absurd (omega arith)
some_by p (suc n) r l e =
    ⊎_elim
    (λ q. let here : p n ≡ true = ap p (sym q) ∙ e in rw here (or-true (some_below p n)))
    (λ m. rw (some_by p n r m e))
    (eq-or-lt_of_le (le_of_suc-le-suc l))

-- If `some_below p n` is false, every number below n fails.
pub some_no : (p : ℕ → Bool) (n : ℕ) → some_below p n ≡ false → (r : ℕ) → r < n → p r ≡ false
some_no p n e r l = go (p r) refl
  where
    go : (t : Bool) → p r ≡ t → p r ≡ false
    go true q = absurd (true≢false (sym (some_by p n r l q) ∙ e))
    go false q = q

-- If two tests agree on every number below n, `some_below` gives the same for both.
pub some_same : (p p' : ℕ → Bool) (n : ℕ) → ((r : ℕ) → r < n → p r ≡ p' r) → some_below p n ≡ some_below p' n
unfolding some_below
some_same p p' zero h = refl
some_same p p' (suc n) h = ap₂ (λ (a b : Bool). a || b) (some_same p p' n (λ r l. h r (omega arith))) (h n (omega arith))
