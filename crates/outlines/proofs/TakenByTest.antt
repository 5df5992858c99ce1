-- The findings of a list that a test takes (`taken_by`), for any test: which findings they are, what one finding more adds, that their starts rise if those of the
-- list do, and that two tests which agree on the list take the same ones. The shown findings are such a list, and so are the hidden ones.
use Prim.Native.Nat.{ℕ, suc, ◌+◌, ◌≤◌}
use mathlib.Core.Path.{◌≡◌, refl, sym, ap, ◌∙◌}
use mathlib.Core.Bool.{Bool, true, false, not, cond, false≢true}
use mathlib.Core.Logic.{◌↔◌, ⊎_elim}
use mathlib.Core.List.Memᴰ
use mathlib.Core.List.{List, [], ◌∷◌, ◌++◌, append-nil, Memᴰ}
use native.Mathlib.Omega.{arith}
use lib.ListN.{length}
use Rattle.meaning.specs.Findings.{Finding}
use Rattle.lists.proofs.Cases.{by_test}
use Rattle.meaning.specs.Findings.{Rising}
use Rattle.outlines.specs.Report.{taken_by}

module _ (takes : Finding → Bool) where
  -- a finding of the list that the test takes is among those taken
  taken_in : (fs : List Finding) (f : Finding) → Memᴰ f fs → takes f ≡ true → Memᴰ f (taken_by takes fs)
  unfolding taken_by
  taken_in [] f h e = absurd (Memᴰ.not-nil h)
  taken_in (g ∷ fs) f h e =
      by_test (λ (l : List Finding). Memᴰ f l) (takes g)
      (λ _. ⊎_elim (λ q. Memᴰ.head q) (λ m. Memᴰ.tail (taken_in fs f m e)) (Memᴰ.cases_cons h))
      (λ left. ⊎_elim (λ q. absurd (false≢true (sym left ∙ ap takes (sym q) ∙ e))) (λ m. taken_in fs f m e) (Memᴰ.cases_cons h))

  -- a finding among those taken is in the list, and the test takes it
  taken_of : (fs : List Finding) (f : Finding) → Memᴰ f (taken_by takes fs) → Memᴰ f fs × (takes f ≡ true)
  unfolding taken_by
  taken_of [] f = λ h. absurd (Memᴰ.not-nil h)
  taken_of (g ∷ fs) f =
      by_test (λ (l : List Finding). Memᴰ f l → Memᴰ f (g ∷ fs) × (takes f ≡ true)) (takes g)
      (λ taken h.
      ⊎_elim (λ q. (Memᴰ.head q, ap takes q ∙ taken)) (λ m. (Memᴰ.tail (taken_of fs f m).0, (taken_of fs f m).1)) (Memᴰ.cases_cons h))
      (λ _ h. (Memᴰ.tail (taken_of fs f h).0, (taken_of fs f h).1))

  -- A finding is taken exactly when it is in the list and the test takes it.
  pub taken_iff : (fs : List Finding) (f : Finding) → Memᴰ f (taken_by takes fs) ↔ (Memᴰ f fs × (takes f ≡ true))
  taken_iff fs f = (taken_of fs f, λ h. taken_in fs f h.0 h.1)

  -- Of two lists, one after the other, it takes those of the first and then those of the second.
  taken_append : (a b : List Finding) → taken_by takes (a ++ b) ≡ taken_by takes a ++ taken_by takes b
  unfolding taken_by
  taken_append [] b = refl
  taken_append (f ∷ a) b =
      by_test (λ (l : List Finding). l ≡ cond (takes f) (f ∷ taken_by takes a) (taken_by takes a) ++ taken_by takes b) (takes f)
      (λ taken. rw taken (ap (λ (l : List Finding). f ∷ l) (taken_append a b)))
      (λ left. rw left (taken_append a b))

  -- One finding more, which the test takes, comes behind the others.
  pub taken_more_yes : (fs : List Finding) (f : Finding) → takes f ≡ true → taken_by takes (fs ++ f ∷ []) ≡ taken_by takes fs ++ f ∷ []
  unfolding taken_by
  taken_more_yes fs f e = taken_append fs (f ∷ []) ∙ ap (λ (t : Bool). taken_by takes fs ++ cond t (f ∷ []) []) e

  -- One finding more, which the test does not take, changes nothing.
  pub taken_more_no : (fs : List Finding) (f : Finding) → takes f ≡ false → taken_by takes (fs ++ f ∷ []) ≡ taken_by takes fs
  unfolding taken_by
  taken_more_no fs f e =
      taken_append fs (f ∷ []) ∙ ap (λ (t : Bool). taken_by takes fs ++ cond t (f ∷ []) []) e ∙ append-nil (taken_by takes fs)

  -- If the starts of a list rise, those of the findings taken rise.
  pub taken_rising : (lo lo' hi : ℕ) (fs : List Finding) → lo ≤ lo' → Rising lo' hi fs → Rising lo hi (taken_by takes fs)
  unfolding taken_by
  taken_rising lo lo' hi [] l r = omega arith
  taken_rising lo lo' hi (f ∷ fs) l r =
      by_test (Rising lo hi) (takes f)
      (λ _. (omega arith, taken_rising (suc f.start) (suc f.start) hi fs (omega arith) r.1))
      (λ _. taken_rising lo (suc f.start) hi fs (omega arith) r.1)

  -- The findings taken and those not taken are together as many as the list has.
  pub taken_or_not_length : (fs : List Finding) → length (taken_by (λ (f : Finding). not (takes f)) fs) + length (taken_by takes fs) ≡ length fs
  unfolding taken_by
  taken_or_not_length [] = refl
  taken_or_not_length (f ∷ fs) = go (takes f) (taken_by (λ (g : Finding). not (takes g)) fs) (taken_by takes fs) (taken_or_not_length fs)
    where
      go : (t : Bool) (left taken : List Finding) → length left + length taken ≡ length fs
          → length (cond (not t) (f ∷ left) left) + length (cond t (f ∷ taken) taken) ≡ length (f ∷ fs)
      go true left taken rest = omega arith
      go false left taken rest = omega arith

-- Two tests that agree on each finding of a list take the same findings of it.
pub taken_same : (takes takes' : Finding → Bool) (fs : List Finding) → ((f : Finding) → Memᴰ f fs → takes f ≡ takes' f) → taken_by takes fs ≡ taken_by takes' fs
unfolding taken_by
taken_same takes takes' [] h = refl
taken_same takes takes' (f ∷ fs) h =
    ap (λ (t : Bool). cond t (f ∷ taken_by takes fs) (taken_by takes fs)) (h f (Memᴰ.head refl))
    ∙ ap (λ (l : List Finding). cond (takes' f) (f ∷ l) l) (taken_same takes takes' fs (λ g m. h g (Memᴰ.tail m)))
