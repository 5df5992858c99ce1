-- Lists given place by place: by the number that stands at each place.
use Rattle.std.specs.Prelude.{ℕ, zero, suc, ◌≤◌, ◌<◌, ◌≡◌, cond, List, [], ◌∷◌, ltb, length, get_or}

-- The list of n numbers that has f p at place p.
unfoldable pub list_of : ℕ → (ℕ → ℕ) → List ℕ
list_of zero f = []
list_of (suc n) f = f zero ∷ list_of n (λ p. f (suc p))

-- A list with f p stored at each of its first m places p; the other places are kept.
unfoldable pub stored_first : ℕ → (ℕ → ℕ) → List ℕ → List ℕ
stored_first m f old = list_of (length old) (λ p. cond (ltb p m) (f p) (get_or old p 0))

-- `stored_first` as facts about two lists (joined by `stored_is` of proofs/): `new` is `old` with f p stored at each of its first m places p.
pub record StoredFirst (m : ℕ) (f : ℕ → ℕ) (old new : List ℕ) : Type 0 where
  pub size : length new ≡ length old
  pub first : (p : ℕ) → p < m → get_or new p 0 ≡ f p
  pub rest : (p : ℕ) → m ≤ p → get_or new p 0 ≡ get_or old p 0
