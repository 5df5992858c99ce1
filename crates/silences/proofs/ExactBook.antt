-- A book of tag 21 alone: every ceiling is 0 (`only_21_exact`), because a field of that tag has no byte for a ceiling. If it has at most 1,000 records, the
-- same addresses with ceiling 0 under tag 22, as packing writes them, are a book of the same silences (`exact_read`).
use Prim.Native.Nat.{ℕ, ◌≤◌}
use mathlib.Core.Logic.{◌⊎◌, inl, inr}
use mathlib.Core.Path.{◌≡◌, refl, ap, ap₂, subst, ◌∙◌}
use mathlib.Core.List.{List, ◌∷◌}
use native.Mathlib.Omega.{arith}
use lib.ListN.{length}
use Rattle.answers.specs.Paper.{accepted}
use Rattle.silences.specs.Silences.{Silence, silence}
use Rattle.silences.specs.Layout.{Kind, exact_tag, exact_kind, ceiling_tag, ceiling_kind, CanSay, layout, most_silences}
use Rattle.silences.specs.Reading.{read_book}
use Rattle.silences.specs.Books.{IsFieldOf, LaidDown, no_field, one_field, OnlyTag21, IsBook, with_ceilings}
use Rattle.silences.proofs.FieldTest.{kind_cases}
use Rattle.silences.proofs.AcceptedIsBook.{book_accepted}
use Rattle.silences.proofs.RoundTrips.{few_book}

-- a field of tag 21 says ceiling 0
exact_ceiling : {tag : ℕ} {s : Silence} {here : List ℕ} → tag ≡ exact_tag → IsFieldOf tag s here → 0 ≡ s.ceiling
exact_ceiling {tag} {s} is f = go (kind_cases tag f.kind f.kind_is)
  where
    go : ((tag ≡ exact_tag) × (f.kind ≡ exact_kind)) ⊎ ((tag ≡ ceiling_tag) × (f.kind ≡ ceiling_kind)) → 0 ≡ s.ceiling
    go (inl h) = let fits : CanSay exact_kind s = subst (λ (k : Kind). CanSay k s) h.1 f.can_say in omega arith
    go (inr h) = absurd (omega (arith, is, h.0))

-- The silences of a book of tag 21 alone have ceiling 0.
pub only_21_exact : {ss : List Silence} {book : List ℕ} → LaidDown OnlyTag21 ss book → with_ceilings 0 ss ≡ ss
only_21_exact no_field = refl
only_21_exact (one_field {s = s} {ss = ss} is f more) =
    ap₂ (λ (t : Silence) (ts : List Silence). t ∷ ts) (ap (silence s.address) (exact_ceiling is f)) (only_21_exact more)

-- What packing writes for the addresses of such a book with ceiling 0 reads as the same silences, if there are at most 1,000.
pub exact_read : (ss : List Silence) (book : List ℕ) → IsBook ss book → LaidDown OnlyTag21 ss book → length ss ≤ most_silences
    → read_book (layout (with_ceilings 0 ss)) ≡ accepted ss
exact_read ss book b laid few =
    ap (λ (ts : List Silence). read_book (layout ts)) (only_21_exact laid) ∙ book_accepted (layout ss) ss (few_book ss book b few)
