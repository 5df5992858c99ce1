-- Any two answers that meet a contract of this crate are equal, and so are the counts at exit, because each contract is an equation for every part of the answer.
use Prim.Native.Nat.{ℕ}
use mathlib.Core.Path.{◌≡◌, sym, ◌∙◌}
use mathlib.Core.List.{List}
use Rattle.answers.specs.declared.places.LinePlace.{LinePlace}
use Rattle.findings.specs.declared.searching.Finding.{Finding as FindingStruct}
use Rattle.tally.specs.declared.afresh.Fresh.{Fresh}
use Rattle.tally.specs.Marks.{IsPastMark}
use Rattle.tally.specs.Counts.{IsComparison, IsDoubled, IsCounted, IsFindingAt}

-- Any two numbers that meet the contract of `differing` are equal.
pub one_comparison : (a b r r' : ℕ) → IsComparison a b r → IsComparison a b r' → r ≡ r'
one_comparison a b r r' x y = x.is ∙ sym y.is

-- Any two places that meet the contract of `past_mark` are equal.
pub one_past : (edge past next r r' : ℕ) → IsPastMark edge past next r → IsPastMark edge past next r' → r ≡ r'
one_past edge past next r r' x y = x.is ∙ sym y.is

-- Any two doubled rings that meet the contract of `double` are equal.
pub one_doubled : (ring doubled doubled' : List ℕ) → IsDoubled ring doubled → IsDoubled ring doubled' → doubled ≡ doubled'
one_doubled ring doubled doubled' a b = a.is ∙ sym b.is

-- Any two answers that meet the contract of `count_afresh` are equal, and so are the counts at exit.
pub one_count : (doubled window old new new' : List ℕ) (z z' : Fresh) → IsCounted doubled window old new z → IsCounted doubled window old new' z'
    → (z ≡ z') × (new ≡ new')
one_count doubled window old new new' z z' a b = (
  λ i. record { least = (a.least_is ∙ sym b.least_is) i; looks = (a.looks_are ∙ sym b.looks_are) i; past = (a.past_is ∙ sym b.past_is) i },
  a.written ∙ sym b.written,
)

-- Any two findings that meet the contract of `finding_at` are equal.
pub one_finding : (m : ℕ) (counts : List ℕ) (start : LinePlace) (least : ℕ) (f f' : FindingStruct) → IsFindingAt m counts start least f
    → IsFindingAt m counts start least f' → f ≡ f'
one_finding m counts start least f f' a b = a.is ∙ sym b.is
