-- Any two answers that meet a contract of this crate are equal, and so are the words at exit, because each contract is an equation for the whole answer. For a
-- search the equation is one for its paper: the paper determines the answer (`answer_unique` of crates/answers), and the answer determines the `Result`.
use Prim.Native.Nat.{ℕ}
use mathlib.Core.Path.{◌≡◌, refl, sym, ap, ◌∙◌}
use mathlib.Core.Bool.{Bool}
use mathlib.Core.List.{List}
use Rattle.std.specs.Prelude.{Option, None, Some}
use Rattle.std.specs.Prelude.{Result, Ok, Err}
use Rattle.meaning.specs.Findings.{Finding}
use Rattle.answers.specs.declared.refusals.Refusal.{Refusal}
use Rattle.answers.specs.Paper.{Answer, accepted, refused}
use Rattle.answers.proofs.OneAnswer.{answer_unique}
use Rattle.findings.specs.declared.searching.SearchCounts.{SearchCounts}
use Rattle.findings.specs.Marks.{SaysIsMark}
use Rattle.findings.specs.Admitting.{verdict_of, IsVerdict}
use Rattle.findings.specs.Putting.{IsFindingPut}
use Rattle.findings.specs.Searching.{Counts, no_counts, answer_of, paper_of, IsSearched}
use Rattle.findings.specs.ClosedSearching.{IsClosedSearched}

-- Any two answers that meet the contract of `is_mark` are equal.
pub one_mark : (edge : ℕ) (r r' : Bool) → SaysIsMark edge r → SaysIsMark edge r' → r ≡ r'
one_mark edge r r' a b = a.is ∙ sym b.is

-- the verdict that holds this refusal; the accepting one for none
abbrev verdict_back : Option Refusal → Result (Unit {0}) Refusal
verdict_back None = Ok tt
verdict_back (Some refusal) = Err refusal

-- from what it holds a verdict is computed back
verdict_back_lem : (r : Result (Unit {0}) Refusal) → verdict_back (verdict_of r) ≡ r
verdict_back_lem (Ok _) = refl
verdict_back_lem (Err refusal) = refl

-- Any two verdicts that meet the contract of `admit_ring`, `admit` or `admit_closed` are equal, whatever the rows.
pub one_verdict : (rows : List (Option Refusal)) (r r' : Result (Unit {0}) Refusal) → IsVerdict rows r → IsVerdict rows r' → r ≡ r'
one_verdict rows r r' a b = sym (verdict_back_lem r) ∙ ap verdict_back (a.is ∙ sym b.is) ∙ verdict_back_lem r'

-- Any two lists of words at exit that meet the contract of `put_finding` are equal.
pub one_put : (words : List ℕ) (before : ℕ) (f : Finding) (out out' : List ℕ) → IsFindingPut words before f out → IsFindingPut words before f out' → out ≡ out'
one_put words before f out out' a b = a.written ∙ sym b.written

-- the `Result` for an answer
abbrev answer_back : Answer Counts → Result SearchCounts Refusal
answer_back (accepted counts) = Ok (record { found = counts.found; looks = counts.looks })
answer_back (refused refusal) = Err refusal

-- from its answer a `Result` is computed back
answer_back_lem : (r : Result SearchCounts Refusal) → answer_back (answer_of r) ≡ r
answer_back_lem (Ok counts) = refl
answer_back_lem (Err refusal) = refl

-- Two returned `Result`s with equal papers are equal.
pub paper_unique : (r r' : Result SearchCounts Refusal) → paper_of r ≡ paper_of r' → r ≡ r'
paper_unique r r' e = sym (answer_back_lem r) ∙ ap answer_back (answer_unique no_counts (answer_of r) (answer_of r') e) ∙ answer_back_lem r'

-- Any two answers that meet the contract of a search are equal, and so are the words at exit.
pub search_unique : {rows : List (Option Refusal)} {ring line : List ℕ} {k expected : ℕ} {words : List ℕ} {r r' : Result SearchCounts Refusal} {out out' : List ℕ}
    → IsSearched rows ring line k expected words r out → IsSearched rows ring line k expected words r' out' → (r ≡ r') × (out ≡ out')
search_unique {r = r} {r' = r'} p p' = (paper_unique r r' (p.paper ∙ sym p'.paper), p.written ∙ sym p'.written)

-- Any two answers that meet the contract of a search on a closed line are equal, and so are the words and the join areas at exit.
pub closed_search_unique : {ring line : List ℕ} {k expected : ℕ} {join words : List ℕ} {r r' : Result SearchCounts Refusal} {joined joined' out out' : List ℕ}
    → IsClosedSearched ring line k expected join words r joined out → IsClosedSearched ring line k expected join words r' joined' out'
    → (r ≡ r') × (joined ≡ joined') × (out ≡ out')
closed_search_unique {r = r} {r' = r'} p p' = (
  paper_unique r r' (p.paper ∙ sym p'.paper),
  p.joined_is ∙ sym p'.joined_is,
  p.written ∙ sym p'.written,
)
