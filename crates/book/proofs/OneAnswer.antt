-- Each call's contract has one answer and one area at exit: any two that meet it are equal. One law for each call. The paper determines the answer
-- (`answer_unique` of crates/answers), and the answer the `Result`; a field determines the found `Field` (`sought_unique` of crates/silences).
use Prim.Native.Nat.{ℕ}
use mathlib.Core.Path.{◌≡◌, refl, sym, ap, ◌∙◌}
use mathlib.Core.Bool.{Bool}
use mathlib.Core.List.{List}
use Rattle.answers.specs.declared.refusals.Refusal.{Refusal}
use Rattle.answers.specs.Paper.{Answer, accepted, refused}
use Rattle.answers.proofs.OneAnswer.{answer_unique}
use Rattle.silences.proofs.OneAnswer.{sought_unique}
use Rattle.std.specs.Prelude.{Option, Result, Ok, Err}
use Rattle.silences.specs.declared.addresses.Address.{Address as AddressStruct}
use Rattle.silences.specs.declared.addresses.Field.{Field}
use Rattle.book.specs.Calls.{answer_of, paper_of, IsUnpacked, IsRead, IsSought, IsSoughtOn, IsHidingAsked}

-- the inverse of `answer_of`
abbrev answer_back : Answer ℕ → Result ℕ Refusal
answer_back (accepted records) = Ok records
answer_back (refused refusal) = Err refusal

-- it gives the `Result` back
answer_back_lem : (r : Result ℕ Refusal) → answer_back (answer_of r) ≡ r
answer_back_lem (Ok records) = refl
answer_back_lem (Err refusal) = refl

-- A `Result` is determined by its paper.
pub paper_unique : (r r' : Result ℕ Refusal) → paper_of r ≡ paper_of r' → r ≡ r'
paper_unique r r' e = sym (answer_back_lem r) ∙ ap answer_back (answer_unique 0 (answer_of r) (answer_of r') e) ∙ answer_back_lem r'

-- Any two answers of `unpack` that meet its contract are equal, and so are the areas at exit.
pub unpack_unique : (book area : List ℕ) (r r' : Result ℕ Refusal) (out out' : List ℕ) → IsUnpacked book area r out → IsUnpacked book area r' out'
    → (r ≡ r') × (out ≡ out')
unpack_unique book area r r' out out' p p' = (paper_unique r r' (p.paper ∙ sym p'.paper), p.written ∙ sym p'.written)

-- Any two answers of `read` that meet its contract are equal.
pub read_unique : (book : List ℕ) (r r' : Result ℕ Refusal) → IsRead book r → IsRead book r' → r ≡ r'
read_unique book r r' p p' = paper_unique r r' (p.paper ∙ sym p'.paper)

-- Any two answers of `seek` that meet its contract are equal.
pub seek_unique : (book : List ℕ) (from : ℕ) (address : AddressStruct) (r r' : Option Field) → IsSought book from address r → IsSought book from address r' → r ≡ r'
seek_unique book from address r r' p p' = sought_unique r r' (p.is ∙ sym p'.is)

-- Any two answers of `seek_on` that meet its contract are equal.
pub seek_on_unique : (book : List ℕ) (held : Option Field) (address : AddressStruct) (r r' : Option Field) → IsSoughtOn book held address r → IsSoughtOn book held address r'
    → r ≡ r'
seek_on_unique book held address r r' p p' = sought_unique r r' (p.is ∙ sym p'.is)

-- Any two answers of `hides` that meet its contract are equal.
pub hides_unique : (sought : Option Field) (address : AddressStruct) (distance : ℕ) (r r' : Bool) → IsHidingAsked sought address distance r
    → IsHidingAsked sought address distance r' → r ≡ r'
hides_unique sought address distance r r' p p' = p.is ∙ sym p'.is
