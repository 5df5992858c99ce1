-- Putting one finding more: if the lent area has the words of the findings fs at its front, then after f is put behind them it has the words of fs and f there.
use Prim.Native.Nat.{ℕ, ◌+◌, ◌*◌, ◌≤◌}
use mathlib.Core.Path.{◌≡◌, refl, sym, ap, ◌∙◌}
use mathlib.Core.List.{List, [], ◌∷◌, ◌++◌}
use native.Mathlib.Omega.{arith}
use lib.ListN.{length}
use lib.Seq.{sets}
use Rattle.lists.specs.Records.{numbers_of_each}
use Rattle.meaning.specs.Findings.{Finding, finding_words, words_each, words_of}
use Rattle.lists.specs.Areas.{written}
use Rattle.meaning.proofs.Words.{words_length, words_append}
use Rattle.lists.proofs.Areas.{written_length, written_more}
use Rattle.findings.specs.Putting.{words_put}

-- Putting f into an area that has the words of the `found` findings fs at its front gives the area with the words of fs and f at its front.
pub put_more : (fs : List Finding) (f : Finding) (found : ℕ) (area : List ℕ) → found ≡ length fs → words_each * found + words_each ≤ length area
    → words_put found f (written (words_of fs) area) ≡ written (words_of (fs ++ f ∷ [])) area
unfolding numbers_of_each
put_more fs f found area e room =
    let at : words_each * found ≡ length (words_of fs) = omega (arith, words_length fs) in
    ap (λ (n : ℕ). sets (written (words_of fs) area) n (finding_words f)) at
    ∙ written_more (words_of fs) (finding_words f) area (omega (arith, words_length fs))
    ∙ ap (λ (w : List ℕ). written w area) (sym (words_append fs (f ∷ [])))

-- Writing the words of no finding leaves the area as it was.
pub put_none : (area : List ℕ) → area ≡ written (words_of []) area
unfolding numbers_of_each written
put_none area = refl

-- An area that has room for the words of fs keeps its length when they are written.
pub put_length : (fs : List Finding) (found : ℕ) (area : List ℕ) → found ≡ length fs → words_each * found ≤ length area → length (written (words_of fs) area) ≡ length area
put_length fs found area e room = written_length (words_of fs) area (omega (arith, words_length fs))
