-- Whether a finding can be put. The test `can_put` is a conjunction of comparisons, and the record `CanPut` states the same (`can_put_iff`). The finding's words
-- are given if they are 32-bit words, and else none. So the ends of `put_finding` are the cases of its contract, and a caller that has `CanPut` knows that the words
-- are put (`words_are_put`).
use Prim.Native.Nat.{ℕ, ◌+◌, ◌-◌, ◌*◌, ◌^◌, ◌≤◌, ◌<◌}
use mathlib.Core.Path.{◌≡◌, refl, sym, ◌∙◌}
use mathlib.Core.Bool.{Bool, true, false, cond}
use mathlib.Core.List.{List, [], ◌∷◌}
use mathlib.Core.Logic.{◌↔◌}
use Rattle.std.specs.Prelude.{None, Some}
use native.Mathlib.Omega.{arith}
use borrow.Author.Tests.{ltb-true, ltb-false}
use lib.Dec.{ltb}
use lib.ListN.{length, take, drop}
use borrow.Rule.Slice.PartMut.{put_mid}
use Rattle.std.proofs.lemmas.List.{append_assoc, drop-drop}
use Rattle.std.proofs.lemmas.List.Edits.{sets-eq}
use Rattle.std.proofs.lemmas.Option.{cond_some, none-some}
use Rattle.lists.specs.Bounds.{IsWords, is_words}
use Rattle.lists.proofs.Bounds.{below_none, below_more, all_below_iff}
use Rattle.meaning.specs.Findings.{Finding, finding_words, words_each}
use Rattle.lists.proofs.SizesTested.{le_iff, and_iff, test_fails}
use Rattle.findings.specs.Putting.{words_put, can_put, word_of, four_words, CanPut, IsFindingPut}

-- The test `can_put` passes exactly when the finding can be put.
pub can_put_iff : (lent before : ℕ) (f : Finding) → (can_put lent before f ≡ true) ↔ CanPut lent before f
unfolding can_put
can_put_iff lent before f =
    let all = and_iff (le_iff (words_each * before + words_each) lent) (all_below_iff (2 ^ 32) (omega arith) (finding_words f)) in (
      λ e. let is = all.0 e in record { room = is.0; words = is.1 },
      λ can. all.1 (can.room, can.words),
    )

-- A number that `word` gives is a 32-bit word, and it is the number asked for.
pub is_word : {n w : ℕ} → Some w ≡ word_of n → (n < 2 ^ 32) × (n ≡ w)
is_word {n} {w} e = let is = cond_some (ltb n (2 ^ 32)) n w (sym e) in (ltb-true n (2 ^ 32) is.0, is.1)

-- A number for which `word` gives none is no 32-bit word.
pub no_word : {n : ℕ} → None ≡ word_of n → 2 ^ 32 ≤ n
no_word {n} e = go (ltb n (2 ^ 32)) refl e
  where
    go : (t : Bool) → ltb n (2 ^ 32) ≡ t → None ≡ cond t (Some n) None → 2 ^ 32 ≤ n
    go true _ none = absurd (none-some n none)
    go false fails _ = ltb-false n (2 ^ 32) fails

module _ (f : Finding) where
  -- `four_words` gives the finding's words if they are 32-bit words.
  pub are_words : IsWords (finding_words f) → Some (finding_words f) ≡ four_words f
  unfolding four_words
  are_words words = rw ((all_below_iff (2 ^ 32) (omega arith) (finding_words f)).1 words)

  -- The four numbers, each given by `word`, are what it gives.
  pub words_given : {start rotation distance ties : ℕ} → Some start ≡ word_of f.start → Some rotation ≡ word_of f.rotation → Some distance ≡ word_of f.distance
      → Some ties ≡ word_of f.ties → Some (start ∷ rotation ∷ distance ∷ ties ∷ []) ≡ four_words f
  words_given a b c d =
      let a_is = is_word a in
      let b_is = is_word b in
      let c_is = is_word c in
      let d_is = is_word d in
      rw (← a_is.1, ← b_is.1, ← c_is.1, ← d_is.1)
      (are_words (below_more a_is.0 (below_more b_is.0 (below_more c_is.0 (below_more d_is.0 (below_none (omega arith)))))))

  -- What it gives are the finding's words, and 32-bit words.
  pub words_told : {four : List ℕ} → Some four ≡ four_words f → IsWords (finding_words f) × (finding_words f ≡ four)
  unfolding four_words
  words_told {four} e =
      let is = cond_some (is_words (finding_words f)) (finding_words f) four (sym e) in
      ((all_below_iff (2 ^ 32) (omega arith) (finding_words f)).0 is.0, is.1)

  -- If it gives none, they are not.
  pub none_told : None ≡ four_words f → IsWords (finding_words f) → ⊥
  none_told none words = none-some (finding_words f) (none ∙ sym (are_words words))

  -- If they are not, it gives none.
  pub not_words : (IsWords (finding_words f) → ⊥) → None ≡ four_words f
  unfolding four_words
  not_words not = rw (← test_fails (all_below_iff (2 ^ 32) (omega arith) (finding_words f)) not)

module _ (words : List ℕ) (before : ℕ) (f : Finding) where
  -- If the finding can be put, and its words are copied to the part behind the `before` findings, they are put, and the contract of `put_finding` is met.
  pub put_yes : {four part : List ℕ} → CanPut (length words) before f → finding_words f ≡ four → part ≡ four
      → IsFindingPut words before f (put_mid (words_each * before) (words_each * before + words_each - words_each * before) words part)
  put_yes {four} {part} can are copied =
      let at = words_each * before in
      let size : at + words_each - at ≡ words_each = omega arith in
      record {
        written = rw ((can_put_iff (length words) before f).1 can, copied, ← are, size, drop-drop words_each at words)
            (sym (append_assoc (take at words) (finding_words f) (drop (at + words_each) words)) ∙ sym (sets-eq (finding_words f) words at can.room));
      }

  -- If it cannot be put and the words stay as they were, the contract of `put_finding` is met.
  pub put_no : (CanPut (length words) before f → ⊥) → IsFindingPut words before f words
  put_no not = record { written = rw (← test_fails (can_put_iff (length words) before f) not) }

  -- If the finding can be put, `put_finding` puts it.
  pub words_are_put : (out : List ℕ) → CanPut (length words) before f → IsFindingPut words before f out → out ≡ words_put before f words
  words_are_put out can put = rw ((can_put_iff (length words) before f).1 can) at put.written
