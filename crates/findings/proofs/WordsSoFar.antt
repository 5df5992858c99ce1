-- The part of a search loop's invariant that concerns the lent words: the number of findings so far, and the area with their words at its front. `put_finding`
-- puts one more behind them, if there is room and its words are 32-bit words. Which findings these are is up to the loop.
use Prim.Native.Nat.{ℕ, ◌+◌, ◌*◌, ◌≤◌}
use mathlib.Core.Path.{◌≡◌, refl, ap, ◌∙◌}
use mathlib.Core.List.{List, [], ◌∷◌, ◌++◌}
use native.Mathlib.Omega.{arith}
use lib.ListN.{length, length-append}
use Rattle.lists.specs.Bounds.{IsWords}
use Rattle.meaning.specs.Findings.{Finding, IsFinding, finding_words, words_each, words_of}
use Rattle.meaning.proofs.Ties.{ties_most}
use Rattle.lists.specs.Areas.{written}
use Rattle.lists.proofs.Bounds.{below_none, below_more}
use Rattle.findings.specs.Limits.{CanSearch}
use Rattle.findings.specs.Putting.{words_put, CanPut, IsFindingPut}
use Rattle.findings.proofs.WordsPut.{put_more, put_none, put_length}
use Rattle.findings.proofs.PutCases.{words_are_put}

-- Within the limits of a search, the words of a finding are 32-bit words.
pub search_words : (ring line : List ℕ) {k room : ℕ} {f : Finding} → CanSearch ring k (length line) room → IsFinding ring line k f → IsWords (finding_words f)
search_words ring line {k} {room} {f} within is =
    below_more (omega (arith, is.is_start.fits_in_line, within.most_places))
    (below_more (omega (arith, is.is_rotation, within.most_ring))
    (below_more (omega (arith, is.at_most_k, within.allowed, within.most_ring))
    (below_more (omega (arith, ties_most ring line k f is, within.most_ring)) (below_none (omega arith)))))

-- The findings so far are fs, `count` of them, and `words` is the lent area with their words at its front.
pub record WordsSoFar (area : List ℕ) (fs : List Finding) (count : ℕ) (words : List ℕ) : Type 0 where
  pub count_is_lem : count ≡ length fs
  pub words_are : words ≡ written (words_of fs) area

-- At first there is no finding, and the words are the lent area.
pub so_far_none : (area : List ℕ) → WordsSoFar area [] 0 area
so_far_none area = record { count_is_lem = refl; words_are = put_none area }

module _ {area : List ℕ} {fs : List Finding} {count : ℕ} {words : List ℕ} (so_far : WordsSoFar area fs count words) where
  -- If there is room for the words of all findings so far, `words` is as long as the lent area.
  pub so_far_length : words_each * count ≤ length area → length words ≡ length area
  so_far_length room = ap (λ (w : List ℕ). length w) so_far.words_are ∙ put_length fs count area so_far.count_is_lem room

  -- with f put, the findings so far are fs and f
  so_far_put : (f : Finding) → words_each * count + words_each ≤ length area → WordsSoFar area (fs ++ f ∷ []) (count + 1) (words_put count f words)
  so_far_put f room = record {
    count_is_lem = omega (arith, so_far.count_is_lem, length-append fs (f ∷ []));
    words_are = ap (words_put count f) so_far.words_are ∙ put_more fs f count area so_far.count_is_lem room;
  }

  -- If there is room for f and its words are 32-bit words, then after `put_finding` the findings so far are fs and f.
  pub so_far_more : {f : Finding} {out : List ℕ} → words_each * count + words_each ≤ length area → IsWords (finding_words f) → IsFindingPut words count f out
      → WordsSoFar area (fs ++ f ∷ []) (count + 1) out
  so_far_more {f} {out} room are_words put =
      let can : CanPut (length words) count f = record { room = omega (arith, so_far_length (omega arith)); words = are_words } in
      rw (words_are_put words count f out can put) (so_far_put f room)
