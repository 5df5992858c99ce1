-- How many words a list of findings has. With `findings_length_le` of FindingsBelow it follows that the room that refusal 4 requires is enough for all
-- findings.
use Prim.Native.Nat.{◌*◌}
use mathlib.Core.Path.{◌≡◌, refl}
use mathlib.Core.List.{List, ◌++◌}
use lib.ListN.{length}
use Rattle.lists.proofs.Records.{each_length, each_append}
use Rattle.meaning.specs.Findings.{Finding, words_each, finding_words, words_of}

-- A list of findings has `words_each` words for each finding.
pub words_length : (fs : List Finding) → length (words_of fs) ≡ words_each * length fs
words_length fs = each_length finding_words words_each (λ f. refl) fs

-- The words of two lists joined are the words of the first, then those of the second.
pub words_append : (a b : List Finding) → words_of (a ++ b) ≡ words_of a ++ words_of b
words_append a b = each_append finding_words a b
