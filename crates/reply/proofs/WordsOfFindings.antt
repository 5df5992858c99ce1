-- `lines_of_words`, as a loop through the words meets it: the line of the first `words_each` words and the lines after it; or, with fewer words, none. And the lines
-- of the words of findings are the lines of those findings. All follow from the laws of records (`Records` of crates/lists).
use Prim.Native.Nat.{ℕ, ◌<◌}
use mathlib.Core.Path.{◌≡◌, refl, ap, ap₂, ◌∙◌}
use mathlib.Core.List.{List, [], ◌∷◌, ◌++◌, map}
use native.Mathlib.Omega.{arith}
use lib.ListN.{length, length-append}
use lib.Seq.{take_at, drop_at}
use Rattle.meaning.specs.Findings.{Finding, finding_words, words_each, words_of}
use Rattle.lists.specs.Records.{numbers_of_each}
use Rattle.lists.proofs.Records.{records_step, records_end, records_of_each}
use Rattle.reply.specs.Lines.{numbers_line, finding_line, finding_lines}
use Rattle.reply.specs.Writing.{lines_of_words}

-- one line for each finding's words
lines_each : (fs : List Finding) → numbers_of_each numbers_line (map finding_words fs) ≡ finding_lines fs
unfolding numbers_of_each finding_lines finding_line
lines_each [] = refl
lines_each (f ∷ fs) = ap (λ (lines : List ℕ). numbers_line (finding_words f) ++ lines) (lines_each fs)

-- The lines of the words of findings are the lines of the findings.
pub lines_of_findings : (fs : List Finding) → lines_of_words (words_of fs) ≡ finding_lines fs
unfolding lines_of_words
lines_of_findings fs =
    ap (numbers_of_each numbers_line) (records_of_each words_each (λ record_words. record_words) (omega arith) finding_words (λ _. refl) fs) ∙ lines_each fs

-- The words of a finding and then more words: that finding's line, and the lines of the others.
pub lines_step : (finding after : List ℕ) → length finding ≡ words_each → lines_of_words (finding ++ after) ≡ numbers_line finding ++ lines_of_words after
unfolding lines_of_words numbers_of_each
lines_step finding after long =
    ap (numbers_of_each numbers_line) (records_step words_each (λ record_words. record_words) (omega arith) (finding ++ after) 0 (omega (arith, length-append finding after)))
    ∙ ap₂ (λ (line rest : List ℕ). numbers_line line ++ lines_of_words rest) (take_at finding after words_each long) (drop_at finding after words_each long)

-- Fewer words have no line.
pub lines_none : (words : List ℕ) → length words < words_each → lines_of_words words ≡ []
unfolding lines_of_words numbers_of_each
lines_none words few = ap (numbers_of_each numbers_line) (records_end words_each (λ record_words. record_words) (omega arith) words 0 (omega arith))
