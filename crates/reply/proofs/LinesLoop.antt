-- The loop that puts a line for each finding. Before each turn the lines of the words that are left are still to be put.
--
--   words, first    the words, and the writer at the start
--   rest, now       the words that are left, and the writer now
use Prim.Native.Nat.{ℕ, ◌<◌}
use mathlib.Core.Path.{◌≡◌, refl, ap, ◌∙◌}
use mathlib.Core.List.{List, ◌++◌}
use lib.ListN.{length, get_or}
use Rattle.meaning.specs.Findings.{words_each}
use Rattle.lists.specs.ByPlace.{list_of}
use Rattle.lists.proofs.ByPlace.{list_of_is}
use Rattle.reply.specs.declared.writer.Writer.{Writer}
use Rattle.reply.specs.Lines.{numbers_line}
use Rattle.reply.specs.Writing.{lines_of_words, HasPut}
use Rattle.reply.proofs.PutLoop.{StillToPut, put_start, put_turn, put_end}
use Rattle.reply.proofs.WordsOfFindings.{lines_step, lines_none}

-- The loop's invariant.
pub record PuttingLines (words : List ℕ) (first : Writer) (rest : List ℕ) (now : Writer) : Type 0 where
  pub left : StillToPut (lines_of_words rest) (lines_of_words words) first now

-- At the start all lines are left.
pub lines_start : {words : List ℕ} {first : Writer} → PuttingLines words first words first
lines_start = record { left = put_start }

module _ {words rest : List ℕ} {first now : Writer} (so_far : PuttingLines words first rest now) where
  -- A turn puts the line of the next `words_each` words.
  pub lines_turn : (finding : List ℕ) {after : List ℕ} {last : Writer} → rest ≡ finding ++ after → length finding ≡ words_each
      → HasPut (numbers_line (list_of words_each (λ j. get_or finding j 0))) now last → PuttingLines words first after last
  lines_turn finding {after} parts long line_put =
      let places = list_of_is finding words_each (λ j. get_or finding j 0) long (λ j _. refl) in
      record {
        left = put_turn so_far.left (ap lines_of_words parts ∙ lines_step finding after long ∙ ap (λ (l : List ℕ). numbers_line l ++ lines_of_words after) places) line_put;
      }

  -- At the end all lines are put.
  pub lines_end : length rest < words_each → HasPut (lines_of_words words) first now
  lines_end few = put_end so_far.left (lines_none rest few)
