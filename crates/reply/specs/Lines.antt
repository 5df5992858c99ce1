-- Document 01, "The report program": the lines of its output. "The first line gives cell, ring number, m and k; then one line per shown finding (start,
-- rotation, distance); the last gives the three counts. A refusal prints a single line, such as `refused 2 place 0`." Document 02, ticket 1, adds the ties to a
-- finding's line.
--
--   space, lf                          a space; LF, which ends a line
--   line_of                            words with one space between, and LF at the end
--   numbers_line                       such a line of numbers
--   first_line, finding_line,          the document's four kinds of line
--   last_line, refusal_line
--   refusal_line_of                    the line of a number and a place
--   finding_lines                      "one line per shown finding"
--
-- The words in the lines are those of the document's sample: cell, ring, edges, allow; found, hidden, looks; refused, place.
use Rattle.std.specs.Prelude.{ℕ, List, [], ◌∷◌, ◌++◌, map}
use Rattle.meaning.specs.Findings.{Finding, finding_words}
use Rattle.lists.specs.Texts.{ascii}
use Rattle.answers.specs.declared.refusals.Refusal.{Refusal}
use Rattle.answers.specs.Refusals.{number_of, place_of}
use Rattle.outlines.specs.Report.{ReportCounts}
use Rattle.reply.specs.Decimal.{decimal}

-- A space, 20 hex.
abbrev pub space : ℕ
space = 0x20

-- LF, which ends a line: 0A hex.
abbrev pub lf : ℕ
lf = 0x0a

-- A line of words: one space between two of them, and LF after the last.
abbrev pub line_of : List (List ℕ) → List ℕ
line_of [] = lf ∷ []
line_of (word ∷ []) = word ++ lf ∷ []
line_of (word ∷ next ∷ words) = word ++ space ∷ line_of (next ∷ words)

-- `cell 7 ring 2 edges 2 allow 0`: "The first line gives cell, ring number, m and k".
unfoldable pub first_line : ℕ → ℕ → ℕ → ℕ → List ℕ
first_line cell ring_number m k =
    line_of (ascii "cell" ∷ decimal cell ∷ ascii "ring" ∷ decimal ring_number ∷ ascii "edges" ∷ decimal m ∷ ascii "allow" ∷ decimal k ∷ [])

-- A line of numbers in decimal digits.
abbrev pub numbers_line : List ℕ → List ℕ
numbers_line numbers = line_of (map decimal numbers)

-- `0 0 0 2`: "one line per shown finding (start, rotation, distance)", and its ties: these are the finding's words.
unfoldable pub finding_line : Finding → List ℕ
finding_line f = numbers_line (finding_words f)

-- The lines of findings, one after the other.
unfoldable pub finding_lines : List Finding → List ℕ
finding_lines [] = []
finding_lines (f ∷ fs) = finding_line f ++ finding_lines fs

-- `found 2 hidden 1 looks 12`: "the last gives the three counts".
unfoldable pub last_line : ReportCounts → List ℕ
last_line counts =
    line_of (ascii "found" ∷ decimal counts.found ∷ ascii "hidden" ∷ decimal counts.hidden ∷ ascii "looks" ∷ decimal counts.looks ∷ [])

-- The line of a refusal's number and place.
unfoldable pub refusal_line_of : ℕ → ℕ → List ℕ
refusal_line_of number place = line_of (ascii "refused" ∷ decimal number ∷ ascii "place" ∷ decimal place ∷ [])

-- "A refusal prints a single line, such as `refused 2 place 0`."
abbrev pub refusal_line : Refusal → List ℕ
refusal_line refusal = refusal_line_of (number_of refusal) (place_of refusal)
