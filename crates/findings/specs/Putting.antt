-- Document 01, "What each call returns": findings go "into the lent words"; document 02, ticket 1: "a finding becomes four words: start, rotation, distance,
-- ties". This file states what the lent words hold after one finding is put behind those already there. It covers every finding and every number of lent words.
--
--   finding_of      the finding that a struct of src/ stands for
--   words_put       the lent words after a finding is put
--   CanPut          there is room for the finding, and its four numbers are 32-bit words
--   can_put         the same as a test
--   word_of         a number as a 32-bit word, if it is one
--   four_words      the finding's words, if they are 32-bit words
--   IsFindingPut    the contract of `put_finding`
use Rattle.std.specs.Prelude.{ℕ, ◌+◌, ◌*◌, ◌≤◌, ◌^◌, ◌≡◌, Bool, cond, ◌&&◌, List, ltb, leb, length}
use Rattle.std.specs.Prelude.{Option, None, Some}
use Rattle.std.proofs.lemmas.List.Edits.{sets}
use Rattle.lists.specs.Bounds.{IsWords, is_words}
use Rattle.meaning.specs.Findings.{Finding, finding_words, words_each}
use Rattle.findings.specs.declared.searching.Finding.{Finding as FindingStruct}

-- The finding that a struct of src/ stands for: its line place and its ring place as plain numbers, its distance and its ties.
abbrev pub finding_of : FindingStruct → Finding
finding_of f = record { start = f.start.0; rotation = f.rotation.0; distance = f.distance; ties = f.ties }

-- The lent words after a finding's words are put behind those of `before` findings, from word 4·before on.
abbrev pub words_put : ℕ → Finding → List ℕ → List ℕ
words_put before f words = sets words (words_each * before) (finding_words f)

-- A finding can be put behind `before` others: `lent` words have room for it, and its start, rotation, distance and ties are 32-bit words.
pub record CanPut (lent before : ℕ) (f : Finding) : Type 0 where
  pub room : words_each * before + words_each ≤ lent
  pub words : IsWords (finding_words f)

-- `CanPut` as a test.
unfoldable pub can_put : ℕ → ℕ → Finding → Bool
can_put lent before f = leb (words_each * before + words_each) lent && is_words (finding_words f)

-- A number as a 32-bit word, if it is one.
abbrev pub word_of : ℕ → Option ℕ
word_of n = cond (ltb n (2 ^ 32)) (Some n) None

-- The finding's words, if its start, rotation, distance and ties are 32-bit words.
unfoldable pub four_words : Finding → Option (List ℕ)
four_words f = cond (is_words (finding_words f)) (Some (finding_words f)) None

-- The contract of `put_finding`; `out` are the words at exit. If the finding can be put, its words are put; if not, nothing is written.
pub record IsFindingPut (words : List ℕ) (before : ℕ) (f : Finding) (out : List ℕ) : Type 0 where
  pub written : out ≡ cond (can_put (length words) before f) (words_put before f words) words
