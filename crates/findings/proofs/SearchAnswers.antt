-- The two ways in which survey and scan meet their contract: a row is given, and the call is refused with nothing written; or no row is given, and the line is
-- searched. Stated once for both calls, with their rows and looks as arguments.
use Prim.Native.Nat.{ℕ}
use mathlib.Core.Path.{◌≡◌, ap, ◌∙◌}
use mathlib.Core.List.{List}
use Rattle.std.specs.Prelude.{Option, None, Some}
use Rattle.std.specs.Prelude.{Ok, Err}
use lib.ListN.{length}
use Rattle.meaning.specs.Findings.{findings, words_of}
use Rattle.lists.specs.Areas.{written}
use Rattle.answers.specs.declared.refusals.Refusal.{Refusal}
use Rattle.answers.specs.Paper.{answer_paper}
use Rattle.findings.specs.declared.searching.SearchCounts.{SearchCounts}
use Rattle.answers.specs.Rows.{first_given, answer_by, area_by}
use Rattle.findings.specs.Searching.{no_counts, searched, searched_words, LineSearched, search_paper, IsSearched}

module _ (rows : List (Option Refusal)) (ring line : List ℕ) (k : ℕ) (words : List ℕ) where
  -- the paper that the first row that is given decides is the search's
  paper_by : (o : Option Refusal) (expected : ℕ) → o ≡ first_given rows
      → answer_paper no_counts (answer_by o (record { found = length (findings ring line k); looks = expected })) ≡ search_paper rows ring line k expected
  unfolding searched
  paper_by o expected e = ap (λ (p : Option Refusal). answer_paper no_counts (answer_by p (record { found = length (findings ring line k); looks = expected }))) e

  -- the words that this row decides are the search's
  words_by : (o : Option Refusal) → o ≡ first_given rows → area_by o (written (words_of (findings ring line k)) words) words ≡ searched_words rows ring line k words
  unfolding searched_words
  words_by o e = ap (λ (p : Option Refusal). area_by p (written (words_of (findings ring line k)) words) words) e

module _ {rows : List (Option Refusal)} {ring line : List ℕ} {k expected : ℕ} {words : List ℕ} where
  -- If a row is given, returning its refusal and leaving the words as they were meets the contract of a search.
  pub refused_search : {refusal : Refusal} → Some refusal ≡ first_given rows → IsSearched rows ring line k expected words (Err refusal) words
  refused_search {refusal} e =
      record { paper = paper_by rows ring line k words (Some refusal) expected e; written = words_by rows ring line k words (Some refusal) e }

  -- If no row is given and the line is searched, returning found and looks meets the contract of a search.
  pub accepted_search : {c : SearchCounts} {out : List ℕ} → None ≡ first_given rows → LineSearched ring line k expected words c.found c.looks out
      → IsSearched rows ring line k expected words (Ok c) out
  accepted_search e done =
      record {
        paper = (λ j. record { number = 0; place = 0; counts = record { found = done.found_is j; looks = done.looks_are j } })
            ∙ paper_by rows ring line k words None expected e;
        written = done.written ∙ words_by rows ring line k words None e;
      }
