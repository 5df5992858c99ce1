-- Document 01, "Sample rings": P1 to P12 as one table under one claim, which antt computes. A second table of the same form pins what no row of the first
-- does: rule 5's choice between a fresh count and steps, the break edge, the last verified start, steps across a stopped window, the plain survey's
-- looks, the codes 0 and 254, and ties. A third has boundary marks, a fourth closed lines. Looks and numbers of candidates that the document leaves out of a
-- row are left out here. Every finding has its ties: document 02 gives those of P6, the others follow from the meaning.
use Rattle.std.specs.Prelude.{ℕ, ◌≡◌, refl, cond, List, [], ◌∷◌, map, eqb, length}
use Prim.Native.String.{String}
use Rattle.std.specs.Prelude.{Option, None, Some}
use Rattle.lists.specs.Areas.{written}
use Rattle.lists.specs.Texts.{ascii}
use Rattle.meaning.specs.Counting.{count, lowest, some_below}
use Rattle.meaning.specs.Meanings.{window, mark, holds_mark, differs, distance, lowest_rotation, rotations_reaching}
use Rattle.meaning.specs.Findings.{Finding, found_at, findings_below, findings}
use Rattle.meaning.specs.Stretch.{begins, fits}
use Rattle.meaning.specs.Rules.{read_edge, read_left, read_window, windows_from, candidates_of, candidates, reported, quick_findings}
use Rattle.meaning.specs.Looks.{read_looks, tally_looks, verify_looks, quick_looks, survey_looks_below, survey_looks}
use Rattle.meaning.specs.Closed.{closed_line, join_of, joined_with}

-- "findings as (start, rotation, distance)", and the ties of document 02, ticket 1: "in P6 ties is 2".
abbrev pub finding : ℕ → ℕ → ℕ → ℕ → Finding
finding i r d t = record { start = i; rotation = r; distance = d; ties = t }

-- A row: its name; ring, line and k; the findings (`found`); what the rules report (`quick_found`); and, where the row gives them, the quick looks,
-- the number of candidates and the plain survey's looks.
pub record Sample : Type 0 where
  pub name : String
  pub ring : List ℕ
  pub line : List ℕ
  pub k : ℕ
  pub found : List Finding
  pub quick_found : List Finding
  pub looks : Option ℕ
  pub candidate_count : Option ℕ
  pub survey_looks : Option ℕ

-- A row as the tables below write it. The findings are given once: the rules are to report the same.
abbrev sample_row : String → List ℕ → List ℕ → ℕ → List Finding → Option ℕ → Option ℕ → Option ℕ → Sample
sample_row name ring line k found looks cands survey =
    record {
      name = name;
      ring = ring;
      line = line;
      k = k;
      found = found;
      quick_found = found;
      looks = looks;
      candidate_count = cands;
      survey_looks = survey;
    }

-- The number n if the row gives a number there, else none.
abbrev given : Option ℕ → ℕ → Option ℕ
given None n = None
given (Some _) n = Some n

-- The row with its answers computed from the meanings and rules. A number that the row leaves out is left out again.
abbrev pub answered : Sample → Sample
answered s =
    record {
      name = s.name;
      ring = s.ring;
      line = s.line;
      k = s.k;
      found = findings s.ring s.line s.k;
      quick_found = quick_findings s.ring s.line s.k;
      looks = given s.looks (quick_looks s.ring s.line s.k);
      candidate_count = given s.candidate_count (length (candidates s.ring s.line s.k));
      survey_looks = given s.survey_looks (survey_looks s.ring s.line);
    }

-- The document's table, each finding with its ties. For P11 it gives "none, one candidate".
unfoldable pub samples : List Sample
samples =
    sample_row "P1" (ascii "GGGTCTA") (ascii "GATACGATACCTAGGGTGATAGAATAG") 0 (finding 10 4 0 1 ∷ []) None None None
    ∷ sample_row "P2" (ascii "GGGTCTA") (ascii "GATACGATACCTAGGGTGATAGAATAG") 1 (finding 9 3 1 1 ∷ finding 10 4 0 1 ∷ finding 11 5 1 1 ∷ []) None None None
    ∷ sample_row "P3" (ascii "ABCDEFGH") (ascii "BCzEzGzA") 3 (finding 0 1 3 1 ∷ []) None None None
    ∷ sample_row "P4" (ascii "ABCDEFGH") (ascii "BCzEzGzA") 2 [] None None None
    ∷ sample_row "P5" (ascii "a") (ascii "ba") 0 (finding 1 0 0 1 ∷ []) (Some 3) None None
    ∷ sample_row "P6" (ascii "aa") (ascii "aaa") 0 (finding 0 0 0 2 ∷ finding 1 0 0 2 ∷ []) (Some 12) None None
    ∷ sample_row "P7" (ascii "abcd") (ascii "zzzzzzzzzz") 1 [] (Some 6) None None
    ∷ sample_row "P8" (ascii "abc") (ascii "ab") 0 [] (Some 0) None None
    ∷ sample_row "P9" (ascii "abc") (ascii "cab") 0 (finding 0 2 0 1 ∷ []) (Some 12) None None
    ∷ sample_row "P10" (ascii "ab") (ascii "zbz") 1 (finding 0 0 1 1 ∷ finding 1 1 1 1 ∷ []) None None None
    ∷ sample_row "P11" (ascii "abcdef") (ascii "bcdfab") 1 [] (Some 42) (Some 1) None
    ∷ sample_row "P12" (ascii "abcdef") (ascii "bcdfab") 3 (finding 0 1 3 2 ∷ []) (Some 42) None None
    ∷ []

-- Computed from the meanings and rules, every row has the answers of the document's table, and these ties.
pub samples_right : map answered samples ≡ samples
unfolding samples ascii window holds_mark count lowest some_below differs distance lowest_rotation rotations_reaching found_at findings_below begins fits read_edge read_left read_window windows_from candidates_of reported read_looks tally_looks verify_looks survey_looks_below
samples_right = refl

-- Rows of our own. In the first three the last candidate is s beyond the one before it: m = 3, s = 2, afresh because 2·s > m; m = 3, s = 1, one
-- step; m = 5, s = 2, two steps although 3·s > m. Then: m = 1, where the scan counts afresh and the survey steps; a break edge that fits by itself
-- and still begins no stretch; a candidate that is not a finding and still is the last verified one; steps across a window that was stopped; the codes 0
-- and 254; and ties: of a square, of a ring of period 2, and of a start where three rotations are within k but only one reaches the least distance.
unfoldable pub own_samples : List Sample
own_samples =
    sample_row "afresh where 2·s > m" (ascii "aab") (ascii "baaab") 0 (finding 0 2 0 1 ∷ finding 2 0 0 1 ∷ []) (Some 27) (Some 2) (Some 21)
    ∷ sample_row "one step" (ascii "aaa") (ascii "aaaa") 0 (finding 0 0 0 3 ∷ finding 1 0 0 3 ∷ []) (Some 21) (Some 2) (Some 15)
    ∷ sample_row "two steps over a start that is no candidate" (ascii "aaaab") (ascii "baaaaab") 0 (finding 0 4 0 1 ∷ finding 2 0 0 1 ∷ []) (Some 60) (Some 2) (Some 45)
    ∷ sample_row "one edge" (ascii "a") (ascii "aaa") 0 (finding 0 0 0 1 ∷ finding 1 0 0 1 ∷ finding 2 0 0 1 ∷ []) (Some 6) (Some 3) (Some 5)
    ∷ sample_row "the break edge is in no stretch" (ascii "abc") (ascii "aac") 1 (finding 0 0 1 1 ∷ []) (Some 12) (Some 1) (Some 9)
    ∷ sample_row "a candidate is the last verified one, finding or not" (ascii "abc") (ascii "aaaa") 1 [] (Some 21) (Some 2) (Some 15)
    ∷ sample_row "the tally is kept over a jump" (ascii "aaaaaab") (ascii "aabaaaabaa") 0 (finding 0 4 0 1 ∷ finding 3 2 0 1 ∷ []) (Some 111) (Some 2) (Some 91)
    ∷ sample_row "codes 0 and 254" (0 ∷ 254 ∷ []) (254 ∷ 0 ∷ 254 ∷ 254 ∷ []) 0 (finding 0 1 0 1 ∷ finding 1 0 0 1 ∷ []) (Some 14) (Some 2) (Some 12)
    ∷ sample_row "a square of equal edges" (ascii "aaaa") (ascii "aaaa") 0 (finding 0 0 0 4 ∷ []) (Some 20) (Some 1) (Some 16)
    ∷ sample_row "two ties, also at distance 1" (ascii "abab") (ascii "ababz") 1 (finding 0 0 0 2 ∷ finding 1 1 1 2 ∷ []) (Some 32) (Some 2) (Some 24)
    ∷ sample_row "three rotations within k, one at the least" (ascii "aab") (ascii "aab") 2 (finding 0 0 0 1 ∷ []) (Some 12) (Some 1) (Some 9)
    ∷ []

-- Computed from the meanings and rules, our own rows are right too.
pub own_samples_right : map answered own_samples ≡ own_samples
unfolding own_samples ascii window holds_mark count lowest some_below differs distance lowest_rotation rotations_reaching found_at findings_below begins fits read_edge read_left read_window windows_from candidates_of reported read_looks tally_looks verify_looks survey_looks_below
own_samples_right = refl

-- A line with boundary marks: the bytes of a text, each | in it (byte 124) as a mark.
unfoldable pub marked : String → List ℕ
marked text = map (λ x. cond (eqb x 124) mark x) (ascii text)

-- Document 02, ticket 2: "a window holding one isn't a start". An exact copy has 2·k + 1 findings around it; between two marks it has one, whatever k is. Then
-- marks first, last, side by side, m before the end, and at each place of the only window; a ring of one edge; a mark reached after k breaks, and as the last
-- edge read; and a line of marks, where each window takes one look. The survey's looks are those of a line without marks.
unfoldable pub mark_samples : List Sample
mark_samples =
    sample_row "a copy without marks, k = 1" (ascii "abc") (ascii "zzzzabczzzz") 1 (finding 3 2 1 1 ∷ finding 4 0 0 1 ∷ finding 5 1 1 1 ∷ []) (Some 39) (Some 3) (Some 57)
    ∷ sample_row "a copy without marks, k = 2" (ascii "abc") (ascii "zzzzabczzzz") 2 (finding 2 1 2 1 ∷ finding 3 2 1 1 ∷ finding 4 0 0 1 ∷ finding 5 1 1 1 ∷ finding 6 2 2 1 ∷ []) (Some 60) (Some 5) (Some 57)
    ∷ sample_row "a copy between marks, k = 0" (ascii "abc") (marked "zzz|abc|zzz") 0 (finding 4 0 0 1 ∷ []) (Some 18) (Some 1) (Some 57)
    ∷ sample_row "a copy between marks, k = 1" (ascii "abc") (marked "zzz|abc|zzz") 1 (finding 4 0 0 1 ∷ []) (Some 19) (Some 1) (Some 57)
    ∷ sample_row "a copy between marks, k = 2" (ascii "abc") (marked "zzz|abc|zzz") 2 (finding 4 0 0 1 ∷ []) (Some 20) (Some 1) (Some 57)
    ∷ sample_row "two outlines, one mark" (ascii "ab") (marked "ab|ab") 0 (finding 0 0 0 1 ∷ finding 3 0 0 1 ∷ []) (Some 13) (Some 2) (Some 16)
    ∷ sample_row "two outlines, one mark, k = 1" (ascii "ab") (marked "ab|ab") 1 (finding 0 0 0 1 ∷ finding 3 0 0 1 ∷ []) (Some 13) (Some 2) (Some 16)
    ∷ sample_row "a mark first" (ascii "ab") (marked "|ab") 0 (finding 1 0 0 1 ∷ []) (Some 8) (Some 1) (Some 8)
    ∷ sample_row "a mark last" (ascii "ab") (marked "ab|") 0 (finding 0 0 0 1 ∷ []) (Some 7) (Some 1) (Some 8)
    ∷ sample_row "a mark twice in a row" (ascii "ab") (marked "ab||ab") 0 (finding 0 0 0 1 ∷ finding 4 0 0 1 ∷ []) (Some 15) (Some 2) (Some 20)
    ∷ sample_row "a mark m before the end" (ascii "ab") (marked "ab|b") 1 (finding 0 0 0 1 ∷ []) (Some 7) (Some 1) (Some 12)
    ∷ sample_row "n = m, a mark at place 0" (ascii "abc") (marked "|bc") 2 [] (Some 3) (Some 0) (Some 9)
    ∷ sample_row "n = m, a mark at place 1" (ascii "abc") (marked "a|c") 2 [] (Some 2) (Some 0) (Some 9)
    ∷ sample_row "n = m, a mark at place 2" (ascii "abc") (marked "ab|") 2 [] (Some 1) (Some 0) (Some 9)
    ∷ sample_row "one edge and a mark" (ascii "a") (marked "a|a") 0 (finding 0 0 0 1 ∷ finding 2 0 0 1 ∷ []) (Some 5) (Some 2) (Some 5)
    ∷ sample_row "a mark after k breaks" (ascii "abc") (marked "a|zabc") 1 (finding 2 2 1 1 ∷ finding 3 0 0 1 ∷ []) (Some 23) (Some 2) (Some 27)
    ∷ sample_row "a mark as the last edge read" (ascii "abc") (marked "|bcabc") 1 (finding 1 1 0 1 ∷ finding 2 2 0 1 ∷ finding 3 0 0 1 ∷ []) (Some 33) (Some 3) (Some 27)
    ∷ sample_row "marks only" (ascii "ab") (marked "|||||||") 1 [] (Some 3) (Some 0) (Some 24)
    ∷ []

-- Computed from the meanings and rules, the rows with marks are right too.
pub mark_samples_right : map answered mark_samples ≡ mark_samples
unfolding mark_samples marked ascii window holds_mark count lowest some_below differs distance lowest_rotation rotations_reaching found_at findings_below begins fits read_edge read_left read_window windows_from candidates_of reported read_looks tally_looks verify_looks survey_looks_below
mark_samples_right = refl

-- A row for a line that is closed: its answers are those of `closed_line`.
abbrev closed_row : String → List ℕ → List ℕ → ℕ → List Finding → Option ℕ → Option ℕ → Option ℕ → Sample
closed_row name ring line = sample_row name ring (closed_line (length ring) line)

-- Document 02, ticket 3: "a match across its own first vertex is lost today". The line bca is the ring abc from another vertex: open it has one finding,
-- closed it has one at each place. Then a copy across the line's end, open and closed; a mark beside such a copy; a mark as the last edge, so that no start
-- crosses the end; n = m with ties; a ring of one edge, where open and closed give the same; and a line shorter than the ring. Two closed rows reach the look
-- bound, 3·m·(n + m − 1) − 2·m·m + m = 30.
unfoldable pub closed_samples : List Sample
closed_samples =
    sample_row "another vertex first, open" (ascii "abc") (ascii "bca") 0 (finding 0 1 0 1 ∷ []) (Some 12) (Some 1) (Some 9)
    ∷ closed_row "another vertex first, closed" (ascii "abc") (ascii "bca") 0 (finding 0 1 0 1 ∷ finding 1 2 0 1 ∷ finding 2 0 0 1 ∷ []) (Some 30) (Some 3) (Some 21)
    ∷ sample_row "a copy across the end, open" (ascii "abcd") (ascii "dzzzabc") 1 (finding 3 3 1 1 ∷ []) (Some 22) (Some 1) (Some 40)
    ∷ closed_row "a copy across the end, closed" (ascii "abcd") (ascii "dzzzabc") 1 (finding 3 3 1 1 ∷ finding 4 0 0 1 ∷ finding 5 1 1 1 ∷ []) (Some 48) (Some 3) (Some 64)
    ∷ closed_row "a mark beside a copy across the end" (ascii "abc") (marked "c|ab") 0 (finding 2 0 0 1 ∷ []) (Some 15) (Some 1) (Some 27)
    ∷ closed_row "a mark last, closed" (ascii "abc") (marked "bca|") 1 (finding 0 1 0 1 ∷ []) (Some 13) (Some 1) (Some 27)
    ∷ closed_row "n = m, closed" (ascii "aaa") (ascii "aaa") 0 (finding 0 0 0 3 ∷ finding 1 0 0 3 ∷ finding 2 0 0 3 ∷ []) (Some 30) (Some 3) (Some 21)
    ∷ closed_row "one edge, closed" (ascii "a") (ascii "aba") 0 (finding 0 0 0 1 ∷ finding 2 0 0 1 ∷ []) (Some 5) (Some 2) (Some 5)
    ∷ closed_row "a line shorter than the ring, closed" (ascii "abc") (ascii "ab") 0 [] (Some 0) (Some 0) (Some 0)
    ∷ []

-- Computed from the meanings and rules, the rows of closed lines are right too.
pub closed_samples_right : map answered closed_samples ≡ closed_samples
unfolding closed_samples closed_line marked ascii window holds_mark count lowest some_below differs distance lowest_rotation rotations_reaching found_at findings_below begins fits read_edge read_left read_window windows_from candidates_of reported read_looks tally_looks verify_looks survey_looks_below
closed_samples_right = refl

-- The closed line and the join area of the line bca for m = 3: the line's last two edges, then its first two; bytes behind them keep their values. For m = 1
-- and for n < m all bytes do.
pub join_samples_right :
    (closed_line 3 (ascii "bca") ≡ ascii "bcabc")
    × (joined_with 3 (ascii "bca") (ascii "zzzzyy") ≡ ascii "cabcyy")
    × (joined_with 1 (ascii "bca") (ascii "zz") ≡ ascii "zz")
    × (joined_with 4 (ascii "bca") (ascii "zzzzzz") ≡ ascii "zzzzzz")
unfolding closed_line join_of joined_with written ascii
join_samples_right = (refl, refl, refl, refl)
