-- The loop of `survey_starts`. Before start i the words of the findings below i are put, the looks are those of the starts below i, and for i above 0 the counts
-- are the tally of start i − 1. A turn verifies the starts from i to the one reached; only that one may be a finding. Whether it is a start is read off the place
-- just past the last mark seen (`start_iff_past` of crates/tally). When no window fits in the line any more, all findings are found.
use Prim.Native.Nat.{ℕ, ◌+◌, ◌-◌, ◌*◌, ◌≤◌, ◌<◌, max}
use mathlib.Core.Path.{◌≡◌, refl, sym, ap, ap₂, ◌∙◌}
use mathlib.Core.Bool.{true, false, true≢false}
use mathlib.Core.Logic.{⊎_elim}
use mathlib.Core.List.{List, [], ◌∷◌, ◌++◌, append-nil}
use native.Mathlib.Nat.{mul-le-mul}
use native.Mathlib.Numerals.{add-one}
use native.Mathlib.Omega.{arith}
use lib.Dec.{leb, eqb}
use lib.ListN.{length}
use borrow.Author.Tests.{leb-true, le-leb, ne_eqb}
use Rattle.lists.proofs.Cases.{by_test, and_true, le_or_lt}
use Rattle.lists.specs.Bounds.{IsWords}
use Rattle.meaning.specs.Findings.{Finding, found_at, findings_below, findings, finding_words, words_each, words_of}
use Rattle.lists.specs.Areas.{written}
use Rattle.meaning.specs.Meanings.{FitsInLine, IsPastLine}
use Rattle.meaning.specs.Looks.{afresh_looks, step_looks, survey_looks_below}
use Rattle.meaning.proofs.Starts.{no_start}
use Rattle.meaning.proofs.Places.{found_no_start, found_no}
use Rattle.meaning.proofs.FoundExactly.{found_is}
use Rattle.meaning.proofs.FindingsBelow.{below_same, below_length_le, findings_below_lem}
use Rattle.meaning.proofs.SurveyLooks.{survey_looks_below_lem, survey_looks_end}
use Rattle.moves.specs.declared.steps.Reached.{Reached}
use Rattle.findings.specs.Limits.{most_places, CanSearch}
use Rattle.windows.specs.Windows.{Parts, whole_line}
use Rattle.tally.specs.Marks.{past_mark}
use Rattle.tally.specs.Counts.{most_counts, IsFindingAt}
use Rattle.tally.specs.Tallied.{Tallied}
use Rattle.tally.proofs.PastMark.{past_none, past_join, start_iff_past}
use Rattle.tally.proofs.TallyFinding.{least_no, least_yes}
use Rattle.findings.specs.declared.searching.Finding.{Finding as FindingStruct}
use Rattle.findings.specs.Putting.{finding_of, IsFindingPut}
use Rattle.survey.specs.Survey.{edges_seen, is_found, IsVerifiedOn, CanSurvey, LineSurveyed}
use Rattle.findings.proofs.WordsSoFar.{search_words, WordsSoFar, so_far_none, so_far_length, so_far_more}

-- The invariant of the loop of `survey_starts`, before start i.
pub record SurveyKeeps (ring doubled : List ℕ) (p : Parts) (k : ℕ) (area : List ℕ) (i found looks past : ℕ) (counts words : List ℕ) : Type 0 where
  pub can : CanSurvey ring doubled p k counts area
  pub start_le : i ≤ length (whole_line (length ring) p)
  pub put : WordsSoFar area (findings_below ring (whole_line (length ring) p) k i) found words
  pub length_is : length words ≡ length area
  pub looks_are : looks ≡ survey_looks_below ring (whole_line (length ring) p) i
  pub before : 0 < i → Tallied ring (whole_line (length ring) p) (i - 1) counts
  pub past_is : past ≡ past_mark (whole_line (length ring) p) 0 (edges_seen (length ring) i)

-- The invariant holds before start 0: nothing is found, and the words are as they were lent.
pub survey_start : {ring doubled : List ℕ} {p : Parts} {k : ℕ} {counts area : List ℕ} → CanSurvey ring doubled p k counts area
    → SurveyKeeps ring doubled p k area 0 0 0 0 counts area
unfolding findings_below survey_looks_below
survey_start {ring} {p = p} {area = area} can = record {
  can = can;
  start_le = omega arith;
  put = so_far_none area;
  length_is = refl;
  looks_are = refl;
  before = λ l. absurd (omega arith);
  past_is = sym (past_none (whole_line (length ring) p) 0);
}

module _ {ring doubled : List ℕ} {p : Parts} {k : ℕ} {area : List ℕ} {i found looks past : ℕ} {counts words : List ℕ}
    (keeps : SurveyKeeps ring doubled p k area i found looks past counts words) where
  -- the whole line, whose windows the parts hold
  abbrev line : List ℕ
  line = whole_line (length ring) p

  -- the search is within the limits
  within : CanSearch ring k (length line) (length area)
  within = keeps.can.can_survey.can_search

  -- If no window fits in the line at i, the contract of `survey_starts` is met.
  pub survey_end : IsPastLine ring line i → LineSurveyed ring line k area found looks words
  survey_end past =
      let all : findings_below ring line k i ≡ findings ring line k = sym (findings_below_lem ring line k i keeps.start_le past) in
      record {
        found_is = keeps.put.count_is_lem ∙ ap (λ (l : List Finding). length l) all;
        looks_are = keeps.looks_are ∙ sym (survey_looks_end ring line i keeps.start_le past);
        written = keeps.put.words_are ∙ ap (λ (l : List Finding). written (words_of l) area) all;
      }

  -- Before start i at most i findings are found.
  pub survey_found_le : found ≤ i
  survey_found_le = omega (arith, keeps.put.count_is_lem, below_length_le ring line k i)

  module _ (in_line : FitsInLine ring line i) where
    -- there is room for one finding more
    room_behind : words_each * found + words_each ≤ length area
    room_behind = omega (arith, survey_found_le, within.room_for (omega arith))

    -- A turn: the starts from i to the one reached are verified.
    module _ {counts' : List ℕ} {reached : Reached} (verified : IsVerifiedOn ring line k i counts' reached) where
      abbrev start : ℕ
      start = reached.start.0

      -- The looks after the turn are at most 256·256 + 2^32·512, because m ≤ 256 and the whole line has fewer than 2^32 places.
      pub survey_looks_le : looks + reached.looks ≤ afresh_looks most_counts + most_places * step_looks most_counts
      survey_looks_le =
          let steps : step_looks (length ring) ≤ step_looks most_counts = omega (arith, within.most_ring) in
          let starts : start ≤ most_places = omega (arith, verified.in_line, within.most_places) in
          omega (
            arith,
            keeps.looks_are,
            verified.looks_are,
            ap (survey_looks_below ring line) (add-one start) ∙ survey_looks_below_lem ring line start verified.in_line,
            mul-le-mul within.most_ring within.most_ring,
            mul-le-mul starts steps,
          )

      -- The place after the start reached is at most n.
      pub survey_next_le : start + 1 ≤ length line
      survey_next_le = omega (arith, verified.in_line, within.some_edge)

      -- the starts passed are no findings, so only the start reached adds to them
      below_turn : findings_below ring line k (start + 1) ≡ findings_below ring line k i ++ found_at ring line k start
      unfolding findings_below
      below_turn =
          let there : i + (start - i) ≡ start = omega (arith, verified.start_ge) in
          let passed : findings_below ring line k start ≡ findings_below ring line k i =
          ap (findings_below ring line k) (sym there)
          ∙ below_same ring line k i (start - i) (λ t lo hi. found_no ring line k t (verified.passed t lo (omega arith)))
          in
          rw (add-one start, passed)

      module _ {past' : ℕ} (later_is : past' ≡ max past reached.past) where
        -- the place just past the last mark among the edges seen up to the end of the window reached
        seen_is : past' ≡ past_mark line 0 (start + length ring)
        seen_is =
            let seen : ℕ = edges_seen (length ring) i in
            let all : seen + (start + length ring - seen) ≡ start + length ring = seen_all in
            later_is ∙ ap₂ max keeps.past_is verified.past_is ∙ past_join line seen (start + length ring - seen) ∙ ap (past_mark line 0) all
          where
            seen_all : edges_seen (length ring) i + (start + length ring - edges_seen (length ring) i) ≡ start + length ring
            seen_all =
                by_test (λ (n : ℕ). n + (start + length ring - n) ≡ start + length ring) (eqb i 0) (λ _. omega arith) (λ _. omega (arith, verified.start_ge))

        -- the invariant after the turn, finding or not
        survey_turn : {fs : List Finding} {found' : ℕ} {words' : List ℕ} → found_at ring line k start ≡ fs
            → WordsSoFar area (findings_below ring line k i ++ fs) found' words' → length words' ≡ length area
            → SurveyKeeps ring doubled p k area (start + 1) found' (looks + reached.looks) past' counts' words'
        survey_turn here put length_is =
            let back : start + 1 - 1 ≡ start = omega arith in
            record {
              can = record { can_survey = keeps.can.can_survey; twice = keeps.can.twice; size = verified.tallied.size };
              start_le = survey_next_le;
              put = rw (below_turn, here) put;
              length_is = length_is;
              looks_are = omega (arith, keeps.looks_are, verified.looks_are);
              before = λ _. rw back verified.tallied;
              past_is = rw (ne_eqb (start + 1) 0 (λ e. omega arith), back) seen_is;
            }

        -- a place that is no start, or whose least count is above k, has no finding
        none_here : is_found k reached.least past' start ≡ false → found_at ring line k start ≡ []
        none_here not_found =
            ⊎_elim
            (λ near. ⊎_elim
            (λ clear.
            let is : is_found k reached.least past' start ≡ true = rw (le-leb reached.least k near) (le-leb past' start clear) in
            absurd (true≢false (sym is ∙ not_found)))
            (λ marked. found_no_start ring line k start
            (no_start ring line start (λ is_start. let clear = (start_iff_past ring line start verified.in_line).0 is_start in omega (arith, seen_is))))
            (le_or_lt past' start))
            (λ far. least_no ring line k start counts' reached.least within.some_edge verified.tallied verified.least_is far)
            (le_or_lt reached.least k)

        -- If the place reached is no finding, the invariant holds with the same words.
        pub survey_none : is_found k reached.least past' start ≡ false
            → SurveyKeeps ring doubled p k area (start + 1) found (looks + reached.looks) past' counts' words
        survey_none not_found = survey_turn (none_here not_found) (rw append-nil keeps.put) keeps.length_is

        -- If the place reached is a finding, the invariant holds once its words are put.
        pub survey_found : {f : FindingStruct} {out : List ℕ} → is_found k reached.least past' start ≡ true
            → IsFindingAt (length ring) counts' reached.start reached.least f
            → IsFindingPut words found (finding_of f) out → SurveyKeeps ring doubled p k area (start + 1) (found + 1) (looks + reached.looks) past' counts' out
        survey_found {f} found_Here carried put =
            let both = and_true (leb reached.least k) (leb past' start) found_Here in
            let near : reached.least ≤ k = leb-true reached.least k both.0 in
            let is_start = (start_iff_past ring line start verified.in_line).1 (omega (arith, seen_is, leb-true past' start both.1)) in
            let here : found_at ring line k start ≡ finding_of f ∷ [] =
            least_yes ring line k start counts' reached.least within.some_edge verified.tallied verified.least_is f within.most_ring carried is_start near in
            let are_words : IsWords (finding_words (finding_of f)) =
            search_words ring line within (found_is ring line k within.some_edge start (finding_of f) here) in
            let more = so_far_more keeps.put room_behind are_words put in
            survey_turn here more (so_far_length more (omega (arith, room_behind)))
