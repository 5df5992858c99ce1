-- The findings of the closed line. For n ≥ m a window fits in it exactly at the places below n, and its edges are the line's, taken mod n (`closed_edge_lem`).
-- So starts, distances and findings of the list `closed_line` are those that Closed of specs/ gives to the line. All starts are below n, so the findings
-- are those below place n, and at most n.
use Prim.Native.Nat.{ℕ, ◌+◌, ◌-◌, ◌≤◌, ◌<◌}
use mathlib.Core.Path.{◌≡◌, sym, ap, ◌∙◌}
use mathlib.Core.Logic.Iff
use mathlib.Core.Logic.{◌↔◌, ⊎_elim}
use mathlib.Core.List.{List, [], Memᴰ}
use native.Mathlib.Omega.{arith}
use lib.Dec.{eqb}
use lib.ListN.{length}
use borrow.Author.Tests.{ne_eqb}
use Rattle.lists.proofs.Cases.{le_or_lt}
use Rattle.meaning.specs.Meanings.{rotation_edge, FitsInLine, mark, IsStart, window_edge, unequal, differs, distance, reaches, rotations_reaching}
use Rattle.meaning.specs.Findings.{Finding, IsFinding, findings_below, findings, Rising}
use Rattle.meaning.specs.Closed.{closed_line, closed_edge, IsClosedStart, closed_distance, closed_reaching, IsClosedFinding}
use Rattle.meaning.proofs.Count.{count_same}
use Rattle.meaning.proofs.Starts.{unmarked_is_start, marked_no_start}
use Rattle.meaning.proofs.FindingsBelow.{below_length_le, findings_below_lem, findings_short}
use Rattle.meaning.proofs.FoundExactly.{findings_iff}
use Rattle.meaning.proofs.Rising.{below_rising}
use Rattle.meaning.proofs.ClosedLine.{closed_short, closed_length, closed_edge_lem}

module _ (ring line : List ℕ) where
  abbrev m : ℕ
  m = length ring

  abbrev n : ℕ
  n = length line

  abbrev closed : List ℕ
  closed = closed_line m line

  module _ (long : m ≤ n) (i : ℕ) (in_line : i < n) where
    -- At a place below n, the distances in the list `closed_line` are those of the window whose "edges continue from the beginning after the last".
    pub closed_distance_lem : (r : ℕ) → distance ring closed i r ≡ closed_distance ring line i r
    unfolding distance differs closed_distance
    closed_distance_lem r =
        count_same (differs ring closed i r) (λ q. unequal (closed_edge line i q) (rotation_edge ring r q)) 0 m
        (λ q _ l. ap (λ (x : ℕ). unequal x (rotation_edge ring r q)) (closed_edge_lem m line long i q in_line (omega arith)))

    -- At a place below n, as many rotations reach a distance in the list `closed_line` as in the closed line.
    pub closed_reaching_lem : (d : ℕ) → rotations_reaching ring closed i d ≡ closed_reaching ring line i d
    unfolding rotations_reaching closed_reaching
    closed_reaching_lem d =
        count_same (reaches ring closed i d) (λ r. eqb (closed_distance ring line i r) d) 0 m
        (λ r _ _. ap (λ (x : ℕ). eqb x d) (closed_distance_lem r))

  module _ (pos : 0 < m) where
    -- For n ≥ m a window fits in the closed line at every place below n and nowhere else; for n < m it fits nowhere.
    pub closed_fits_iff : (i : ℕ) → FitsInLine ring closed i ↔ ((m ≤ n) × (i < n))
    closed_fits_iff i = (
      λ fits.
          ⊎_elim
          (λ long. (long, omega (arith, fits.in_line, closed_length m line pos long)))
          (λ short. absurd (omega (arith, fits.in_line, ap length (closed_short m line short))))
          (le_or_lt m n),
      λ h. record { in_line = omega (arith, closed_length m line pos h.0, h.0, h.1) },
    )

    -- The starts of the list `closed_line` are those of the closed line: "for n ≥ m every place 0 to n−1 without a mark in its window", and no others.
    pub closed_start_iff : (i : ℕ) → IsStart ring closed i ↔ IsClosedStart ring line i
    closed_start_iff i = (
      λ s.
          let at = (closed_fits_iff i).0 s.fits_in_line in
          record {
            long = at.0;
            in_line = at.1;
            no_mark = λ q l is. marked_no_start ring closed i q l (closed_edge_lem m line at.0 i q at.1 l ∙ is) s;
          },
      λ s.
          unmarked_is_start ring closed i ((closed_fits_iff i).1 (s.long, s.in_line))
          (λ q l. ne_eqb (window_edge closed i q) mark (λ is. s.no_mark q l (sym (closed_edge_lem m line s.long i q s.in_line l) ∙ is))),
    )

    module _ (k : ℕ) where
      -- The findings of the list `closed_line` are those of the closed line, with the same four numbers.
      pub closed_finding_iff : (f : Finding) → IsFinding ring closed k f ↔ IsClosedFinding ring line k f
      closed_finding_iff f = (
        λ is.
            let start = (closed_start_iff f.start).0 is.is_start in
            let same = closed_distance_lem start.long f.start start.in_line in
            record {
              is_start = start;
              is_rotation = is.is_rotation;
              distance_is = is.distance_is ∙ same f.rotation;
              at_most_k = is.at_most_k;
              least = λ r l. omega (arith, is.least r l, same r);
              lowest = λ r l. omega (arith, is.lowest r l, same r);
              ties_are = is.ties_are ∙ closed_reaching_lem start.long f.start start.in_line f.distance;
            },
        λ is.
            let start = is.is_start in
            let same = closed_distance_lem start.long f.start start.in_line in
            record {
              is_start = (closed_start_iff f.start).1 start;
              is_rotation = is.is_rotation;
              distance_is = is.distance_is ∙ sym (same f.rotation);
              at_most_k = is.at_most_k;
              least = λ r l. omega (arith, is.least r l, same r);
              lowest = λ r l. omega (arith, is.lowest r l, same r);
              ties_are = is.ties_are ∙ sym (closed_reaching_lem start.long f.start start.in_line f.distance);
            },
      )

      -- What survey and scan list, `findings` of `closed_line`, has every finding of the closed line and nothing else.
      pub closed_findings_iff : (f : Finding) → Memᴰ f (findings ring closed k) ↔ IsClosedFinding ring line k f
      closed_findings_iff f = Iff.trans (findings_iff ring closed k pos f) (closed_finding_iff f)

      -- All findings of the closed line are below place n.
      pub closed_findings_below : findings ring closed k ≡ findings_below ring closed k n
      closed_findings_below =
          ⊎_elim
          (λ long.
          let size : length closed ≡ n + m - 1 = closed_length m line pos long in
          findings_below_lem ring closed k n (omega arith) (record { past = omega arith }))
          (λ short. ap (λ (whole : List ℕ). findings_below ring closed k (length whole)) (closed_short m line short))
          (le_or_lt m n)

      -- The starts of the closed line's findings rise strictly, and all are below n.
      pub closed_findings_rising : Rising 0 n (findings ring closed k)
      closed_findings_rising = rw closed_findings_below (below_rising ring closed k n)

      -- The closed line has at most n findings. (So `words_each`·n words are room for all, by `words_length`.)
      pub closed_findings_length_le : length (findings ring closed k) ≤ n
      closed_findings_length_le = rw closed_findings_below (below_length_le ring closed k n)

  -- For n < m the closed line has no findings: "for n < m there are none".
  pub closed_findings_short : (k : ℕ) → n < m → findings ring closed k ≡ []
  closed_findings_short k short = ap (λ (whole : List ℕ). findings ring whole k) (closed_short m line short) ∙ findings_short ring line k short
