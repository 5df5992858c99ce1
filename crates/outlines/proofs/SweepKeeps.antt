-- The sweep's part of the loop's invariant. Before each turn the findings and the looks so far are right (`ScanLoop` of crates/meaning), and the counts are the
-- tally of the last verified start. A turn is one call of `sweep_on`: stopped windows add no finding (`stopped_scanned` of crates/sweep), and a
-- candidate is verified (`scan_verified`). A turn ends past the start where it began, so the measure falls.
use Prim.Native.Nat.{ℕ, ◌+◌, ◌-◌, ◌≤◌, ◌<◌}
use mathlib.Core.Path.{◌≡◌, refl, sym, ap, ◌∙◌}
use mathlib.Core.Bool.{false}
use mathlib.Core.List.{List, [], ◌∷◌, ◌++◌, append-nil}
use Rattle.std.specs.Prelude.{None}
use native.Mathlib.Nat.{mul-le-mul}
use native.Mathlib.Omega.{arith}
use lib.ListN.{length}
use Rattle.meaning.specs.Meanings.{FitsInLine}
use Rattle.meaning.specs.Findings.{Finding, found_at, finding_words}
use Rattle.lists.proofs.SizesTested.{test_fails}
use Rattle.meaning.proofs.Marks.{holds_iff}
use Rattle.meaning.proofs.LookBound.{quick_looks_most}
use Rattle.meaning.proofs.Places.{found_start}
use Rattle.meaning.proofs.FoundExactly.{found_is}
use Rattle.meaning.proofs.ScanLoop.{ScanLoop, scan_start, scan_so_far_le, scan_verified}
use Rattle.occurrences.specs.declared.table.EdgeVectors.{EdgeVectors}
use Rattle.windows.specs.Windows.{Parts, whole_line}
use Rattle.tally.specs.Counts.{most_counts}
use Rattle.findings.specs.Limits.{most_places, CanSearch}
use Rattle.lists.specs.Bounds.{IsWords}
use Rattle.findings.proofs.WordsSoFar.{search_words}
use Rattle.sweep.specs.declared.sweeping.Sweep.{Sweep}
use Rattle.sweep.specs.declared.sweeping.Swept.{Swept}
use Rattle.sweep.specs.declared.sweeping.Swept.TheVariants.{Ended, NoFinding, Found}
use Rattle.sweep.specs.Sweeps.{IsSweptBy}
use Rattle.sweep.specs.SweepRules.{state_of, found_of, has_ended, CanSweepOn, IsSweptOn}
use Rattle.sweep.specs.VerifyingRules.{TalliedBefore, last_start}
use Rattle.sweep.proofs.SweptByRules.{swept_by_rules}
use Rattle.sweep.proofs.WindowsStopped.{stopped_from_le, stopped_start_le, stopped_scanned}
use Rattle.outlines.specs.LineScan.{CanScan}

-- The invariant before a turn, with the findings so far.
pub record SweepKeeps (ring line : List ℕ) (k : ℕ) (so_far : List Finding) (at : Sweep) (counts : List ℕ) : Type 0 where
  pub scanning : ScanLoop ring line k at.start.0 (last_start at.last) so_far at.looks
  pub before : TalliedBefore ring line at.start.0 counts (last_start at.last)
  pub size : length counts ≡ most_counts
  pub start_le : at.start.0 ≤ length line + 1

-- f starts at `from` to `to`, and its words are 32-bit words.
pub record FoundBetween (from to : ℕ) (f : Finding) : Type 0 where
  pub from_le : from ≤ f.start
  pub to_le : f.start ≤ to
  pub are_words : IsWords (finding_words f)

-- What a turn with the answer r gives: the invariant with r's finding behind those before; a next start that is not before this one; a smaller measure if a window fits
-- in the line here; and a finding that starts between the two starts.
pub record SweepTurn (ring line : List ℕ) (k : ℕ) (so_far : List Finding) (at : Sweep) (r : Swept) (counts : List ℕ) : Type 0 where
  pub keeps : SweepKeeps ring line k (so_far ++ found_of r) (state_of r) counts
  pub later : at.start.0 ≤ (state_of r).start.0
  pub less : FitsInLine ring line at.start.0 → length line + 1 - (state_of r).start.0 < length line + 1 - at.start.0
  pub found : (f : Finding) → found_of r ≡ f ∷ [] → FoundBetween at.start.0 (state_of r).start.0 f

module _ {ring doubled : List ℕ} {table : EdgeVectors} {p : Parts} {k : ℕ} {book counts₀ area : List ℕ} (can : CanScan ring doubled table p k book counts₀ area) where
  abbrev m : ℕ
  m = length ring

  -- the whole line, whose windows the parts hold
  abbrev line : List ℕ
  line = whole_line m p

  -- the search is within the limits
  within : CanSearch ring k (length line) (length area)
  within = can.can_scan.can_search

  abbrev n : ℕ
  n = length line

  -- The invariant holds before the first window, with nothing found.
  pub sweep_start : {at : Sweep} → at.start.0 ≡ 0 → last_start at.last ≡ None → at.looks ≡ 0 → SweepKeeps ring line k [] at counts₀
  sweep_start s l o = record {
    scanning = rw (s, l, o) (scan_start ring line k within.some_edge);
    before = rw l tt;
    size = can.size;
    start_le = omega arith;
  }

  module _ {so_far : List Finding} {at : Sweep} {counts : List ℕ} (h : SweepKeeps ring line k so_far at counts) where
    -- the sweep can go on by the rules
    can_sweep_lem : CanSweepOn ring doubled table line counts at
    can_sweep_lem =
        let most_line : n ≤ most_places = omega (arith, within.most_places) in
        record {
          can_sweep = record {
            can_read = record {
              some_edge = within.some_edge;
              most = within.most_ring;
              most_line = within.most_places;
              start_le = h.start_le;
            };
            looks_le = omega (
              arith,
              scan_so_far_le ring line k _ _ _ _ h.scanning,
              quick_looks_most ring line k within.some_edge,
              mul-le-mul within.most_ring (most_line),
            );
          };
          no_mark = sym (test_fails (holds_iff ring) within.no_mark);
          size = h.size;
          occurs = can.occurs;
          twice = can.twice;
          before = h.before;
        }

    module _ {counts' : List ℕ} where
      -- a turn after which no window fits in the line any more
      turn_ended : (next : Sweep) → IsSweptOn ring line k at (Ended next) counts' → SweepTurn ring line k so_far at (Ended next) counts'
      turn_ended next on =
          let e = on.ended refl in
          let rises : at.start.0 ≤ on.stop = stopped_from_le ring line k at.start.0 on.stopped_to in
          let start_is : next.start.0 ≡ on.stop = ap (λ (s : Sweep). s.start.0) e.next_is in
          record {
            keeps = record {
              scanning = rw (append-nil, e.next_is) (stopped_scanned ring line k at.start.0 (last_start at.last) so_far at.looks on.stopped_to h.scanning);
              before = rw e.next_is e.before;
              size = e.size;
              start_le = omega (arith, stopped_start_le ring line k at.start.0 h.start_le on.stopped_to);
            };
            later = omega arith;
            less = λ in_line. omega (arith, e.past);
            found = λ f none_is. absurd (let z : ◌≡◌ {A = ℕ} 0 1 = cc in omega arith);
          }

      -- a turn that verifies a candidate
      turn_verified : (r : Swept) → has_ended r ≡ false → IsSweptOn ring line k at r counts' → SweepTurn ring line k so_far at r counts'
      turn_verified r verified on =
          let c = on.candidate verified in
          let rises : at.start.0 ≤ on.stop = stopped_from_le ring line k at.start.0 on.stopped_to in
          let left = stopped_scanned ring line k at.start.0 (last_start at.last) so_far at.looks on.stopped_to h.scanning in
          record {
            keeps = record {
              scanning =
                  rw (c.start_is, c.last_is, c.looks_are, c.found_are)
                  (scan_verified ring line k on.stop (last_start at.last) so_far _ left c.in_line c.not_stopped);
              before = c.before;
              size = c.size;
              start_le = omega (arith, c.start_is, c.in_line);
            };
            later = omega (arith, c.start_is);
            less = λ in_line. omega (arith, c.start_is, c.in_line);
            found = λ f is.
                let here : found_at ring line k on.stop ≡ f ∷ [] = sym c.found_are ∙ is in
                let start_is : f.start ≡ on.stop = found_start ring line k on.stop f here in
                record {
                  from_le = omega arith;
                  to_le = omega (arith, c.start_is);
                  are_words = search_words ring line within (found_is ring line k within.some_edge on.stop f here);
                };
          }

      -- Every answer that meets the contract of `sweep_on` makes a turn.
      pub sweep_turn : {r : Swept} → IsSweptBy ring doubled table p k at counts counts' r → SweepTurn ring line k so_far at r counts'
      sweep_turn {r} by = go r (swept_by_rules ring doubled table p k counts at can.can_scan.joined can_sweep_lem counts' r by)
        where
          go : (r' : Swept) → IsSweptOn ring line k at r' counts' → SweepTurn ring line k so_far at r' counts'
          go (Ended next) on = turn_ended next on
          go (NoFinding next) on = turn_verified (NoFinding next) refl on
          go (Found next f) on = turn_verified (Found next f) refl on
