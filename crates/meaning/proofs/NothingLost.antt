-- Nothing is lost at a jump: if a window is stopped, no place from its own to the last one jumped over is a finding. If it is left at a mark, each of these
-- places has the mark in its window, and is no start. If it is stopped at break k + 1, each has a distance above k. Each break comes from a
-- stretch that is the beginning of no rotation, so in every alignment one of its edges is unlike (`unlike_in_stretch`). These stretches do not overlap and lie
-- within the edges read. The windows of all those starts contain the edges read, so each start has a distance above k under every rotation.
use Prim.Native.Nat.{ℕ, zero, suc, pred, ◌+◌, ◌-◌, ◌*◌, ◌≤◌, ◌<◌}
use mathlib.Core.Path.{◌≡◌, refl, ap, subst}
use mathlib.Core.Bool.{true}
use mathlib.Core.Logic.{⊎_elim}
use mathlib.Core.List.{List, [], ◌∷◌}
use native.Mathlib.Nat.{add-zero, add-suc}
use native.Mathlib.Omega.{arith}
use lib.ListN.{length}
use Rattle.meaning.specs.Counting.{count}
use Rattle.meaning.specs.Meanings.{window_edge, IsStart, distance, lowest_rotation}
use Rattle.meaning.specs.Findings.{Finding, IsFinding, found_at}
use Rattle.meaning.specs.Rules.{Reading, unread, read_edge, is_stopped, read_left, read_window, next_start}
use Rattle.lists.proofs.Cases.{by_test}
use Rattle.meaning.proofs.Count.{count_split, count_part_le}
use Rattle.meaning.proofs.FitDecided.{fits_no}
use Rattle.meaning.proofs.Alignment.{unlike, distance_aligned, FromLine, unlike_in_stretch}
use Rattle.meaning.proofs.WindowRead.{by_edge, stopped_iff, window_read}
use Rattle.meaning.proofs.Starts.{no_start_over, no_start}
use Rattle.meaning.proofs.Places.{found_no_start, found_no}

module _ (ring line : List ℕ) (pos : 0 < length ring) (k i : ℕ) where
  -- In every alignment the edges read have at least as many unlike places as there are breaks.
  abbrev Costs : Reading → Type 0
  Costs w = (c : ℕ) → w.breaks ≤ count (unlike ring line c) (i + (length ring - w.read)) w.read

  -- The invariant while the window is read: the held stretch is the line's, and the `past` edges that were read before it have, in every alignment, at least as
  -- many unlike places as there are breaks.
  record BreaksCost (left : ℕ) (w : Reading) : Type 0 where
    past : ℕ
    all : w.read + left ≡ length ring
    parts : length w.held + past ≡ w.read
    from_line : FromLine ring line (i + left) w.held
    cost : (c : ℕ) → w.breaks ≤ count (unlike ring line c) (i + left + length w.held) past

  -- Before the first edge nothing is held, and nothing is past.
  counting_start : BreaksCost (length ring) (unread i)
  counting_start = record { past = 0; all = omega arith; parts = omega arith; from_line = tt; cost = λ c. omega arith }

  -- Wherever reading ends, all edges read have at least as many unlike places as there are breaks.
  counting_end : (left : ℕ) (w : Reading) → BreaksCost left w → Costs w
  counting_end left w h c =
      let at : i + (length ring - w.read) ≡ i + left = omega (arith, h.all) in
      omega (
        arith,
        h.cost c,
        count_split (unlike ring line c) (i + left) (length w.held) h.past,
        ap (count (unlike ring line c) (i + left)) h.parts,
        ap (λ (n : ℕ). count (unlike ring line c) n w.read) at,
      )

  module _ (left : ℕ) (w : Reading) (h : BreaksCost (suc left) w) where
    abbrev grown : List ℕ
    grown = window_edge line i left ∷ w.held

    -- The grown stretch is the line's too.
    grown_from_line : FromLine ring line (i + left) grown
    grown_from_line = (refl, subst (λ (n : ℕ). FromLine ring line n w.held) (add-suc i left) h.from_line)

    -- The edges past it are the same as before.
    grown_cost : (c : ℕ) → w.breaks ≤ count (unlike ring line c) (i + left + length grown) h.past
    grown_cost c =
        let at : i + suc left + length w.held ≡ i + left + length grown = omega arith in
        subst (λ (n : ℕ). w.breaks ≤ count (unlike ring line c) n h.past) at (h.cost c)

    -- If the edge is a mark, the grown stretch's edges join those past, without a new break. If the grown stretch fits, it is held. If not, its edges join those
    -- past, which then have one unlike place more, for the new break.
    counting_turn : BreaksCost left (read_edge ring (window_edge line i left) w)
    counting_turn =
        by_edge ring (window_edge line i left) w (BreaksCost left)
        (λ _. record {
          past = length grown + h.past;
          all = omega (arith, h.all);
          parts = omega (arith, h.parts);
          from_line = tt;
          cost = λ c. rw add-zero (omega (arith, grown_cost c, count_split (unlike ring line c) (i + left) (length grown) h.past));
        })
        (λ _ _. record {
          past = h.past;
          all = omega (arith, h.all);
          parts = omega (arith, h.parts);
          from_line = grown_from_line;
          cost = grown_cost;
        })
        (λ _ e. record {
          past = length grown + h.past;
          all = omega (arith, h.all);
          parts = omega (arith, h.parts);
          from_line = tt;
          cost = λ c.
              let no = fits_no ring grown pos (omega (arith, h.all, h.parts)) e (c + (i + left)) in
              rw add-zero (omega (
                arith,
                grown_cost c,
                unlike_in_stretch ring line c (i + left) grown grown_from_line no,
                count_split (unlike ring line c) (i + left) (length grown) h.past,
              ));
        })

  -- `Costs` holds after the edges left are read, until reading stops.
  left_costs : (left : ℕ) (w : Reading) → BreaksCost left w → Costs (read_left ring line k i left w)
  unfolding read_left
  left_costs zero w h = counting_end zero w h
  left_costs (suc left) w h =
      by_test Costs (is_stopped k w)
      (λ _. counting_end (suc left) w h)
      (λ _. left_costs left (read_edge ring (window_edge line i left) w) (counting_turn left w h))

  -- `Costs` holds for the whole window.
  window_costs : Costs (read_window ring line k i)
  unfolding read_window
  window_costs = left_costs (length ring) (unread i) counting_start

  -- Every start from the window's own to the last one before the next window has a distance, under every rotation, of at least the number of breaks.
  breaks_le : (i' r : ℕ) → i ≤ i' → i' < next_start ring (read_window ring line k i) → (read_window ring line k i).breaks ≤ distance ring line i' r
  breaks_le i' r lo hi =
      let w : Reading = read_window ring line k i in
      let was = window_read ring line k i in
      let left : ℕ = length ring - w.read in
      let c : ℕ = r + i' * pred (length ring) in
      let before : ℕ = i + left - i' in
      let after : ℕ = i' - i in
      let at : i' + before ≡ i + left = omega (arith, was.start_is) in
      let all : before + w.read + after ≡ length ring = omega (arith, was.start_is, was.read_le) in
      omega (
        arith,
        distance_aligned ring line pos i' r,
        window_costs c,
        ap (λ (n : ℕ). count (unlike ring line c) n w.read) at,
        ap (count (unlike ring line c) i') all,
        count_part_le (unlike ring line c) i' before w.read after,
      )

  module _ (i' : ℕ) (lo : i ≤ i') (hi : i' < next_start ring (read_window ring line k i)) where
    -- If the window at i is left at a mark, no place from i to the mark is a start: the window of each contains the mark.
    pub no_start_to_mark : (read_window ring line k i).at_mark ≡ true → IsStart ring line i' → ⊥
    no_start_to_mark left =
        let was = window_read ring line k i in
        let is = was.mark_is left in
        no_start_over ring line i' (i + (length ring - (read_window ring line k i).read)) is.is_mark (omega (arith, was.start_is)) (omega (arith, is.some_read))

    -- If the window at i is stopped, no finding is at i, nor at any place jumped over.
    pub nothing_lost : is_stopped k (read_window ring line k i) ≡ true → found_at ring line k i' ≡ []
    nothing_lost stop =
        ⊎_elim
        (λ many. found_no ring line k i' (omega (arith, breaks_le i' (lowest_rotation ring line i') lo hi)))
        (λ left. found_no_start ring line k i' (no_start ring line i' (no_start_to_mark left)))
        ((stopped_iff k (read_window ring line k i)).0 stop)

  -- In the words of the meaning: if the window at i is stopped, no finding starts at i or at a place jumped over.
  pub no_finding_jumped : is_stopped k (read_window ring line k i) ≡ true
      → (f : Finding) → i ≤ f.start → f.start < next_start ring (read_window ring line k i) → IsFinding ring line k f → ⊥
  no_finding_jumped stop f lo hi is =
      ⊎_elim
      (λ many. omega (arith, breaks_le f.start f.rotation lo hi, is.distance_is, is.at_most_k))
      (λ left. no_start_to_mark f.start lo hi left is.is_start)
      ((stopped_iff k (read_window ring line k i)).0 stop)
