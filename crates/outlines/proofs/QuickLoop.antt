-- The loop of `scan_windows`, for scan and report. `SweepKeeps` has the findings so far. Of these the shown ones are counted and written into the words, the
-- hidden ones are counted, and a field of the book is held (`HeldFrom`). A finding that the book hides is not written, any other is shown (`held_hides`).
use Prim.Native.Nat.{ℕ, ◌+◌, ◌-◌, ◌*◌, ◌≤◌, ◌<◌}
use mathlib.Core.Path.{◌≡◌, refl, sym, ap, ◌∙◌}
use mathlib.Core.Bool.{Bool, true, false, not}
use mathlib.Core.Logic.{⊎_elim}
use mathlib.Core.List.{List, [], ◌∷◌, ◌++◌, append-nil}
use Rattle.std.specs.Prelude.{None}
use native.Mathlib.Omega.{arith}
use lib.ListN.{length, length-append}
use Rattle.lists.proofs.Cases.{le_or_lt}
use Rattle.lists.specs.Areas.{written}
use Rattle.meaning.specs.Meanings.{FitsInLine, IsPastLine}
use Rattle.meaning.specs.Findings.{Finding, findings, words_of, words_each}
use Rattle.meaning.proofs.FindingsBelow.{below_length_le, findings_length_le, findings_short}
use Rattle.meaning.proofs.ScanLoop.{scan_found_le, scan_end}
use Rattle.silences.specs.Silences.{Silence}
use Rattle.silences.specs.Reading.{field_at, silences_read}
use Rattle.silences.specs.Addresses.{sought_of}
use Rattle.occurrences.specs.declared.table.EdgeVectors.{EdgeVectors}
use Rattle.windows.specs.Windows.{Parts, whole_line}
use Rattle.findings.specs.Limits.{most_places, CanSearch}
use Rattle.findings.proofs.WordsSoFar.{WordsSoFar, so_far_none, so_far_length, so_far_more}
use Rattle.sweep.specs.declared.sweeping.Sweep.{Sweep}
use Rattle.sweep.specs.declared.sweeping.Swept.{Swept}
use Rattle.sweep.specs.Sweeps.{IsSweptBy}
use Rattle.sweep.specs.SweepRules.{state_of, found_of}
use Rattle.sweep.specs.VerifyingRules.{last_start}
use Rattle.outlines.specs.declared.asking.BookAsked.{BookAsked}
use Rattle.outlines.specs.Report.{is_hidden, is_shown, taken_by, shown, hidden}
use Rattle.outlines.specs.Hiding.{hides_finding, CanAsk, IsHiddenOrShown, IsShownPut}
use Rattle.outlines.specs.LineScan.{CanScan, LineScanned}
use Rattle.outlines.proofs.TakenByTest.{taken_more_no, taken_more_yes}
use Rattle.outlines.proofs.ShownAndHidden.{shown_hidden_length}
use Rattle.outlines.proofs.HeldFrom.{HeldFrom, held_start, held_later, held_turn, held_hides}
use Rattle.outlines.proofs.SweepKeeps.{SweepKeeps, SweepTurn, sweep_start, sweep_turn}

-- The invariant of the loop of `scan_windows`.
pub record QuickLoop (cell ring_number : ℕ) (ring doubled : List ℕ) (table : EdgeVectors) (p : Parts) (k : ℕ) (book counts₀ area : List ℕ) (at : Sweep) (asked : BookAsked)
    (counts words : List ℕ) : Type 0 where
  pub can : CanScan ring doubled table p k book counts₀ area
  pub so_far : List Finding
  pub sweep : SweepKeeps ring (whole_line (length ring) p) k so_far at counts
  pub in_words : WordsSoFar area (shown (silences_read book) cell ring_number so_far) asked.shown words
  pub hidden_is : asked.hidden ≡ length (hidden (silences_read book) cell ring_number so_far)
  pub held_from : HeldFrom cell ring_number book at.start.0 asked.held

-- within the limits there is room for the words of all findings
room_for_all : (ring line : List ℕ) (k : ℕ) {room : ℕ} → CanSearch ring k (length line) room → words_each * length (findings ring line k) ≤ room
room_for_all ring line k within =
    ⊎_elim
    (λ long. omega (arith, within.room_for long, findings_length_le ring line k within.some_edge long))
    (λ short. omega (arith, ap (λ (l : List Finding). length l) (findings_short ring line k short)))
    (le_or_lt (length ring) (length line))

module _ {cell ring_number : ℕ} {ring doubled : List ℕ} {table : EdgeVectors} {p : Parts} {k : ℕ} {book counts₀ area : List ℕ} where
  -- The invariant holds before the first window, with nothing found and the book's first field.
  pub quick_start : (can : CanScan ring doubled table p k book counts₀ area) {at : Sweep} {asked : BookAsked}
      → at.start.0 ≡ 0 → last_start at.last ≡ None → at.looks ≡ 0
      → asked.shown ≡ 0 → asked.hidden ≡ 0 → sought_of asked.held ≡ field_at book 0
      → QuickLoop cell ring_number ring doubled table p k book counts₀ area at asked counts₀ area
  unfolding taken_by
  quick_start can {at} s l o no_shown no_hidden first = record {
    can = can;
    so_far = [];
    sweep = sweep_start can s l o;
    in_words = rw no_shown (so_far_none area);
    hidden_is = no_hidden;
    held_from = held_start at.start.0 first;
  }

  module _ {at : Sweep} {asked : BookAsked} {counts words : List ℕ} (h : QuickLoop cell ring_number ring doubled table p k book counts₀ area at asked counts words) where
    -- the whole line, whose windows the parts hold
    abbrev line : List ℕ
    line = whole_line (length ring) p

    abbrev ss : List Silence
    ss = silences_read book

    -- shown and hidden together are the findings so far
    counts_add : asked.shown + asked.hidden ≡ length h.so_far
    counts_add = omega (arith, h.in_words.count_is_lem, h.hidden_is, shown_hidden_length ss cell ring_number h.so_far)

    -- The numbers of shown and of hidden findings so far add up to at most 2^32.
    pub quick_found_le : asked.shown + asked.hidden ≤ most_places
    quick_found_le = omega (arith, counts_add, scan_found_le ring line k _ _ _ _ h.sweep.scanning, below_length_le ring line k (length line), h.can.can_scan.can_search.most_places)

    -- The lent words keep their length.
    pub quick_length : length words ≡ length area
    quick_length = so_far_length h.in_words (omega (arith, counts_add, scan_found_le ring line k _ _ _ _ h.sweep.scanning, room_for_all ring line k h.can.can_scan.can_search))

    -- If no window fits in the line any more, the contract of `scan_windows` is met.
    pub quick_end : IsPastLine ring line at.start.0
        → LineScanned cell ring_number ring line k book area (asked.shown + asked.hidden) asked.hidden at.looks words
    quick_end past =
        let e = scan_end ring line k _ _ _ _ h.sweep.scanning past in
        record {
          found_is = counts_add ∙ ap (λ (l : List Finding). length l) e.0;
          hidden_is = h.hidden_is ∙ ap (λ (l : List Finding). length (hidden ss cell ring_number l)) e.0;
          looks_are = e.1;
          words_are = h.in_words.words_are ∙ ap (λ (l : List Finding). written (words_of (shown ss cell ring_number l)) area) e.0;
        }

    module _ {r : Swept} {next : Sweep} {counts' : List ℕ} (swept : IsSweptBy ring doubled table p k at counts counts' r) (is_next : state_of r ≡ next) where
      -- what the turn gives for the sweep's part of the invariant
      turn : SweepTurn ring line k h.so_far at r counts'
      turn = sweep_turn h.can h.sweep swept

      -- The turn makes the measure n + 1 - start smaller.
      pub quick_less : FitsInLine ring line at.start.0 → length line + 1 - next.start.0 < length line + 1 - at.start.0
      quick_less in_line = rw is_next at (turn.less in_line)

      -- If the turn reports no finding, the invariant holds with the same words; nothing more is shown or hidden.
      pub quick_none : found_of r ≡ [] → QuickLoop cell ring_number ring doubled table p k book counts₀ area next asked counts' words
      quick_none e = record {
        can = h.can;
        so_far = h.so_far;
        sweep = rw (is_next, e, append-nil) at turn.keeps;
        in_words = h.in_words;
        hidden_is = h.hidden_is;
        held_from = held_later h.held_from (rw is_next at turn.later);
      }

      module _ {f : Finding} (e : found_of r ≡ f ∷ []) where
        -- If the turn reports a finding f, the precondition of `ask` holds for f.
        pub quick_can_ask : CanAsk asked f
        quick_can_ask =
            let found_le = quick_found_le in
            record { start_lt = (turn.found f e).are_words.each_lt 0; shown_le = omega arith; hidden_le = omega arith }

        module _ {asked' : BookAsked} (asks : IsHiddenOrShown cell ring_number book asked f asked') {out : List ℕ} (put : IsShownPut words asked.shown asked'.shown f out) where
          -- after the turn the sweep's part of the invariant holds, with f behind the findings so far
          sweep_next : SweepKeeps ring line k (h.so_far ++ f ∷ []) next counts'
          sweep_next = rw (is_next, e) at turn.keeps

          -- there is room for its words
          room_behind : words_each * asked.shown + words_each ≤ length area
          room_behind =
              omega (arith, counts_add, scan_found_le ring line k _ _ _ _ sweep_next.scanning, length-append h.so_far (f ∷ []), room_for_all ring line k h.can.can_scan.can_search)

          -- If the turn reports a finding f, the invariant holds after `ask` and `put_shown`.
          pub quick_found : QuickLoop cell ring_number ring doubled table p k book counts₀ area next asked' counts' out
          quick_found =
              go (is_hidden ss cell ring_number f) refl (held_hides h.held_from f (turn.found f e).from_le h.can.can_scan.book_read)
            where
              next_loop : WordsSoFar area (shown ss cell ring_number (h.so_far ++ f ∷ [])) asked'.shown out
                  → asked'.hidden ≡ length (hidden ss cell ring_number (h.so_far ++ f ∷ []))
                  → QuickLoop cell ring_number ring doubled table p k book counts₀ area next asked' counts' out
              next_loop in_words hidden_is = record {
                can = h.can;
                so_far = h.so_far ++ f ∷ [];
                sweep = sweep_next;
                in_words = in_words;
                hidden_is = hidden_is;
                held_from = held_turn h.held_from f (turn.found f e).from_le asks.held_is (rw is_next at (turn.found f e).to_le);
              }

              go : (t : Bool) → is_hidden ss cell ring_number f ≡ t → hides_finding cell ring_number book f (sought_of asked.held) ≡ t
                  → QuickLoop cell ring_number ring doubled table p k book counts₀ area next asked' counts' out
              go true told same =
                  let shown_is : asked'.shown ≡ asked.shown = rw same at asks.shown_is in
                  next_loop
                  (rw (taken_more_no (is_shown ss cell ring_number) h.so_far f (ap not told), shown_is, put.hidden_same (omega arith)) h.in_words)
                  (rw same at asks.hidden_is
                  ∙ omega (
                    arith,
                    h.hidden_is,
                    ap (λ (l : List Finding). length l) (taken_more_yes (is_hidden ss cell ring_number) h.so_far f told),
                    length-append (hidden ss cell ring_number h.so_far) (f ∷ []),
                  ))
              go false told same =
                  let shown_is : asked'.shown ≡ asked.shown + 1 = rw same at asks.shown_is in
                  next_loop
                  (rw (taken_more_yes (is_shown ss cell ring_number) h.so_far f (ap not told), shown_is)
                  (so_far_more h.in_words room_behind (turn.found f e).are_words (put.shown_put (omega arith))))
                  (rw same at asks.hidden_is ∙ h.hidden_is
                  ∙ ap (λ (l : List Finding). length l) (sym (taken_more_no (is_hidden ss cell ring_number) h.so_far f told)))
