-- Windows read with the ring's own vectors, up to the next candidate, are read by the rules. By induction on how many windows may still come: every window so
-- far was stopped (`StoppedTo`). The window at i is read as a line of its own (`read_by_rules`, `alone_reading` of crates/meaning). Either it is
-- stopped, and the next one starts later; or it is the candidate; or it does not fit in the line.
use Prim.Native.Nat.{ℕ, zero, suc, ◌+◌, ◌-◌, ◌≤◌}
use mathlib.Core.Path.{◌≡◌, refl, sym, ap, ap₂, ◌∙◌}
use mathlib.Core.Bool.{true, false}
use mathlib.Core.List.{List}
use Rattle.std.specs.Option.{is_some}
use native.Mathlib.Omega.{arith}
use lib.ListN.{length}
use Rattle.lists.proofs.Cases.{by_test}
use Rattle.meaning.specs.Meanings.{FitsInLine, IsPastLine, window, fits_in_line}
use Rattle.meaning.proofs.Starts.{fits_line_iff, past_line_iff}
use Rattle.meaning.specs.Rules.{stops_at, is_stopped, read_window}
use Rattle.meaning.proofs.WindowAlone.{alone_reading}
use Rattle.occurrences.specs.declared.table.EdgeVectors.{EdgeVectors}
use Rattle.windows.specs.Windows.{Parts, window_of, whole_line, Joined}
use Rattle.windows.proofs.WindowEdges.{fitting_window, fitting_length}
use Rattle.sweep.specs.declared.reading.WindowRead.{WindowRead}
use Rattle.sweep.specs.Reads.{unread, read_by, none_left, windows_on, windows_by}
use Rattle.sweep.specs.ReadingRules.{OwnVectors, IsWindowRead}
use Rattle.std.specs.Prelude.{Option, Some}
use Rattle.std.specs.Option.{unwrap_or}
use Rattle.std.proofs.lemmas.Option.{none-some}
use Rattle.answers.specs.declared.places.LinePlace.{LinePlace}
use Rattle.sweep.specs.SweepRules.{swept_start, StoppedTo, none_stopped, one_stopped, IsWindowsRead}
use Rattle.sweep.proofs.ReadByRules.{read_by_rules}

module _ (ring : List ℕ) (table : EdgeVectors) (p : Parts) (k from : ℕ) (own : OwnVectors ring table) (joined : Joined (length ring) p) where
  abbrev m : ℕ
  m = length ring

  -- the whole line, whose windows the parts hold
  abbrev line : List ℕ
  line = whole_line m p

  abbrev n : ℕ
  n = length line

  -- The result of reading the window at i.
  abbrev read : ℕ → WindowRead
  read i = read_by table (window_of m p i) k

  module _ (i looks : ℕ) (h : StoppedTo ring line k from i looks) where
    -- The case that no window fits in the line at i.
    ended : IsPastLine ring line i → IsWindowsRead ring line k from (none_left i looks)
    ended past = record { looks = looks; stopped_to = h; candidate_is = λ next e. absurd (none-some next e); ended = λ _. (past, refl) }

    module _ (in_line : FitsInLine ring line i) where
      alone : window_of m p i ≡ window m line i
      alone = fitting_window own.some_edge (record { is = refl }) in_line joined

      by_rules : IsWindowRead ring (window_of m p i) k (read i)
      by_rules = read_by_rules ring (window_of m p i) table k own (fitting_length own.some_edge (record { is = refl }) in_line)

      -- The looks are the edges that the rules read of the window at i in the line.
      reads_are : (read i).looks ≡ (read_window ring line k i).read
      reads_are = by_rules.read_is ∙ ap (λ (w : List ℕ). (read_window ring w k 0).read) alone ∙ (alone_reading ring line i k).read_is

      -- The window is stopped exactly when the rules stop it.
      stops_are : is_some (read i).stopped_at ≡ is_stopped k (read_window ring line k i)
      stops_are =
          let in_line_too = alone_reading ring line i k in
          by_rules.stopped_is ∙ ap (λ (w : List ℕ). is_stopped k (read_window ring w k 0)) alone ∙ ap₂ (stops_at k) in_line_too.breaks_is in_line_too.mark_is

      next_is : i + unread (read i) + 1 ≡ swept_start ring line k i
      next_is = omega (arith, reads_are, by_rules.left_is)

      -- The case that the window is stopped.
      stopped_here : is_some (read i).stopped_at ≡ true → StoppedTo ring line k from (i + unread (read i) + 1) (looks + (read i).looks)
      stopped_here stop = rw (next_is, reads_are) (one_stopped h in_line (sym stops_are ∙ stop))

      -- The case that it is the candidate.
      stops_here : is_some (read i).stopped_at ≡ false
          → IsWindowsRead ring line k from (record { start = record { 0 = i }; looks = looks + (read i).looks; next = Some (record { 0 = i + unread (read i) + 1 }) })
      stops_here goes_on = record {
        looks = looks;
        stopped_to = h;
        candidate_is = λ next e. record { in_line = in_line; not_stopped = sym stops_are ∙ goes_on; next_is = sym (ap (λ (o : Option LinePlace). (unwrap_or o next).0) e) ∙ next_is; looks_are = omega (arith, reads_are) };
        ended = λ e. absurd (none-some _ (sym e));
      }

  -- Reading windows from a start i before which every window was stopped follows the rules.
  windows_on_lem : (left i looks : ℕ) → n + 1 ≤ i + left → StoppedTo ring line k from i looks
      → IsWindowsRead ring line k from (windows_on ring table p k left i looks)
  unfolding windows_on
  windows_on_lem zero i looks enough h = ended i looks h (omega (arith, own.some_edge))
  windows_on_lem (suc left) i looks enough h =
      by_test (IsWindowsRead ring line k from) (fits_in_line ring line i)
      (λ passed.
      let in_line = (fits_line_iff ring line i).0 passed in
      by_test (IsWindowsRead ring line k from) (is_some (read i).stopped_at)
      (λ stop. windows_on_lem left (i + unread (read i) + 1) (looks + (read i).looks) (omega arith) (stopped_here i looks h in_line stop))
      (λ goes_on. stops_here i looks h in_line goes_on))
      (λ out. ended i looks h ((past_line_iff ring line i).0 out))

  -- Windows read with the ring's own vectors from a start of at most n + 1 on, up to the next candidate, are read by the rules.
  pub windows_by_rules : from ≤ n + 1 → IsWindowsRead ring line k from (windows_by ring table p k from)
  windows_by_rules start_le = windows_on_lem (n + 1 - from) from 0 (omega arith) none_stopped
