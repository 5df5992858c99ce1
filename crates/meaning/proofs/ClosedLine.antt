-- The closed line, place by place. For n ≥ m it has n + m − 1 places. Those below n have the line's own edges. A place n + p behind them has edge p of the
-- line, and (n + p) mod n is p, because p < m − 1 < n. So the edge at place q of the window at i is the line's edge (i + q) mod n.
use Prim.Native.Nat.{ℕ, suc, ◌+◌, ◌-◌, ◌%◌, ◌≤◌, ◌<◌}
use mathlib.Core.Path.{◌≡◌, refl, sym, ap, ◌∙◌}
use mathlib.Core.Logic.{⊎_elim}
use mathlib.Core.List.{List, ◌++◌}
use native.Mathlib.Nat.{mod-eq_of_lt, add-mod_left}
use native.Mathlib.Omega.{arith}
use lib.Dec.{leb}
use lib.ListN.{length, get_or, take, length-append, get_or-append}
use lib.Seq.{length-take-le, get_or-take, get_or-append-add}
use borrow.Author.Tests.{le-leb, lt-leb}
use Rattle.lists.proofs.Cases.{by_test, le_or_lt}
use Rattle.meaning.specs.Meanings.{window_edge}
use Rattle.meaning.specs.Closed.{closed_line, closed_edge}

module _ (m : ℕ) (line : List ℕ) where
  -- For n ≥ m the closed line is "the line followed by its first m−1 edges".
  pub closed_long : m ≤ length line → closed_line m line ≡ line ++ take (m - 1) line
  unfolding closed_line
  closed_long long = rw (le-leb m (length line) long)

  -- For n < m the closed line is the line itself.
  pub closed_short : length line < m → closed_line m line ≡ line
  unfolding closed_line
  closed_short short = rw (lt-leb m (length line) short)

  -- For n ≥ m the closed line has n + m − 1 edges, for a ring that is not empty.
  pub closed_length : 0 < m → m ≤ length line → length (closed_line m line) ≡ length line + m - 1
  closed_length pos long =
      ap length (closed_long long) ∙ omega (arith, length-append line (take (m - 1) line), length-take-le (m - 1) line (omega arith))

  -- Whatever n is, the closed line has at most n + m − 1 edges, for a ring that is not empty.
  pub closed_length_le : 0 < m → length (closed_line m line) ≤ length line + m - 1
  closed_length_le pos =
      ⊎_elim
      (λ long. omega (arith, closed_length pos long))
      (λ short. omega (arith, ap length (closed_short short)))
      (le_or_lt m (length line))

  -- The closed line begins with the line: at every place below n it has the line's edge.
  pub closed_begins : (p : ℕ) → p < length line → get_or (closed_line m line) p 0 ≡ get_or line p 0
  unfolding closed_line
  closed_begins p l =
      by_test (λ (closed : List ℕ). get_or closed p 0 ≡ get_or line p 0) (leb m (length line))
      (λ _. get_or-append line (take (m - 1) line) 0 p l)
      (λ _. refl)

  -- "edges continue from the beginning after the last": behind the line, the closed line has the line's first edges again.
  pub closed_continues : m ≤ length line → (p : ℕ) → p < m - 1 → get_or (closed_line m line) (length line + p) 0 ≡ get_or line p 0
  closed_continues long p l =
      ap (λ (closed : List ℕ). get_or closed (length line + p) 0) (closed_long long)
      ∙ get_or-append-add line (take (m - 1) line) p 0 ∙ get_or-take (m - 1) line p 0 l

  -- For n ≥ m, the edge at place q of the closed line's window at i is the line's edge (i + q) mod n.
  pub closed_edge_lem : m ≤ length line → (i q : ℕ) → i < length line → q < m → window_edge (closed_line m line) i q ≡ closed_edge line i q
  closed_edge_lem long i q in_line in_window =
      ⊎_elim
      (λ inside. closed_begins (i + q) inside ∙ ap (λ (p : ℕ). get_or line p 0) (sym (mod-eq_of_lt inside)))
      (λ across.
      let p : ℕ = i + q - length line in
      let place : i + q ≡ length line + p = omega arith in
      let around : (i + q) % length line ≡ p = ap (λ (x : ℕ). x % length line) place ∙ add-mod_left (length line) p ∙ mod-eq_of_lt (omega arith) in
      ap (λ (x : ℕ). get_or (closed_line m line) x 0) place
      ∙ closed_continues long p (omega arith)
      ∙ ap (λ (x : ℕ). get_or line x 0) (sym around))
      (le_or_lt (suc (i + q)) (length line))
