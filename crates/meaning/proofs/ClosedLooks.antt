-- The looks on the closed line. For n ≥ m it is a line of n + m − 1 edges, so "The look bound reads with n + m − 1 in place of n", and so does the number of
-- the plain survey's looks. For n < m it is the line itself, and there is no look.
use Prim.Native.Nat.{ℕ, ◌+◌, ◌-◌, ◌*◌, ◌≤◌, ◌<◌}
use mathlib.Core.Path.{◌≡◌, ap, ◌∙◌, subst}
use mathlib.Core.List.{List}
use native.Mathlib.Nat.{mul-le-mul_left}
use native.Mathlib.Omega.{arith}
use lib.ListN.{length}
use Rattle.meaning.specs.Looks.{quick_looks, survey_looks}
use Rattle.meaning.specs.Closed.{closed_line}
use Rattle.meaning.proofs.LookBound.{quick_looks_le, quick_looks_short, quick_looks_most, look_bound_le}
use Rattle.meaning.proofs.SurveyLooks.{survey_looks_is, survey_looks_short}
use Rattle.meaning.proofs.ClosedLine.{closed_short, closed_length, closed_length_le}

module _ (ring line : List ℕ) where
  abbrev m : ℕ
  m = length ring

  abbrev n : ℕ
  n = length line

  abbrev closed : List ℕ
  closed = closed_line m line

  module _ (pos : 0 < m) (long : m ≤ n) where
    -- the closed line is at least as long as the ring
    closed_holds : m ≤ length closed
    closed_holds = omega (arith, closed_length m line pos long)

    -- For n ≥ m the quick scan takes at most 3·m·(n + m − 1) − 2·m·m + m looks on the closed line.
    pub closed_quick_looks_le : (k : ℕ) → quick_looks ring closed k ≤ 3 * m * (n + m - 1) - 2 * m * m + m
    closed_quick_looks_le k =
        subst (λ (size : ℕ). quick_looks ring closed k ≤ 3 * m * size - 2 * m * m + m) (closed_length m line pos long)
        (quick_looks_le ring closed k closed_holds)

    -- For n ≥ m the look bound of the closed line is at most 3·m·(n + m − 1).
    pub closed_bound_le : 3 * m * (n + m - 1) - 2 * m * m + m ≤ 3 * m * (n + m - 1)
    closed_bound_le =
        subst (λ (size : ℕ). 3 * m * size - 2 * m * m + m ≤ 3 * m * size) (closed_length m line pos long)
        (look_bound_le ring closed 0 pos closed_holds)

    -- For n ≥ m the plain survey takes 2·m·(n + m − 1) − m·m looks on the closed line.
    pub closed_survey_looks_is : survey_looks ring closed ≡ 2 * m * (n + m - 1) - m * m
    closed_survey_looks_is =
        survey_looks_is ring closed pos closed_holds ∙ ap (λ (size : ℕ). 2 * m * size - m * m) (closed_length m line pos long)

  module _ (short : n < m) where
    -- For n < m the quick scan takes "no look" on the closed line.
    pub closed_quick_looks_short : (k : ℕ) → quick_looks ring closed k ≡ 0
    closed_quick_looks_short k = ap (λ (whole : List ℕ). quick_looks ring whole k) (closed_short m line short) ∙ quick_looks_short ring line k short

    -- For n < m the plain survey takes "no look" on the closed line.
    pub closed_survey_looks_short : survey_looks ring closed ≡ 0
    closed_survey_looks_short = ap (survey_looks ring) (closed_short m line short) ∙ survey_looks_short ring line short

  -- Whatever n is, the quick scan takes at most 3·m·(n + m − 1) looks on the closed line, for a ring that is not empty.
  pub closed_quick_looks_most : 0 < m → (k : ℕ) → quick_looks ring closed k ≤ 3 * m * (n + m - 1)
  closed_quick_looks_most pos k =
      omega (arith, quick_looks_most ring closed k pos, mul-le-mul_left (3 * m) (closed_length_le m line pos))
