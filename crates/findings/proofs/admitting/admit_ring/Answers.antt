-- `findings::admitting::admit_ring` meets its contract: at each return the comparisons passed so far decide which of rows 1, 12, 2 is the first, or that none
-- is given (`LimitRows`).
use mathlib.Core.Path.{sym}
use mathlib.Core.Logic.{inl, inr, ⊎_elim}
use native.Mathlib.Omega.{arith}
use Rattle.meaning.proofs.Marks.{holds_iff}
use Rattle.findings.proofs.LimitRows.{unmarked, ring_1_iff, ring_12_iff, ring_2_iff, no_ring_iff}
use Rattle.findings.proofs.admitting.admit_ring.Goals as goal

-- An empty ring, or one that is too long.
pub returns-then-m-eq0 : goal.returns-then-m-eq0
returns-then-m-eq0 c = record { is = sym ((ring_1_iff _ _).1 (⊎_elim inl (λ long. inr long.1) c.then-m-eq0.either)) }

-- A ring that holds a mark, as `holds_mark` says; from here on it says that there is none.
pub returns-then-holds_mark : goal.returns-then-holds_mark
returns-then-holds_mark c = record { is = sym ((ring_12_iff _ _).1 (omega arith, (holds_iff _).0 (cc))) }

-- An allowance that is too large.
pub returns-then-m-k : goal.returns-then-m-k
returns-then-m-k c =
    let no_mark = unmarked c.holds_mark.ensures.is c.if-holds_mark.false in
    record { is = sym ((ring_2_iff _ _).1 (omega arith, (no_mark, omega arith))) }

-- All within the limits.
pub returns : goal.returns
returns c =
    let no_mark = unmarked c.holds_mark.ensures.is c.if-holds_mark.false in
    record { is = sym ((no_ring_iff _ _).1 (omega arith, (no_mark, omega arith))) }
