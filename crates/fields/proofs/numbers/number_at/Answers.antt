-- `fields::numbers::number_at` meets its contract. It returns 0 for more than four bytes and for bytes that reach past the end. After each byte the number is the
-- one in the bytes so far (`Numbered`), and at the end the one in all of them.
use Prim.Native.Nat.{◌+◌}
use mathlib.Core.Path.{◌∙◌}
use mathlib.Core.Logic.{⊎_elim}
use native.Mathlib.Omega.{arith}
use Rattle.fields.proofs.NumberLoop.{number_many, number_past, number_start, number_turn, number_lt, number_end, digit_at}
use Rattle.fields.proofs.numbers.number_at.Goals as goal

-- More than four bytes.
pub returns-then-count-gt-MOST_NUMBER_BYTES : goal.returns-then-count-gt-MOST_NUMBER_BYTES
returns-then-count-gt-MOST_NUMBER_BYTES c = number_many _ _ _ c.if-count-gt-MOST_NUMBER_BYTES.true

-- The offset lies past the end.
pub returns-in_default : goal.returns-in_default
returns-in_default c = number_past _ _ _ (⊎_elim (λ past. omega arith) (λ past. omega arith) c.in_default.ensures.lookup.0)

-- The bytes reach past the end.
pub returns-in_default-get : goal.returns-in_default-get
returns-in_default-get c =
    number_past _ _ _ (⊎_elim (λ past. omega arith) (λ past. omega (arith, c.in-Some.ensures.lookup.0)) c.in_default-get.ensures.lookup.0)

pub loop-byte-init : goal.loop-byte-init
loop-byte-init c = number_start _ _ _

pub overflow_mul-number : goal.overflow_mul-number
overflow_mul-number c = omega (arith, number_lt _ _ _ _ _ c.loop-byte.invariant (omega (arith, c.in-Some-get.ensures.lookup.0)))

pub overflow_add-number : goal.overflow_add-number
overflow_add-number c =
    let rest = c.in-Some.ensures.lookup.0 in
    let digits = c.in-Some-get.ensures.lookup.0 in
    let i = c.loop-byte.byte-index in
    omega (
      arith,
      number_lt _ _ _ _ _ c.loop-byte.invariant (omega (arith, digits)),
      digit_at c.args.bytes.now c.args.at i rest.2 digits.2 (omega (arith, digits)) (omega (arith, rest, digits)),
      c.type_inv.bytes (c.args.at + i),
    )

pub loop-byte-preserved : goal.loop-byte-preserved
loop-byte-preserved c =
    let rest = c.in-Some.ensures.lookup.0 in
    let digits = c.in-Some-get.ensures.lookup.0 in
    let i = c.loop-byte.byte-index in
    let byte_is = c.from.ensures ∙ digit_at c.args.bytes.now c.args.at i rest.2 digits.2 (omega (arith, digits)) (omega (arith, rest, digits)) in
    number_turn _ _ _ _ _ c.loop-byte.invariant _ (omega (arith, digits)) byte_is (omega (arith, byte_is, c.type_inv.bytes (c.args.at + i)))

-- The number in all the bytes.
pub returns : goal.returns
returns c =
    let rest = c.in-Some.ensures.lookup.0 in
    let digits = c.in-Some-get.ensures.lookup.0 in
    number_end _ _ _ _ _ c.loop-byte.invariant (omega (arith, digits)) c.if-count-gt-MOST_NUMBER_BYTES.false (omega (arith, rest, digits))
