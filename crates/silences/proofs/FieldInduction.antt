-- Induction from field to field. Each whole field takes at least one of the bytes left, and past the last byte no field stands (`field_ends`). So a property
-- that holds at a byte offset whenever it holds just past the whole field there, holds at every offset (`field_induction`). And a definition that goes from
-- field to field and counts down the bytes left never runs out of the count, so it has an equation without it (`count_step`).
use Prim.Native.Nat.{ℕ, zero, suc, ◌-◌, ◌≤◌, ◌<◌}
use mathlib.Core.Path.{◌≡◌, sym, ◌∙◌}
use mathlib.Core.List.{List}
use native.Mathlib.Omega.{arith}
use lib.ListN.{length}
use Rattle.silences.specs.Silences.{Silence}
use Rattle.silences.specs.Reading.{FieldAt, whole, field_at}
use Rattle.silences.proofs.FieldTest.{field_ends}

module _ (book : List ℕ) (P : ℕ → Type 0) (turn : (at : ℕ) → ((s : Silence) (next : ℕ) → field_at book at ≡ whole s next → P next) → P at) where
  -- with at most `left` bytes left
  over_bytes : (left at : ℕ) → length book - at ≤ left → P at
  over_bytes zero at h = turn at (λ s next e. absurd (let ends : (at < next) × (next ≤ length book) = field_ends book at s next e in omega arith))
  over_bytes (suc left) at h = turn at (λ s next e. let ends : (at < next) × (next ≤ length book) = field_ends book at s next e in over_bytes left next (omega arith))

  -- If P holds at an offset whenever it holds just past the whole field there, then P holds at every offset.
  pub field_induction : (at : ℕ) → P at
  field_induction at = over_bytes (length book - at) at (omega arith)

-- A step at an offset uses the values further on (`rest`) only just past a whole field.
abbrev pub GoesOnPast : {X B : Type 0} → (X → ℕ → FieldAt → (X → ℕ → B) → B) → Type 0
GoesOnPast {X} {B} step =
    (x : X) (at : ℕ) (f : FieldAt) (rest rest' : X → ℕ → B) → ((y : X) (s : Silence) (next : ℕ) → f ≡ whole s next → rest y next ≡ rest' y next)
    → step x at f rest ≡ step x at f rest'

-- `values left x at` is a definition with a count: with one more it takes a step at the field at `at`; once no byte is left the count does not matter.
module _ {X B : Type 0} (book : List ℕ) (step : X → ℕ → FieldAt → (X → ℕ → B) → B) (values : ℕ → X → ℕ → B)
    (goes_on : GoesOnPast step)
    (turn : (left : ℕ) (x : X) (at : ℕ) → values (suc left) x at ≡ step x at (field_at book at) (values left))
    (ends : (left : ℕ) (x : X) (at : ℕ) → length book ≤ at → values left x at ≡ values zero x at) where
  -- two counts that are large enough give the same
  counts_same : (left left' : ℕ) (x : X) (at : ℕ) → length book - at ≤ left → length book - at ≤ left' → values left x at ≡ values left' x at
  counts_same zero left' x at h h' = sym (ends left' x at (omega arith))
  counts_same (suc left) zero x at h h' = ends (suc left) x at (omega arith)
  counts_same (suc left) (suc left') x at h h' =
      turn left x at
      ∙ goes_on x at (field_at book at) (values left) (values left')
      (λ y s next e. let within : (at < next) × (next ≤ length book) = field_ends book at s next e in counts_same left left' y next (omega arith) (omega arith))
      ∙ sym (turn left' x at)

  -- With the bytes left as its count, the value at an offset is a step at the field there over the values past it, again with the bytes left as their count.
  pub count_step : (x : X) (at : ℕ) → values (length book - at) x at ≡ step x at (field_at book at) (λ y next. values (length book - next) y next)
  count_step x at =
      counts_same (length book - at) (suc (length book - at)) x at (omega arith) (omega arith)
      ∙ turn (length book - at) x at
      ∙ goes_on x at (field_at book at) (values (length book - at)) (λ y next. values (length book - next) y next)
      (λ y s next e. let within : (at < next) × (next ≤ length book) = field_ends book at s next e in counts_same (length book - at) (length book - next) y next (omega arith) (omega arith))
