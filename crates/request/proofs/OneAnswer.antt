-- The contract of `read_request` admits one answer only. Two answers stand for the same request, and the offsets follow from it: the line ends where the book begins
-- and begins its length before that; the ring ends a field's head before the line and begins its length before that.
use Prim.Native.Nat.{ℕ, ◌+◌, ◌-◌, ◌≤◌}
use mathlib.Core.Path.{◌≡◌, refl, sym, ap, ◌∙◌}
use mathlib.Core.List.{List}
use native.Mathlib.Omega.{arith}
use lib.ListN.{length, drop, length-drop}
use lib.Seq.{length-take-le}
use Rattle.std.specs.Prelude.{Result, Ok, Err, IfOk}
use Rattle.answers.specs.Paper.{Answer, accepted, refused}
use Rattle.answers.specs.declared.refusals.Refusal.{Refusal}
use Rattle.fields.specs.Tagged.{head_length}
use Rattle.request.specs.declared.reading.Parts.{Parts}
use Rattle.request.specs.Fields.{between}
use Rattle.request.specs.Input.{Request}
use Rattle.request.specs.RequestReading.{request_with, requested_of, PartsWithin, IsRequestRead}

-- the byte offsets of a request in its input, each computed from the one after it
abbrev line_to : List ℕ → Request → ℕ
line_to input q = length input - length q.book

abbrev line_from : List ℕ → Request → ℕ
line_from input q = line_to input q - length q.line

abbrev ring_to : List ℕ → Request → ℕ
ring_to input q = line_from input q - head_length

abbrev ring_from : List ℕ → Request → ℕ
ring_from input q = ring_to input q - length q.ring

-- the number of bytes between two offsets
between_length : (input : List ℕ) (from to : ℕ) → to ≤ length input → length (between input from to) ≡ to - from
between_length input from to h = length-take-le (to - from) (drop from input) (simp length-drop (omega arith))

-- a piece begins at its end less its length
begins_at : {from to long end : ℕ} → end ≡ to → long ≡ to - from → from ≤ to → end - long ≡ from
begins_at ends long_is h = omega (arith, ends, long_is, h)

-- and the piece before a head ends a head before the next piece
head_before : {from to end : ℕ} → end ≡ from → from ≡ to + head_length → end - head_length ≡ to
head_before begins behind = omega (arith, begins, behind)

-- parts that lie in the input lie at the offsets of their request
module _ {input : List ℕ} {p : Parts} (within : PartsWithin input p) where
  line_to_is : line_to input (request_with p) ≡ within.line_to
  line_to_is = begins_at refl (ap length within.book_is ∙ length-drop within.line_to input) within.line_within

  line_from_is : line_from input (request_with p) ≡ within.line_from
  line_from_is = begins_at line_to_is (ap length within.line_is ∙ between_length input within.line_from within.line_to within.line_within) within.line_le

  ring_to_is : ring_to input (request_with p) ≡ within.ring_to
  ring_to_is = head_before line_from_is within.line_behind

  ring_from_is : ring_from input (request_with p) ≡ within.ring_from
  ring_from_is = begins_at ring_to_is (ap length within.ring_is ∙ between_length input within.ring_from within.ring_to within.ring_within) within.ring_le

-- The parts of two answers lie at the same byte offsets of the input.
pub record LieAlike {input : List ℕ} {p p' : Parts} (a : PartsWithin input p) (b : PartsWithin input p') : Type 0 where
  pub ring_from : a.ring_from ≡ b.ring_from
  pub ring_to : a.ring_to ≡ b.ring_to
  pub line_from : a.line_from ≡ b.line_from
  pub line_to : a.line_to ≡ b.line_to

-- The same of two returned values. A refusal has no parts.
abbrev pub PartsLieAlike : (input : List ℕ) (r r' : Result Parts Refusal) → IfOk r (PartsWithin input) → IfOk r' (PartsWithin input) → Type 0
PartsLieAlike input (Ok p) (Ok p') a b = LieAlike a b
PartsLieAlike input (Ok p) (Err refusal) a b = Unit {0}
PartsLieAlike input (Err refusal) r' a b = Unit {0}

-- the request that is accepted
abbrev accepted_or : Request → Answer Request → Request
accepted_or other (accepted q) = q
accepted_or other (refused refusal) = other

-- parts of the same request lie at the same offsets
lie_alike : {input : List ℕ} {p p' : Parts} (a : PartsWithin input p) (b : PartsWithin input p') → request_with p ≡ request_with p' → LieAlike a b
lie_alike {input} a b same = record {
  ring_from = sym (ring_from_is a) ∙ ap (ring_from input) same ∙ ring_from_is b;
  ring_to = sym (ring_to_is a) ∙ ap (ring_to input) same ∙ ring_to_is b;
  line_from = sym (line_from_is a) ∙ ap (line_from input) same ∙ line_from_is b;
  line_to = sym (line_to_is a) ∙ ap (line_to input) same ∙ line_to_is b;
}

-- the parts of two answers that stand for the same request or refusal
parts_alike : (input : List ℕ) (r r' : Result Parts Refusal) (a : IfOk r (PartsWithin input)) (b : IfOk r' (PartsWithin input)) → requested_of r ≡ requested_of r'
    → PartsLieAlike input r r' a b
parts_alike input (Ok p) (Ok p') a b same = lie_alike a b (ap (accepted_or (request_with p)) same)
parts_alike input (Ok p) (Err refusal) a b same = tt
parts_alike input (Err refusal) r' a b same = tt

-- Any two answers of `read_request` that meet its contract are equal: the same refusal, or the same numbers and the same bytes of ring, line and book, at the same byte
-- offsets of the input.
pub requested_unique : (input : List ℕ) (r r' : Result Parts Refusal) (a : IsRequestRead input r) (b : IsRequestRead input r')
    → (requested_of r ≡ requested_of r') × PartsLieAlike input r r' a.within b.within
requested_unique input r r' a b = let same = a.is ∙ sym b.is in (same, parts_alike input r r' a.within b.within same)
