-- The contract of `answer` admits one answer only.
use Prim.Native.Nat.{ℕ}
use mathlib.Core.Path.{◌≡◌, sym, ◌∙◌}
use mathlib.Core.List.{List}
use Rattle.reply.specs.Answering.{IsAnswered}

-- Any two answers of `answer` that meet its contract are equal: the same length, and the same bytes in the lent area at exit.
pub answer_unique : (input area : List ℕ) (long long' : ℕ) (out out' : List ℕ) → IsAnswered input area long out → IsAnswered input area long' out'
    → (long ≡ long') × (out ≡ out')
answer_unique input area long long' out out' a a' = (a.long_is ∙ sym a'.long_is, a.written ∙ sym a'.written)
