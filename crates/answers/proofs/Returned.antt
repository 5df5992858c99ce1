-- What a `?` on a refusal returns: this refusal.
use mathlib.Core.Path.{◌≡◌}
use Rattle.std.specs.Prelude.{Result, Err, IsErrAnd}
use Rattle.std.proofs.lemmas.Result.{err_from_is_err_and}
use Rattle.answers.specs.declared.refusals.Refusal.{Refusal}

-- A result of which a `?` says that it is an `Err` with this refusal.
pub returned : {T : Type 0} {r : Result T Refusal} {refusal : Refusal} → IsErrAnd r (λ e. e ≡ refusal) → r ≡ Err refusal
returned {r = r} says = let p = err_from_is_err_and r says in rw (p.1, p.2)
